use Rattle.active_segs.proofs.PairLemmas.{answers_always, rules, searched}
use Rattle.active_segs.proofs.index.search.Goals as goal

pub returns : goal.returns
returns c =
    let facts = c.binary_search_by_key.ensures in
    let by_key = facts.position (λ pair. pair.0) (answers_always _ _ _ (λ f a r g called. search rules)) in
    searched _ c.requires c.args.uid _ facts.bound by_key
