use Rattle.active_segs.proofs.SplitLemmas.{Pairs, ap, finds_list, place_of, ◌∙◌}
use Rattle.active_segs.proofs.index.Index.find.Goals as goal

pub returns : goal.returns
returns c = c.find.ensures ∙ finds_list c.self.inside.lists.items c.self.inside.room c.args.uid c.self.invariant
    c.index.result.now c.index.ensures ∙ ap (λ (v : Pairs). place_of v.pairs c.args.uid) c.self.view_is
