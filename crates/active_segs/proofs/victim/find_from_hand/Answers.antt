use Rattle.active_segs.proofs.Prelude.{ap, both_ways, entry_at, is_some, off_chain, places_from, sym, ◌∙◌}
use Rattle.active_segs.proofs.DescentLemmas.{find_first, find_second}
use Rattle.active_segs.proofs.victim.find_from_hand.Goals as goal

pub returns-in-Some : goal.returns-in-Some
returns-in-Some c = find_first (λ place. off_chain c.args.chain.now (entry_at c.args.entries.now place))
    (places_from c.args.hand c.args.end) (places_from c.args.first c.args.hand) c.in-Some.place (sym c.in-Some.ensures)

pub unreachable-requires : goal.unreachable-requires
unreachable-requires c =
    let second = find_second (λ place. off_chain c.args.chain.now (entry_at c.args.entries.now place))
    (places_from c.args.hand c.args.end) (places_from c.args.first c.args.hand) (sym c.in_default.ensures) in
    both_ways _ (ap is_some (second ∙ sym c.in-None.ensures)) c.requires.some

pub returns : goal.returns
returns c =
    let second = find_second (λ place. off_chain c.args.chain.now (entry_at c.args.entries.now place))
    (places_from c.args.hand c.args.end) (places_from c.args.first c.args.hand) (sym c.in_default.ensures) in
    second ∙ sym c.in-Some-first_off_chain.ensures
