use Rattle.active_segs.proofs.Prelude.{entry_at, off_chain, sym, ◌∙◌}
use Rattle.active_segs.proofs.DescentLemmas.{finds_later}
use Rattle.active_segs.proofs.victim.first_off_chain.Goals as goal

pub loop-place-preserved : goal.loop-place-preserved
loop-place-preserved c =
    finds_later (λ place. off_chain c.args.chain.now (entry_at c.args.entries.now place)) c.loop-place.place c.args.to
    c.loop-place-test.true (sym c.if-is_off_chain.ensures) ∙ c.loop-place.invariant
