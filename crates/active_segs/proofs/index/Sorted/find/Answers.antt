use Rattle.active_segs.proofs.PairLemmas.{IsFoundAt, Pairs, Some, ap, get_or_default, place_found, place_in_gap, place_of, sym, ℕ, ◌∙◌}
use Rattle.active_segs.proofs.index.Sorted.find.Goals as goal

pub returns-in-Ok : goal.returns-in-Ok
returns-in-Ok c =
    let found : IsFoundAt c.self.inside.pairs.items c.args.uid c.in-Ok.at =
    rw c.deref.ensures.value at c.in-Ok.ensures.found in
    ap (λ (x : ℕ × ℕ). Some x.1) (c.index.ensures ∙ get_or_default _ _ c.index.result.now (0, 0) found.within)
    ∙ sym (place_found _ c.self.invariant.0 _ _ found) ∙ ap (λ (v : Pairs). place_of v.pairs c.args.uid) c.self.view_is

pub returns-in-Err : goal.returns-in-Err
returns-in-Err c =
    sym (place_in_gap _ _ _ (rw c.deref.ensures.value at c.in-Err.ensures.absent))
    ∙ ap (λ (v : Pairs). place_of v.pairs c.args.uid) c.self.view_is
