use Rattle.active_segs.proofs.PairLemmas.{IsFoundAt, List, None, Pairs, SetsPlace, ap, both_ways, is_some, place_in_gap, place_of, place_removed, subst, sym, ℕ, ◌∙◌, ◌≡◌}
use Rattle.active_segs.proofs.index.Sorted.remove.Goals as goal

pub unreachable-requires : goal.unreachable-requires
unreachable-requires c =
    let none : place_of c.args.self.now.pairs c.args.uid ≡ None =
    sym (ap (λ (v : Pairs). place_of v.pairs c.args.uid) c.self.view_is)
    ∙ place_in_gap _ _ _ (rw c.deref.ensures.value at c.in-Err.ensures.absent) in
    both_ways _ (ap is_some none) c.requires.there

pub returns-clause-sets : goal.returns-clause-sets
returns-clause-sets c =
    let found : IsFoundAt c.self.inside.pairs.items c.args.uid c.in-Ok.at =
    subst (λ (l : List (ℕ × ℕ)). IsFoundAt l c.args.uid c.in-Ok.at) c.deref.ensures.value c.in-Ok.ensures.found in
    let sets : SetsPlace c.self.inside.pairs.items c.remove.new.self.items c.args.uid None =
    subst (λ (l : List (ℕ × ℕ)). SetsPlace c.self.inside.pairs.items l c.args.uid None) (sym c.remove.ensures.items)
    (place_removed _ _ _ c.self.invariant.0 found) in
    subst (λ (v : Pairs). SetsPlace v.pairs c.remove.new.self.items c.args.uid None) c.self.view_is sets
