use Rattle.active_segs.proofs.PairLemmas.{BelongsAt, IsAscending, IsFoundAt, List, None, Pairs, SetsPlace, Some, ap, arith, ascending_inserted, length, place_found, place_of, sets_inserted, subst, sym, ℕ, ◌<◌, ◌∙◌, ◌≡◌}
use Rattle.active_segs.proofs.index.Sorted.insert.Goals as goal

pub unreachable-requires : goal.unreachable-requires
unreachable-requires c =
    let found : IsFoundAt c.self.inside.pairs.items c.args.uid c.in-Ok.field-0 =
    rw c.deref.ensures.value at c.in-Ok.ensures.found in
    let place : place_of c.self.inside.pairs.items c.args.uid ≡ Some _ = place_found _ c.self.invariant.0 _ _ found in
    let absent : place_of c.self.inside.pairs.items c.args.uid ≡ None =
    ap (λ (v : Pairs). place_of v.pairs c.args.uid) c.self.view_is ∙ c.requires.absent in cc

pub invariant_of-self : goal.invariant_of-self
invariant_of-self c =
    let gap : BelongsAt c.self.inside.pairs.items c.args.uid c.in-Err.at =
    subst (λ (l : List (ℕ × ℕ)). BelongsAt l c.args.uid c.in-Err.at) c.deref.ensures.value c.in-Err.ensures.absent in
    let room : length c.self.inside.pairs.items < c.self.inside.room =
    subst (λ (v : Pairs). length v.pairs < v.room) (sym c.self.view_is) c.requires.room in
    let sorted = ascending_inserted _ _ _ gap c.args.place c.self.invariant.0 in (
      subst IsAscending (sym c.in-Ok-insert.ensures.items) sorted,
      omega (arith, c.in-Ok-insert.ensures.len, room),
      omega (arith, c.in-Ok-insert.ensures.capacity),
    )

pub returns-clause-sets : goal.returns-clause-sets
returns-clause-sets c =
    let gap : BelongsAt c.self.inside.pairs.items c.args.uid c.in-Err.at =
    subst (λ (l : List (ℕ × ℕ)). BelongsAt l c.args.uid c.in-Err.at) c.deref.ensures.value c.in-Err.ensures.absent in
    let sets : SetsPlace c.self.inside.pairs.items c.insert.new.self.items c.args.uid (Some c.args.place) =
    subst (λ (l : List (ℕ × ℕ)). SetsPlace c.self.inside.pairs.items l c.args.uid (Some c.args.place))
    (sym c.in-Ok-insert.ensures.items) (sets_inserted _ _ _ gap c.args.place) in
    subst (λ (v : Pairs). SetsPlace v.pairs c.insert.new.self.items c.args.uid (Some c.args.place)) c.self.view_is sets
