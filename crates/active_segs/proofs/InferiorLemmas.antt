-- The maps of inferiors after a segment has become active or is so no more, and what their least free number is.
pub use Rattle.active_segs.proofs.Prelude.{All, AreNoted, Bool, Entry, HasFlag, HasNoInferior, IfSome, IsActive, IsFirstFree, IsIndexed, IsInferior, IsLeastInferior, IsTree, List, None, Option, Pairs, Some, SuperiorsAreActive, [], ap, arith, both_ways, cases_Bool, cases_eq, entry_at, false, get_or, get_or-set_other, get_or-set_same, get_or_read, in_use, inl, inr, length, length-set, map_of, map_set, none-some, noted, place_of_superior, refl, rules, same_Some, set, subst, superior_at, superior_in, sym, true, uid_at, uid_in, ℕ, ◌<◌, ◌↔◌, ◌∙◌, ◌≡◌, ◌≢◌}
pub use Rattle.active_segs.proofs.EntryLemmas.{entry_kept, entry_set, superior_within, uid_kept, uid_set, used_within}

-- ---- where the superior's place is

abbrev pub IsSuperiorPlace : List (Option Entry) → Option ℕ → Option ℕ → Type 0
IsSuperiorPlace xs None place = place ≡ None
IsSuperiorPlace xs (Some s) place = (r : ℕ) × (place ≡ Some r) × (uid_at xs r ≡ Some s)

pub superior_placed : (xs : List (Option Entry)) (index : Pairs) → IsIndexed xs index → (superior : Option ℕ) → ((s : ℕ)
    → superior ≡ Some s → IsActive xs s) → IsSuperiorPlace xs superior (place_of_superior index.pairs superior)
superior_placed xs index indexed None above = refl
superior_placed xs index indexed (Some s) above = let active : IsActive xs s =
    above s refl in (active.0, (indexed.places active.0 s).1 active.1, active.1)

-- the superior of an active segment has a place
pub superior_of_active : (xs : List (Option Entry)) (index : Pairs) (p : ℕ) (e : Entry) → IsIndexed xs index
    → IsTree xs → entry_at xs p ≡ Some e → IsSuperiorPlace xs e.superior (place_of_superior index.pairs e.superior)
superior_of_active xs index p e indexed tree is = superior_placed xs index indexed e.superior
    (λ s h. tree.superiors p s (ap superior_in is ∙ h))

-- no superior of an active segment is a segment that isn't active
inactive_has_none : (xs : List (Option Entry)) (uid : ℕ) → SuperiorsAreActive xs → ((q : ℕ) → uid_at xs q ≢ Some uid)
    → (q : ℕ) → superior_at xs q ≢ Some uid
inactive_has_none xs uid superiors inactive q e = let active = superiors q uid e in inactive active.0 active.1

superior_kept : (xs : List (Option Entry)) (p : ℕ) (e : Option Entry) (q : ℕ) → q ≢ p → superior_at (set xs p e) q
    ≡ superior_at xs q
superior_kept xs p e q ne = ap superior_in (entry_kept xs p e q ne)

superior_set : (xs : List (Option Entry)) (p : ℕ) (e : Option Entry) → p < length xs → superior_at (set xs p e) p
    ≡ superior_in e
superior_set xs p e lt = ap superior_in (entry_set xs p e lt)

module _ (xs : List (Option Entry)) (maps : List (List Bool)) (notes : AreNoted xs maps) where
  within_maps : (r s : ℕ) → uid_at xs r ≡ Some s → r < length maps
  within_maps r s active = omega (arith, used_within xs r s active, notes.maps)

  within_map : (r s p : ℕ) → uid_at xs r ≡ Some s → p < length xs → p < length (map_of maps r)
  within_map r s p active lt = omega (arith, notes.as_long r (used_within xs r s active))

  -- where nothing is active no inferior is noted
  not_noted : (r s p : ℕ) → uid_at xs r ≡ Some s → p < length xs → entry_at xs p ≡ None → in_use (map_of maps r) p
      ≡ true
  not_noted r s p active lt free = elim (cases_Bool (in_use (map_of maps r) p)) [
    | inl on ↦ on
    | inr off ↦ (let h : IsInferior xs r p = (notes.free r p (used_within xs r s active) lt).0 off in absurd
        (none-some h.0 (sym (ap superior_in free) ∙ h.2)))
  ]

  -- ---- what the calls ask

  pub may_note : (superior above : Option ℕ) (p : ℕ) → p < length xs → entry_at xs p ≡ None
      → IsSuperiorPlace xs superior above → IfSome above (HasFlag maps p true)
  may_note None above p lt free placed = rw placed tt
  may_note (Some s) above p lt free (r, is, active) = rw is (record {
    known = within_maps r s active;
    within = within_map r s p active lt;
    is = not_noted r s p active lt free;
  })

  pub may_forget : (superior above : Option ℕ) (p : ℕ) → p < length xs → superior_at xs p ≡ superior
      → IsSuperiorPlace xs superior above → IfSome above (HasFlag maps p false)
  may_forget None above p lt is_superior placed = rw placed tt
  may_forget (Some s) above p lt is_superior (r, is, active) = rw is (record {
    known = within_maps r s active;
    within = within_map r s p active lt;
    is = (notes.free r p (used_within xs r s active) lt).1 (s, active, is_superior);
  })

  -- ---- what the maps say

  -- the least free number of a map is the place of the least inferior
  pub least_since_noted : (place q : ℕ) → place < length xs → IsFirstFree (map_of maps place) q
      → IsLeastInferior xs place q
  least_since_noted place q lt first =
      let h : IsInferior
      xs place q = (notes.free place q lt (omega (arith, notes.as_long place lt, first.within))).0 first.free in
      record {
        uid = h.0;
        is = h.1;
        inferior = h.2;
        least = λ k before e. both_ways _ ((notes.free place k lt (superior_within xs k h.0 e)).1 (h.0, h.1, e))
            (first.before k before);
      }

  -- and where none is free there is none
  -- the map of a place, as it is read
  pub noted_map : (place : ℕ) (map : List Bool) → place < length xs → map ≡ get_or maps place map → map
      ≡ map_of maps place
  noted_map place map lt read = get_or_read maps place map (omega (arith, notes.maps)) read []

  pub leaf_since_noted : (place : ℕ) → place < length xs → All (λ flag. flag ≡ true) (map_of maps place)
      → HasNoInferior xs place
  leaf_since_noted place lt all q uid is e =
      let within = superior_within xs q uid e in
      both_ways _ ((notes.free place q lt within).1 (uid, is, e)) (all q false (omega (arith, notes.as_long place lt)))

  pub leaf_read : (place : ℕ) (map : List Bool) → place < length xs → map ≡ get_or maps place map
      → All (λ flag. flag ≡ true) map → HasNoInferior xs place
  leaf_read place map lt read all = leaf_since_noted place lt
      (subst (All (λ (flag : Bool). flag ≡ true)) (noted_map place map lt read) all)

  -- ---- a flag changes

  as_many : (above : Option ℕ) (p : ℕ) (b : Bool) → length (noted maps above p b) ≡ length maps
  as_many None p b = refl
  as_many (Some r) p b = length-set maps r (set (map_of maps r) p b)

  map_here : (r p : ℕ) (b : Bool) → r < length maps → map_of (map_set maps r p b) r ≡ set (map_of maps r) p b
  map_here r p b lt = get_or-set_same maps r (set (map_of maps r) p b) [] lt

  map_there : (r p : ℕ) (b : Bool) (place : ℕ) → place ≢ r → map_of (map_set maps r p b) place ≡ map_of maps place
  map_there r p b place ne = get_or-set_other maps r place (set (map_of maps r) p b) [] ne

  as_long_still : (above : Option ℕ) (p : ℕ) (b : Bool) (place : ℕ) → place < length maps
      → length (map_of (noted maps above p b) place) ≡ length (map_of maps place)
  as_long_still None p b place lt = refl
  as_long_still (Some r) p b place lt = elim (cases_eq place r) [
    | inl same ↦ rw same (ap length (map_here r p b (rw same at lt)) ∙ length-set (map_of maps r) p b)
    | inr ne ↦ ap length (map_there r p b place ne)
  ]

  elsewhere : (above : Option ℕ) (p : ℕ) (b : Bool) (place q : ℕ) → place < length maps → q ≢ p
      → in_use (map_of (noted maps above p b) place) q ≡ in_use (map_of maps place) q
  elsewhere None p b place q lt ne = refl
  elsewhere (Some r) p b place q lt ne = elim (cases_eq place r) [
    | inl same ↦
        rw same (ap (λ (m : List Bool). in_use m q) (map_here r p b (rw same at lt))
        ∙ get_or-set_other (map_of maps r) p q b false ne)
    | inr off ↦ ap (λ (m : List Bool). in_use m q) (map_there r p b place off)
  ]

  flag_here : (r p : ℕ) (b : Bool) → r < length maps → p < length (map_of maps r)
      → in_use (map_of (map_set maps r p b) r) p ≡ b
  flag_here r p b lt within = rw (map_here r p b lt) (get_or-set_same (map_of maps r) p b false within)

  -- what is active in place p changes, and the flag of p in the map of its superior: the maps are as many and as long
  -- as before, and no other flag has changed
  noted_with : (new : Option Entry) (above : Option ℕ) (p : ℕ) (b : Bool) → ((place : ℕ) → place < length xs
      → (in_use (map_of (noted maps above p b) place) p ≡ false) ↔ IsInferior (set xs p new) place p)
      → ((place q : ℕ) → q ≢ p → IsInferior xs place q → IsInferior (set xs p new) place q) → ((place q : ℕ) → q ≢ p
      → IsInferior (set xs p new) place q → IsInferior xs place q) → AreNoted (set xs p new) (noted maps above p b)
  noted_with new above p b here still was =
      let size = length-set xs p new in
      let many = notes.maps in
      record {
        maps = as_many above p b ∙ many ∙ sym size;
        as_long = λ place within. as_long_still above p b place (omega arith) ∙ notes.as_long place (omega arith)
            ∙ sym size;
        free = λ place q within within_q. elim (cases_eq q p) [
          | inl same ↦ rw same (here place (omega arith))
          | inr off ↦
              (let kept = elsewhere above p b place q (omega arith) off in
              let old = notes.free place q (omega arith) (omega arith) in (
                λ h. still place q off (old.0 (sym kept ∙ h)),
                λ h. kept ∙ old.1 (was place q off h),
              ))
        ];
      }

  -- ---- a segment becomes active

  module _ (tree : IsTree xs) (p uid : ℕ) (lt : p < length xs) (free : entry_at xs p ≡ None)
      (inactive : (q : ℕ) → uid_at xs q ≢ Some uid) where
    with_new : Option ℕ → List (Option Entry)
    with_new superior = set xs p (Some (record { uid = uid; superior = superior }))

    off_new : (place u : ℕ) → uid_at xs place ≡ Some u → place ≢ p
    off_new place u is same = none-some u (sym (ap uid_in free) ∙ (rw same at is))

    none_there : (place : ℕ) → IsInferior xs place p → ⊥
    none_there place h = none-some h.0 (sym (ap superior_in free) ∙ h.2)

    still_inferior : (superior : Option ℕ) (place q : ℕ) → q ≢ p → IsInferior xs place q
        → IsInferior (with_new superior) place q
    unfolding with_new
    still_inferior superior place q ne (u, is, e) =
        let new : Option Entry = Some (record { uid = uid; superior = superior }) in
        (u, uid_kept xs p new place (off_new place u is) ∙ is, superior_kept xs p new q ne ∙ e)

    was_inferior : (superior : Option ℕ) (place q : ℕ) → q ≢ p → IsInferior (with_new superior) place q
        → IsInferior xs place q
    unfolding with_new
    was_inferior superior place q ne (u, is, e) =
        let new : Option Entry = Some (record { uid = uid; superior = superior }) in
        let e' : superior_at xs q ≡ Some u = sym (superior_kept xs p new q ne) ∙ e in
        elim (cases_eq place p) [
          | inl same ↦
              (let is_uid : u ≡ uid = same_Some _ _ (sym (rw same at is) ∙ uid_set xs p new lt) in
              absurd (inactive_has_none xs uid tree.superiors inactive q (e' ∙ ap (λ (k : ℕ). Some k) is_uid)))
          | inr off ↦ (u, sym (uid_kept xs p new place off) ∙ is, e')
        ]

    -- at the new segment's place
    at_new : (superior above : Option ℕ) (place : ℕ) → place < length xs → IsSuperiorPlace xs superior above
        → (in_use (map_of (noted maps above p false) place) p ≡ false) ↔ IsInferior (with_new superior) place p
    unfolding with_new
    at_new None above place within placed =
        let new : Option Entry = Some (record { uid = uid; superior = None }) in (
          λ h. absurd (none_there place ((notes.free place p within lt).0 (rw placed at h))),
          λ h. absurd (none-some h.0 (sym (superior_set xs p new lt) ∙ h.2)),
        )
    at_new (Some s) above place within (r, is, active) =
        let new : Option Entry = Some (record { uid = uid; superior = Some s }) in
        rw is (elim (cases_eq place r) [
          | inl same ↦
              (let inferior : IsInferior (set xs p new) r p =
              (s, uid_kept xs p new r (off_new r s active) ∙ active, superior_set xs p new lt) in
              rw same (λ h. inferior, λ h. flag_here r p false (within_maps r s active) (within_map r s p active lt)))
          | inr off ↦ (
            λ h. absurd (none_there place ((notes.free place p within lt).0
                (sym (ap (λ (m : List Bool). in_use m p) (map_there r p false place off)) ∙ h))),
            λ h. (let is_s : s ≡ h.0 = same_Some _ _ (sym (superior_set xs p new lt) ∙ h.2) in
                elim (cases_eq place p) [
                  | inl same ↦
                      (let is_uid : h.0 ≡ uid = same_Some _ _ (sym (rw same at h.1) ∙ uid_set xs p new lt) in
                      absurd (inactive r (active ∙ ap (λ (k : ℕ). Some k) (is_s ∙ is_uid))))
                  | inr other ↦ absurd (off (tree.once place r h.0 (sym (uid_kept xs p new place other) ∙ h.1)
                      (active ∙ ap (λ (k : ℕ). Some k) is_s)))
                ]),
          )
        ])

    pub noted_activated : (superior above : Option ℕ) → IsSuperiorPlace xs superior above
        → AreNoted (set xs p (Some (record { uid = uid; superior = superior }))) (noted maps above p false)
    unfolding with_new
    noted_activated superior above placed = noted_with (Some (record { uid = uid; superior = superior })) above p false
        (λ place within. at_new superior above place within placed) (still_inferior superior) (was_inferior superior)

  -- ---- nothing is active in a place any more

  module _ (tree : IsTree xs) (p : ℕ) (lt : p < length xs) (leaf : HasNoInferior xs p) where
    inferior_left : (place q : ℕ) → q ≢ p → IsInferior xs place q → IsInferior (set xs p None) place q
    inferior_left place q ne (u, is, e) =
        let off : place ≢ p = λ same. leaf q u (rw same at is) e in
        (u, uid_kept xs p None place off ∙ is, superior_kept xs p None q ne ∙ e)

    inferior_before : (place q : ℕ) → q ≢ p → IsInferior (set xs p None) place q → IsInferior xs place q
    inferior_before place q ne (u, is, e) =
        let off : place ≢ p = λ same. none-some u (sym (uid_set xs p None lt) ∙ (rw same at is)) in
        (u, sym (uid_kept xs p None place off) ∙ is, sym (superior_kept xs p None q ne) ∙ e)

    -- at the place that became free
    not_at_gone : (superior above : Option ℕ) (place : ℕ) → place < length xs → superior_at xs p ≡ superior
        → IsSuperiorPlace xs superior above → in_use (map_of (noted maps above p true) place) p ≢ false
    not_at_gone None above place within is_superior placed off =
        let h : IsInferior xs place p = (notes.free place p within lt).0 (rw placed at off) in
        none-some h.0 (sym is_superior ∙ h.2)
    not_at_gone (Some s) above place within is_superior (r, is, active) off =
        let off' : in_use (map_of (map_set maps r p true) place) p ≡ false = rw is at off in
        elim (cases_eq place r) [
          | inl same ↦
              both_ways _ (rw same at off') (flag_here r p true (within_maps r s active) (within_map r s p active lt))
          | inr ne ↦
              (let h : IsInferior xs place p =
              (notes.free place p within lt).0 (sym (ap (λ (m : List Bool). in_use m p) (map_there r p true place ne))
              ∙ off') in
              ne (tree.once place r h.0 h.1 (active ∙ ap (λ (k : ℕ). Some k) (same_Some _ _ (sym is_superior ∙ h.2)))))
        ]

    pub noted_deactivated : (superior above : Option ℕ) → superior_at xs p ≡ superior
        → IsSuperiorPlace xs superior above → AreNoted (set xs p None) (noted maps above p true)
    noted_deactivated superior above is_superior placed = noted_with None above p true (λ place within. (
      λ off. absurd (not_at_gone superior above place within is_superior placed off),
      λ h. absurd (none-some h.0 (sym (superior_set xs p None lt) ∙ h.2)),
    )) inferior_left inferior_before
