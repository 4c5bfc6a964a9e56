-- The place in which a segment is active.
pub use Rattle.seg_control.proofs.Prelude.{ActiveSegs, AreCopied, Bool, CanBegin, Entry, Err, Home, IfSome, IsActive, IsCopied, IsKeptAtRest, IsLeastToCopy, IsMoving, IsOnItsWay, IsTied, IsTree, KeepsCounts, KeepsHome, KeepsOthers, KeepsTables, KeepsTies, KeepsWords, Links, List, Mover, None, Ok, OnErr, OnOk, Option, Paging, Plain, Ptw, Result, Some, Vols, VtocEntry, [], after_copy, after_read, ap, arith, at_rest, begun, bindings, bound_now, cases_eq, cases_lt, common_steps, count_by, entry_at, eq-eqb, eqb-true, false, filed, filed_same, flags_in, get_or, get_or-set_other, get_or-set_same, home_at, in_use, inl, inr, is_for, is_framed, is_out, is_some, is_to_copy, length, length-set, map, map_at, moved_on, mover_map, mover_words, next_out, number_or_zero, off_and_on, page_to_copy, place_at, place_of, plain, position_or_len, ptw_at, read_at, reads_of, refl, same_Some, set, set_past, shown_within, some_unwrapped, suc, sym, table_at, table_of, tie_of_home, true, uid_at, uid_homed, uid_in, undone, vols_same, volumes_of, with_page, with_table, with_volumes, words_at, words_filed, words_here, words_of, words_of_home, words_out, zero, ℕ, ◌&&◌, ◌<◌, ◌∙◌, ◌∷◌, ◌≡◌, ◌≢◌}

-- the first element that passes
first_is : {X : Type 0} (p : X → Bool) (xs : List X) (k : ℕ) (d : X) → k < length xs → p (get_or xs k d) ≡ true
    → ((j : ℕ) → j < k → p (get_or xs j d) ≡ false) → position_or_len p xs ≡ k
first_is p [] k d lt holds before = omega arith
first_is p (x ∷ xs) zero d lt holds before = grind (arith, common_steps)
first_is p (x ∷ xs) (suc k) d lt holds before =
    let no : p x ≡ false = before 0 (omega arith) in
    let ih : position_or_len p xs ≡ k = first_is p xs k d (omega arith) holds (λ j l. before (suc j) (omega arith)) in
    grind (arith, common_steps)

is_for_uid : (uid : ℕ) (e : Option Entry) → uid_in e ≡ Some uid → is_for uid e ≡ true
is_for_uid uid None h = cc
is_for_uid uid (Some e) h = eq-eqb e.uid uid (same_Some _ _ h)

uid_from : (uid : ℕ) (e : Option Entry) → is_for uid e ≡ true → uid_in e ≡ Some uid
uid_from uid None h = cc
uid_from uid (Some e) h = rw (eqb-true e.uid uid h)

pub place_is : (xs : List (Option Entry)) (uid place : ℕ) → IsTree xs → uid_at xs place ≡ Some uid → place_of xs uid
    ≡ place
unfolding place_of
place_is xs uid place tree at = first_is (is_for uid) xs place None (shown_within uid_in xs place None uid refl at)
    (is_for_uid uid (entry_at xs place) at) (λ j l. not_before j l)
  where
    not_yet : (j : ℕ) (b : Bool) → j < place → is_for uid (entry_at xs j) ≡ b → b ≡ false
    not_yet j false l e = refl
    not_yet j true l e = absurd (omega (arith, tree.once j place uid (uid_from uid (entry_at xs j) e) at))

    not_before : (j : ℕ) → j < place → is_for uid (entry_at xs j) ≡ false
    not_before j l = not_yet j (is_for uid (entry_at xs j)) l refl
