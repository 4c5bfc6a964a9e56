-- The names that the proofs of this crate take from elsewhere.
pub use Rattle.std.proofs.Common.{All, Bool, Contains, Err, IfErr, IfOk, IfSome, IsSome, List, None, Ok, Option, Result, Some, [], ap, arith, cond, count_by, drop, eqb, false, get_or, if◌then◌else◌, inl, inr, is_some, length, map, not, position, refl, replicate, rules, set, subst, suc, sum, sym, take, true, vec_capacity, vec_len, zero, ℕ, ◌%◌, ◌++◌, ◌+◌, ◌-◌, ◌<◌, ◌↔◌, ◌∙◌, ◌∷◌, ◌≡◌, ◌≢◌, ◌≤◌, ◌⊎◌}
pub use Rattle.std.proofs.Math.Nat.{mod-lt}
pub use Rattle.std.proofs.Math.Seq.{get_or-append_right}
pub use Rattle.std.proofs.lemmas.Bool.{both_ways, cases_Bool, cases_eq, cases_lt, cases_order, eq-eqb, eqb-true, false≢true, ne_eqb, not-true, or_cases, or_left, or_parts, or_right, true≢false}
pub use Rattle.std.proofs.lemmas.Bool.Decides.{eqb_tells, nat_tests}
pub use Rattle.std.proofs.lemmas.Cmp.{ranked}
pub use Rattle.std.proofs.lemmas.Grind.{common_steps}
pub use Rattle.std.proofs.lemmas.List.{append_assoc, get_or-drop, get_or-map, get_or-replicate, get_or-set_other, get_or-set_same, get_or-take, get_or_append_left, get_or_default, get_or_read, length-drop, length-map, length-replicate, length-set, length-take-le, take_all}
pub use Rattle.std.proofs.lemmas.List.Concat.{length-flat_map}
pub use Rattle.std.proofs.lemmas.List.Edits.{get_or-insert_above, get_or-insert_at, get_or-insert_below, length-insert}
pub use Rattle.std.proofs.lemmas.List.Quantifiers.{position-Some}
pub use Rattle.std.proofs.lemmas.List.Sorted.{IsNonDecreasingBy-from_default, answers_always}
pub use Rattle.std.proofs.lemmas.List.Sums.{count_by-le-length, sum_by-cons, sum_by-set}
pub use Rattle.std.proofs.lemmas.Map.Steps.{length-le_from_distinct_below}
pub use Rattle.std.proofs.lemmas.Option.{none-some, same_Some}
pub use Rattle.std.specs.List.{AllByRecursion, find, insert, list_any, range_with_len, remove}
unfoldable pub use Rattle.std.specs.List.{IsDistinct}
pub use Rattle.std.specs.List.Sorted.{IsBinarySearchResult, IsNonDecreasingBy, IsSearchInRange}
pub use Rattle.std.specs.Ordering.{nat_cmp, ordering_index}
pub use Rattle.bitmap.specs.Bitmap.{IsLeastFree as IsFirstFree, in_use}
pub use Rattle.laws.proofs.Lists.{all_same, find_passes, position_none, position_nowhere, zeros_read}
pub use Rattle.laws.proofs.Places.{length_of_four, shown_within}
pub use Rattle.page_table.specs.declared.Ptw.{Ptw}
pub use Rattle.page_table.specs.declared.Ptw.TheVariants.{Null}
pub use Rattle.active_segs.specs.Active.{ActiveSegs, AreNullTables, HasNoInferior, HasShape, IsActive, IsFull, IsGrounded, IsLeastFree, IsOneToOne, IsTree, SuperiorsAreActive, entry_at, null_tables, superior_at, superior_in, table_at, uid_at, uid_in, used_in}
pub use Rattle.active_segs.specs.Kept.{AreNoted, HasFlag, IsActiveAt, IsIndexed, IsInferior, IsKept, IsMarked, map_of, map_set, noted, place_of_superior}
pub use Rattle.active_segs.specs.Pairs.{BelongsAt, IsAscending, IsFoundAt, IsSplit, Pairs, SetsPlace, empty_list, list_at, pairs_in, place_of}
pub use Rattle.active_segs.specs.Pool.{HasPools, IsInPool, IsPlaced, first_of, size_of}
pub use Rattle.active_segs.specs.Victim.{HasItsSuperiors, HasOneOffChain, IsLeastInferior, IsOffChain, IsVictim, StandsFor, first_off_chain, hand_of, is_inferior_in, is_inferior_of, leaf_of, least_inferior, least_inferior_of, off_chain, places_from, round_pool, victim_of}
unfoldable pub use Rattle.active_segs.specs.Victim.{Descends, leaf_below}
pub use Rattle.active_segs.specs.declared.Entry.{Entry}
