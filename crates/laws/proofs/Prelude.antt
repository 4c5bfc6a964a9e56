-- The names that the proofs of this crate take from elsewhere.
pub use Rattle.std.proofs.Common.{[], add-one, ap, arith, Bool, cond, drop, drop-cons, eqb, Err, false, filter, get_or, inl, inr, is_some, IsSome, length, List, ltb, map, nat_lt, None, not, Ok, Option, position, refl, replicate, Result, set, Some, suc, sum, sum_by, sym, take, true, zero, ℕ, ◌&&◌, ◌++◌, ◌+◌, ◌-◌, ◌<◌, ◌||◌, ◌∙◌, ◌∷◌, ◌≡◌, ◌≢◌, ◌≤◌, ◌⊎◌}
pub use Rattle.std.proofs.lemmas.Bool.{both_ways, cases_Bool, cases_eq, eq-eqb, eqb-true, ne_eqb, not-true, or_cases}
pub use Rattle.std.proofs.lemmas.Bool.Decides.{Decides-eqb, eqb_tells, leb_tells, nat_tests}
pub use Rattle.std.proofs.lemmas.Grind.{common_steps}
pub use Rattle.std.proofs.lemmas.List.{get_or-set_other, get_or-set_same, get_or_past, length-append, length-replicate, set-set, set_comm, set_past}
pub use Rattle.std.proofs.lemmas.List.Quantifiers.{position-Some}
pub use Rattle.std.proofs.lemmas.List.Sums.{prefix_len_passes, sum-map, sum_by-set}
pub use Rattle.std.proofs.lemmas.Option.{same_Some, slice_get-map, unwrap_or-slice_get}
pub use Rattle.std.specs.List.{find, position_or_len}
pub use Rattle.std.specs.Option.{option_map, unwrap_or}
pub use Rattle.std.specs.Prelude.{count_by, IfNone, nat_le, OnOk, slice_get}
