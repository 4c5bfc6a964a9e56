-- The names that the proofs of this crate take from elsewhere.
pub use Rattle.std.proofs.Common.{[], ap, append_assoc, arith, Bool, cond, eqb, false, get_or, inl, inr, is_none, is_some, IsNone, IsSome, IsTrue, length, List, nat_lt, None, not, Option, refl, replicate, set, Some, subst, suc, sym, take, true, zero, ℕ, ◌++◌, ◌+◌, ◌-◌, ◌<◌, ◌∙◌, ◌∷◌, ◌≡◌, ◌≢◌, ◌≤◌}
pub use Rattle.std.proofs.lemmas.Bool.{both_ways, cases_eq, cases_lt, eq-eqb, eqb-true}
pub use Rattle.std.proofs.lemmas.Bool.Decides.{nat_tests}
pub use Rattle.std.proofs.lemmas.Grind.{common_steps}
pub use Rattle.std.proofs.lemmas.List.{get_or-append_right, get_or-set_other, get_or-set_same, get_or_append_left, get_or_default, get_or_past, length-append, length-replicate, length-set, set-append_left, set-append_right, set-get_or}
pub use Rattle.std.proofs.lemmas.List.Folds.{prefix_len-append, prefix_len-replicate}
pub use Rattle.std.proofs.lemmas.List.Quantifiers.{position-Some}
pub use Rattle.std.proofs.lemmas.List.Sums.{count_by-le-length, prefix_len-le-length}
pub use Rattle.std.specs.List.{prefix_len}
pub use Rattle.std.specs.Prelude.{◌↔◌}
pub use Rattle.laws.proofs.Lists.{blank, position_none}
pub use Rattle.known_segs.specs.Known.{HasOneNumberEach, IsUnknown, known_count, least_free, number_of, stands_for, uid_of, with_number}
unfoldable pub use Rattle.known_segs.specs.Known.{padded}
