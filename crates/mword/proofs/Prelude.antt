-- The names that the proofs of this crate take from elsewhere.
pub use Rattle.std.proofs.Common.{[], add-one, All, ap, arith, bit_or, Bool, drop, false, get_or, IfSome, IsSome, IsTrue, length, List, nat_eq, nat_le, None, Option, refl, set, Some, subst, suc, sym, take, true, zero, ℕ, ◌%◌, ◌&&◌, ◌*◌, ◌++◌, ◌+◌, ◌-◌, ◌/◌, ◌<◌, ◌^◌, ◌↔◌, ◌∙◌, ◌∷◌, ◌≡◌, ◌≤◌}
pub use Rattle.std.proofs.Math.Nat.{pow-le-pow_right}
pub use Rattle.std.proofs.Math.Seq.{take-add}
pub use Rattle.std.proofs.lemmas.Bool.Decides.{nat_tests}
pub use Rattle.std.proofs.lemmas.Grind.{common_steps, pow_more}
pub use Rattle.std.proofs.lemmas.List.{append_assoc, drop-drop, drop-set, length_push, take-replicate, take_all, take_more}
pub use Rattle.std.proofs.lemmas.List.Elements.{All-append, All-cons, All-from_recursion, All-head, All-nil, All-replicate, All-tail, recursion_from_All}
pub use Rattle.std.proofs.lemmas.List.Folds.{list_all-append, list_all_at, list_all_more}
pub use Rattle.std.proofs.lemmas.List.Sums.{fold_push}
pub use Rattle.std.proofs.lemmas.Nat.Bits.{bit_at-zero, bit_at_or, same_from_bits}
pub use Rattle.std.proofs.lemmas.Simd.{length-chunk, length-zip2}
pub use Rattle.std.proofs.lemmas.Str.{IsAscii-append, IsUtf8-from_ascii}
pub use Rattle.std.proofs.lemmas.Str.Ascii.{IsAscii-nil}
pub use Rattle.std.specs.Int.{bit_at}
pub use Rattle.std.specs.Int.Bits.{or_zero_l}
pub use Rattle.std.specs.List.{AllByRecursion, list_all}
pub use Rattle.std.specs.Simd.Lanes.{chunk, fold_l, zip2}
pub use Rattle.std.specs.Str.{IsAscii, IsUtf8}
pub use Rattle.mword.specs.Octal.{is_octal_digit, IsOctal}
unfoldable pub use Rattle.mword.specs.Octal.{is_octal, octal_digits, octal_number, octal_value}
pub use Rattle.mword.specs.Words.{AreWords, AreZero}
