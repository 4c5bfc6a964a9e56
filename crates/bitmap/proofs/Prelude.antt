-- The names that the proofs of this crate take from elsewhere.
pub use Rattle.std.proofs.Common.{All, Bool, Global, List, None, Some, Vec, add-one, ap, arith, cond, count_by, eqb, false, get_or, inl, inr, length, not, refl, replicate, set, slice_index, suc, sym, true, zero, ℕ, ◌%◌, ◌*◌, ◌+◌, ◌-◌, ◌/◌, ◌<◌, ◌^◌, ◌∙◌, ◌≡◌, ◌≢◌, ◌≤◌}
pub use Rattle.std.proofs.lemmas.Bool.{cases_eq, le-ltb, lt-ltb}
pub use Rattle.std.proofs.lemmas.Bool.Decides.{eqb_tells}
pub use Rattle.std.proofs.lemmas.List.{ext_get_or, get_or-replicate, get_or-set_other, get_or-set_same, get_or_append_left, get_or_push, get_or_read, length-replicate, length-set, length_push}
pub use Rattle.std.proofs.lemmas.List.Elements.{All-from_get_or, All-get_or}
pub use Rattle.std.proofs.lemmas.List.Sums.{count_by-le-length, prefix_len_is, sum_by-cons}
pub use Rattle.std.proofs.lemmas.Nat.Bits.{bit_at-trailing_ones, bit_at-zero, bit_at_clear_other, bit_at_clear_same, bit_at_mask_below, bit_at_mask_inside, bit_at_ones, bit_at_set_other, bit_at_set_same, ones_shl, shr_and_one}
pub use Rattle.std.specs.Int.{bit_at, trailing_ones, w64}
pub use Rattle.laws.proofs.Numbers.{below_or_past}
pub use Rattle.laws.proofs.Places.{count_with, count_without, flag_within}
pub use Rattle.bitmap.specs.Bitmap.{IsLeastFree, in_use, least_free}
pub use Rattle.bitmap.specs.Bits.{HasTwoLevels, IsClear, IsFirstOff, full_after}
unfoldable pub use Rattle.bitmap.specs.Bits.{bit_on, flags_of, with_bit, without_bit}
