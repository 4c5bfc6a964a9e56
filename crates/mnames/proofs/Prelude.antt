-- The names that the proofs of this crate take from elsewhere.
pub use Rattle.std.proofs.Common.{Bool, List, None, Ok, Option, Some, [], ap, append_assoc, arith, bit_and, cond, drop, drop-cons, eqb, false, get_or, inl, inr, le-leb, length, ltb, nat_eq, nat_le, not, refl, slice_index_or, subst, suc, sym, take, true, zero, ℕ, ◌&&◌, ◌*◌, ◌++◌, ◌+◌, ◌-◌, ◌/◌, ◌<◌, ◌^◌, ◌∙◌, ◌∷◌, ◌≡◌, ◌≢◌, ◌≤◌, ◌⊎◌}
pub use Rattle.std.proofs.Math.Seq.{drop-append-add, take-append-add}
pub use Rattle.std.proofs.Output.{has_written_append, has_written_of_eq}
pub use Rattle.std.proofs.lemmas.Bool.{agree_below_at, cases_eq}
pub use Rattle.std.proofs.lemmas.Bool.Decides.{nat_tests}
pub use Rattle.std.proofs.lemmas.Grind.{common_steps}
pub use Rattle.std.proofs.lemmas.List.{append-nil, flat_map_more, length-append, take_at, take_more}
pub use Rattle.std.proofs.lemmas.List.Folds.{list_all-append}
pub use Rattle.std.proofs.lemmas.Slice.Eq.{bytes_eq-Decides}
pub use Rattle.std.proofs.lemmas.Str.{IsUtf8-from_ascii}
pub use Rattle.std.proofs.lemmas.Str.Ascii.{IsAscii-cons, IsAscii-nil}
pub use Rattle.std.specs.Fmt.{HasWritten, IsPlainFormatter}
pub use Rattle.std.specs.List.{AllByRecursion, list_all, position, position_or_len}
pub use Rattle.std.specs.Prelude.{IfSome, codes}
pub use Rattle.std.specs.Str.{IsAscii, IsUtf8, bytes_eq}
pub use Rattle.laws.proofs.Bools.{and_false}
pub use Rattle.laws.proofs.Lists.{none_left}
pub use Rattle.mnames.specs.Names.{BeginsPath, IsLongestStart, IsName, IsPath, IsShort, is_label_byte, is_name_byte, names_text, path_text}
unfoldable pub use Rattle.mnames.specs.Names.{is_label, is_name}
pub use Rattle.mnames.specs.Principals.{IsRow, IsWho, after_dot, any_text, before_dot, default_project, is_dot, parts_text, row_parts_text, row_with}
unfoldable pub use Rattle.mnames.specs.Principals.{part_of, row_of, row_text, who_of, who_text}
pub use Rattle.mnames.specs.Reading.{IsAtSign, IsNoPath, IsRun, IsStuck}
pub use Rattle.mnames.specs.declared.principals.Who.{Who}
pub use Rattle.mnames.specs.declared.rows.Row.{Row}
