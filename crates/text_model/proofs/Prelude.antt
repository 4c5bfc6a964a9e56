-- The names that the proofs of this crate take from elsewhere.
pub use Rattle.std.proofs.Common.{[], add-one, ap, append-nil, arith, Bool, drop, drop-cons, eqb, false, get_or, length, List, refl, suc, sym, take, true, zero, ℕ, ◌++◌, ◌+◌, ◌-◌, ◌<◌, ◌∙◌, ◌∷◌, ◌≡◌, ◌≢◌, ◌≤◌}
pub use Rattle.std.proofs.Math.Seq.{take-add}
pub use Rattle.std.proofs.lemmas.Bool.Decides.{nat_tests}
pub use Rattle.std.proofs.lemmas.Grind.{common_steps}
pub use Rattle.std.proofs.lemmas.List.{append_assoc, drop-drop, length-append}
pub use Rattle.std.specs.List.{list_any}
pub use Rattle.laws.proofs.Lists.{length_left, none_left, rest_last}
pub use Rattle.text_model.specs.Lines.{Closes, onto_field, onto_piece}
unfoldable pub use Rattle.text_model.specs.Lines.{fields_of, lines_of}
pub use Rattle.text_model.specs.Parts.{first_after, IsAtLine}
unfoldable pub use Rattle.text_model.specs.Parts.{lines_after, lines_before}
