-- The names that the proofs of this crate take from elsewhere.
pub use Rattle.std.proofs.Common.{[], add-one, ap, arith, Bool, drop, drop-cons, false, get_or, length, List, refl, sym, true, ℕ, ◌&&◌, ◌++◌, ◌+◌, ◌<◌, ◌||◌, ◌∙◌, ◌∷◌, ◌≡◌, ◌≤◌}
pub use Rattle.std.proofs.lemmas.Bool.{false≢true, or_left, true≢false}
pub use Rattle.std.proofs.lemmas.Bool.Decides.{nat_tests}
pub use Rattle.std.proofs.lemmas.Grind.{common_steps}
pub use Rattle.std.proofs.lemmas.List.{append-nil, append_assoc}
pub use Rattle.std.specs.List.{flat_map, list_all, list_any}
pub use Rattle.std.specs.Str.{bytes_eq}
pub use Rattle.text_model.proofs.LineSteps.{no_lines}
pub use Rattle.text_model.specs.Lines.{lines_of}
pub use Rattle.outcomes.specs.Reports.{accounts_text, block_of, blocks_of, differing_in, differing_line, has_line, is_common, outcome_head, outcomes_text}
pub use Rattle.outcomes.specs.Tables.{Outcome}
