-- The names that the proofs of this crate take from elsewhere.
pub use Rattle.std.proofs.Common.{Bool, List, None, Option, Some, [], arith, false, inl, inr, length, refl, subst, suc, sym, true, ℕ, ◌*◌, ◌+◌, ◌<◌, ◌∙◌, ◌∷◌, ◌≡◌, ◌≤◌}
pub use Rattle.std.proofs.lemmas.Bool.{cases_eq}
pub use Rattle.std.specs.Bool.{Decides}
pub use Rattle.std.specs.List.{list_all}
pub use Rattle.std.specs.Prelude.{IfSome, slice_index_or}
pub use Rattle.laws.proofs.Options.{map_none, when_none}
pub use Rattle.script.specs.Plans.{Plan}
pub use Rattle.book.specs.declared.entries.Entry.{Entry, Entry as entry}
pub use Rattle.flat_model.proofs.ZeroLaws.{words_zero}
pub use Rattle.flat_model.specs.Legal.{MayFault}
unfoldable pub use Rattle.flat_model.specs.Legal.{IsLawful}
pub use Rattle.flat_model.specs.Pages.{is_zero_page}
pub use Rattle.flat_model.specs.Store.{Progress, Store, progress_of}
pub use Rattle.flat_store.proofs.FollowLaws.{quiet_lawful}
pub use Rattle.flat_store.specs.Shown.{Kept, Shows}
pub use Rattle.legal_reasons.specs.Reasons.{HasWordAt, IsAbout, IsSaid, IsSo, process_in}
unfoldable pub use Rattle.legal_reasons.specs.Reasons.{HaveEnded}
pub use Rattle.legal_reasons.specs.declared.reasons.Reason.{Reason}
