-- The names that the proofs of this crate take from elsewhere.
pub use Rattle.std.proofs.Common.{Bool, List, None, Option, Some, [], ap, arith, cond, eqb, false, inl, inr, length, not, refl, subst, suc, sym, true, zero, ℕ, ◌&&◌, ◌++◌, ◌+◌, ◌||◌, ◌∙◌, ◌∷◌, ◌≡◌, ◌≢◌, ◌≤◌, ◌⊎◌}
pub use Rattle.std.proofs.lemmas.Bool.{false_from_ne_true}
pub use Rattle.std.proofs.lemmas.Bool.Decides.{eqb_tells, nat_tests}
pub use Rattle.std.proofs.lemmas.Grind.{common_steps}
pub use Rattle.std.proofs.lemmas.List.Folds.{list_any-append}
pub use Rattle.std.proofs.lemmas.Map.Views.{any-filter_same}
pub use Rattle.std.specs.List.{filter, list_any}
pub use Rattle.std.specs.Prelude.{IsSomeAnd, drop, if◌then◌else◌, nat_le}
pub use Rattle.laws.proofs.Bools.{not_both}
pub use Rattle.script.specs.Plans.{Plan}
pub use Rattle.assoc_mem.specs.declared.What.{What, What as what}
pub use Rattle.book.specs.declared.entries.Entry.{Entry, Entry as entry}
pub use Rattle.flat_model.specs.Legal.{after_entry}
unfoldable pub use Rattle.flat_model.specs.Legal.{store_after, store_from}
pub use Rattle.flat_model.specs.Store.{Store, boot}
pub use Rattle.custody_model.specs.Allowed.{IsAllowed, MayBeHere, MayTakeSeg, NamesAllGoing, NobodyHoldsPage, NobodyHoldsSeg, next_command}
unfoldable pub use Rattle.custody_model.specs.Clean.{IsClean, IsCleanFrom, custody_after, custody_from}
pub use Rattle.custody_model.specs.Custody.{Custody, Seat, cleared, cut, filled, given_back, has, is_current_descriptor, is_current_frame, is_going_descriptor, is_going_frame, is_started, names_descriptor, names_frame, names_number, nothing_held, range, reconnected, taken}
pub use Rattle.custody_model.specs.Fine.{FillsOnline, Fine, IsFinePage, IsFineSeg, IsWarned, NoneDue, pending_after}
pub use Rattle.custody_model.specs.Next.{answered_clear, at_put, is_try, queued, released_by, signalled, told, with_active, with_descriptor, with_frame, with_seat}
unfoldable pub use Rattle.custody_model.specs.Next.{custody_next}
pub use Rattle.custody_model.specs.declared.DescriptorUse.{DescriptorUse, DescriptorUse as descriptor}
pub use Rattle.custody_model.specs.declared.FrameUse.{FrameUse, FrameUse as frame}
