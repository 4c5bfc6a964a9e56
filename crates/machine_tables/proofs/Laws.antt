-- The laws of this crate that the answers take.
pub use Rattle.machine_tables.proofs.ApplyLaws.{applied_drives, applied_left, applied_reply, applied_shown, applied_store, applies, ready_of}
pub use Rattle.machine_tables.proofs.BackLaws.{BacksOn, GoesOn, RelinksOn, backs_next, goes_next, relinks_next}
pub use Rattle.machine_tables.proofs.ChoiceLaws.{chosen_here}
pub use Rattle.machine_tables.proofs.ClaimLaws.{CutsAllOn, claim_after, claim_is, number_few, number_next, numbers_end}
pub use Rattle.machine_tables.proofs.CreateLaws.{created_is, made_surely, stays}
pub use Rattle.machine_tables.proofs.CutLaws.{CutsOn, cut_smaller, cuts_end, cuts_next, one_few}
pub use Rattle.machine_tables.proofs.InsideLaws.{inside_faithful, inside_shows}
pub use Rattle.machine_tables.proofs.JobLaws.{cut_smaller as JobLaws_cut_smaller, frame_smaller}
pub use Rattle.machine_tables.proofs.LeftLaws.{left_is, left_stays}
pub use Rattle.machine_tables.proofs.LetLaws.{PagesOn, pages_next}
pub use Rattle.machine_tables.proofs.LinkLaws.{place_found}
pub use Rattle.machine_tables.proofs.PageLaws.{reached}
pub use Rattle.machine_tables.proofs.PartLaws.{Going, going, going_next, rest_end, rest_next, state_of, stored_is}
pub use Rattle.machine_tables.proofs.RangeLaws.{drive_each, more_volumes}
pub use Rattle.machine_tables.proofs.RefusalLaws.{command_is, moves_is, outside_is, room_is}
pub use Rattle.machine_tables.proofs.ShownLaws.{left_shown, not_through, through_shown}
pub use Rattle.machine_tables.proofs.TakeLaws.{here_few, takes_end, takes_next}
pub use Rattle.machine_tables.proofs.TookLaws.{after_pages, entries_still, took_is}
pub use Rattle.machine_tables.proofs.TruncatedLaws.{not_leaving}
pub use Rattle.machine_tables.proofs.VisitLaws.{taken_leaving}
