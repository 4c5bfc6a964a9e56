-- The laws of this crate that the answers take.
pub use Rattle.machine.proofs.AccountLaws.{entries_taken, records_taken}
pub use Rattle.machine.proofs.AloneLaws.{number_there, page_not_held, process_known, ready_room, run_there, seg_not_held}
pub use Rattle.machine.proofs.CallLaws.{one_called, outcome_faults, page_let_go, two_called}
pub use Rattle.machine.proofs.CommitCalls.{may_commit}
pub use Rattle.machine.proofs.CreateCalls.{made_known, made_page, makeable}
pub use Rattle.machine.proofs.DiskLaws.{drives_in_move, on_volumes, records_still, vtocs_still}
pub use Rattle.machine.proofs.Does.{does, found, knows, still_for}
pub use Rattle.machine.proofs.DriveCounts.{call_counts, copy_counts}
pub use Rattle.machine.proofs.EndedLaws.{over_ended}
pub use Rattle.machine.proofs.FinishCalls.{finished_shown, leaves_by, may_fail}
pub use Rattle.machine.proofs.FirstParts.{are_fresh, as_many, drives_are}
pub use Rattle.machine.proofs.JoinCalls.{is_victim, joinable, place_is, pool_is, victim_call}
pub use Rattle.machine.proofs.LossTold.{still_tells, told_back, visited_tells}
pub use Rattle.machine.proofs.MoveCalls.{ended_segment, may_copy, movable}
pub use Rattle.machine.proofs.NoZeros.{has_no_zeros}
pub use Rattle.machine.proofs.OwnerCalls.{connectable, emptiable, evict_is, evictable, inactive_emptied, inactive_owner, owned, readable}
pub use Rattle.machine.proofs.RunLaws.{ran_grows, ran_keeps, ran_zero}
pub use Rattle.machine.proofs.SizeLaws.{drive_size}
pub use Rattle.machine.proofs.Stays.{core_as, quiet_sound, stays_sound, tables_as, unbound_put}
pub use Rattle.machine.proofs.StepDone.{drive_turn, quiet_turn}
pub use Rattle.machine.proofs.Steps.{changed_sound, drive_sound}
pub use Rattle.machine.proofs.TakeCalls.{take_busy, takeable, takes, taking_as}
pub use Rattle.machine.proofs.TakingStays.{begun_as, emptied_as, evicted_as, victim_as}
pub use Rattle.machine.proofs.ThroughCalls.{through_bound, told_through}
pub use Rattle.machine.proofs.TransferCalls.{ending, transfer_sound}
pub use Rattle.machine.proofs.UnstuckLaws.{run_done}
pub use Rattle.machine.proofs.VisitCalls.{all_visited, over_owner, over_still, visit_done, visit_here, visit_sound, visit_within, visited_adds, visited_parts}
pub use Rattle.machine.proofs.VisitNext.{visited_first}
