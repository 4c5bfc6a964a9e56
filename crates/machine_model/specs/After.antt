-- The machine after each action of a processor, by how the step's call of a drive ended, if it made one.
use Rattle.std.specs.Prelude.{ℕ, Bool, false, if◌then◌else◌, Some, None}
use Rattle.machine_model.specs.declared.Aim.TheVariants as aim
use Rattle.machine_model.specs.State.{State}
use Rattle.machine_model.specs.Reads.{next_command, process_at}
use Rattle.machine_model.specs.Actions as act
use Rattle.machine_model.specs.Steps.{activated_at, answered, came_online, cleared_at, connected_to, left_at, loaded, looking, page_created, page_filled, seg_filled, started, told, transfer_failed, transferred, went_through, with_faults, with_owner}
use Rattle.machine_model.specs.Jobs.{deactivation_begun, emptied, eviction_begun, eviction_done, page_done, signalled, took, victim_taken, write_failed}
use Rattle.machine_model.specs.Commits.{committed_at}
use Rattle.machine_model.specs.Moves.{copy_failed, move_begun, move_committed, page_copied}

-- whether the call failed, and how many calls of the drives have failed then
pub record Outcome : Type 0 where
  pub failed : Bool
  pub faults : ℕ

-- without a call, nothing failed
abbrev pub no_call : State → Outcome
no_call s = record { failed = false; faults = s.faults }

abbrev pub by_outcome : Outcome → State → State → State
by_outcome o done failed = if o.failed then failed else done

unfoldable pub after : State → ℕ → act.Action → Outcome → State
after s c act.IsStopped o = s
after s c act.HasEnded o = s
after s c (act.Waits why) o = s
after s c act.Online o = came_online s c
after s c (act.Clear w) o = cleared_at s c w
after s c (act.EndTransfer t) o =
    by_outcome o (transferred (with_faults s o.faults) c t) (transfer_failed s c t o.faults)
after s c (act.Load k) o = loaded s c k
after s c act.Leave o = left_at s c
after s c (act.FillSeg n) o = seg_filled s c n
after s c (act.FillPage f r) o = page_filled s c f r
after s c (act.Through f r) o = went_through s c f r
after s c (act.Plain r) o = told s c None r
after s c act.TakeSupervisor o = with_owner s (Some (looking c))
after s c (act.Answer r) o = answered s c r
after s c act.GiveUp o = with_owner s None
after s c (act.Activate uid place) o = activated_at s uid place
after s c (act.Connect n uid) o = connected_to s c n uid
after s c (act.Create f uid p r) o = page_created s c f uid p r
after s c (act.Start f uid p) o = started s c f uid p
after s c (act.Evict f) o = eviction_begun s c f
after s c (act.Empty uid) o = deactivation_begun s c uid
after s c (act.EmptyVictim pool chain uid) o = victim_taken s c pool chain uid
after s c (act.TakeAway fs pairs w) o = took s c aim.Committing w fs pairs
after s c (act.BeginMove uid volume) o = move_begun s c uid volume
after s c (act.CopyPage m p) o = by_outcome o (page_copied (with_faults s o.faults) c m p) (copy_failed s c o.faults)
after s c (act.CommitMove m) o = move_committed s c m
after s c (act.Signal w) o = signalled s c w
after s c (act.FinishEviction f) o =
    by_outcome o (eviction_done (with_faults s o.faults) c f) (write_failed s c o.faults)
after s c (act.FinishPage f) o = by_outcome o (page_done (with_faults s o.faults) f) (write_failed s c o.faults)
after s c (act.Deactivate uid) o = emptied s c uid
after s c act.Commit o = committed_at s c (next_command s (process_at s c))
