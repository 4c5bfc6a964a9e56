-- What the call asks that has a tree command take effect.
use Rattle.machine.proofs.Prelude.{◌≡◌, ℕ, true, length, map, List, Some, refl, ap, subst, arith, is_command, Command, HasParts, or_zero, process_at, run_at, State, IsCommitting, committing, few_uids, Parts, IsApplicable, MayCommit, effect_had, drive_each, more_volumes, IsBusy, command_planned, MayAnswer, Action as act}
use Rattle.machine.proofs.AloneLaws.{leaving_room, place_room, process_known, run_there}
use Rattle.machine.proofs.Does.{Does, busy, keeps_of, knows, still_for}
use Rattle.machine.proofs.OwnerCalls.{owned}

module _ {D : Type 0} {t : Parts D} {c : ℕ} (d : Does t c act.Commit) where
  abbrev s : State
  s = t.state

  abbrev k : ℕ
  k = process_at s c

  abbrev x : Command
  x = (knows d).command

  -- the command isn't refused, and what it must have out of use is so
  stands : IsCommitting s c x
  stands = committing s c d.sound.keeps d.may.there d.may.doing x (knows d).speaks.next

  its_process : IsBusy s c
  its_process = busy d refl

  -- the command is one of the script, and is in its ranges by the drives that there are
  ranges : (pages : D → List (List ℕ)) → HasParts (map pages t.drives) s.store.pages.records s.store.pages.vtocs
      → is_command (length t.drives) x ≡ true
  ranges pages parts = more_volumes (length s.plan.volumes) (length t.drives) x
      (drive_each pages t.drives s.plan s.store.pages.records s.store.pages.vtocs d.sound.keeps.machine.script
      (keeps_of d).faithful.script.records parts)
      (command_planned s.plan k (run_at s.runs k).place x d.sound.keeps.machine.script stands.speaks.next)

  applies : (pages : D → List (List ℕ)) → HasParts (map pages t.drives) s.store.pages.records s.store.pages.vtocs
      → IsApplicable t k x
  applies pages parts = assumption (
    still_for d,
    run_there d.sound c its_process,
    process_known d.sound c its_process,
    effect_had s k x stands.stands,
    ranges pages parts,
    few_uids s d.sound.keeps,
    (keeps_of d).faithful,
    stands.speaks.next,
    stands.tree,
    stands.ready_for,
    stands.owns,
  )

  -- The next command of the processor's process may take effect.
  pub may_commit : (pages : D → List (List ℕ)) → HasParts (map pages t.drives) s.store.pages.records s.store.pages.vtocs
      → {j : ℕ} → MayAnswer t c j → (x : Command) × MayCommit t c j x
  may_commit pages parts {j} may = (
    x,
    subst (λ (i : ℕ). MayCommit t c i x) (ap or_zero may.process) (record {
      applies = applies pages parts;
      processor = d.may.there;
      its = its_process;
      owner = owned stands.owner;
      place = place_room d.sound c its_process d.may.there;
      count = may.count;
      ready = leaving_room d.sound c its_process (Some x);
      room = omega arith;
    }),
  )
