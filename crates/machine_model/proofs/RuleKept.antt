-- Each step of each processor keeps the machine's promise: along the rules in their order, what an action asks follows
-- from the promise, but for what the store says and for what the flat store answers.
use Rattle.machine_model.proofs.Kept.{[], ◌≡◌, ◌<◌, ℕ, List, ◌∷◌, length, Option, Some, None, sym, ◌∙◌, What, Mover, Aim, finish_of, copy_or_commit, Outcome, seen, Keeps, cut_of_owner, shown, State, What as what, Aim as aim, Action, Action as act, idle_over, segs_over, none_due, mover_tied_IsLook as IsLook}
use Rattle.machine_model.proofs.DeleteKept.{gones_done, gones_idle}
use Rattle.machine_model.proofs.TruncateKept.{leaves_done, leaves_idle}
pub use Rattle.machine_model.proofs.StepKept.{Asks, AsksCommit, AsksCreate, AsksEmpty, AsksSegment, AsksTake, AsksVictim, HasWaited, IsLooking, IsMoving, look_idle, look_still, nothing_over, process_here, wait_goes, wait_shape, CanDo, IsReady}

module _ {s : State} (c : ℕ) (o : Outcome) (k : Keeps s) (there : c < length s.processors) where
  -- ---- the owner looks

  look_ready : IsLooking s c → IsReady s
  look_ready l = let idle = look_idle s c o k there l in let still = look_still s c o k there l in record {
    none = none_due (shown (seen s)) s.owner k.book.going_owned idle.waits;
    still = still;
    gone = gones_idle s k.book idle still;
    left = λ cut test. leaves_idle s test k.book idle still;
    over = λ none. (rw idle.cut (idle_over s k.book idle still));
  }

  pub look_can : (a : Action) → IsLook s a → IsLooking s c → Asks s c o a → CanDo s c o a
  look_can (act.Waits why) h l asks = tt
  look_can (act.TakeAway fs pairs w) h l asks = assumption
  look_can act.Commit h l asks = assumption (look_ready l, process_here s c o k there l.owner)
  look_can (act.Answer r) h l asks = assumption
  look_can act.GiveUp h l asks = assumption
  look_can (act.Activate u place) h l asks = assumption
  look_can (act.Connect n u) h l asks = assumption
  look_can (act.Create f u p r) h l asks = assumption
  look_can (act.Start f u p) h l asks = assumption
  look_can (act.Evict f) h l asks = assumption
  look_can (act.Empty u) h l asks = assumption
  look_can (act.EmptyVictim pool chain u) h l asks = assumption
  look_can (act.BeginMove u volume) h l asks = assumption
  look_can _ h l asks = absurd h

  -- ---- a segment moves

  pub move_can : (m : Mover) (x : Option ℕ) → IsMoving s c m → Asks s c o (copy_or_commit m x)
      → CanDo s c o (copy_or_commit m x)
  move_can m (Some p) is asks = (is, asks)
  move_can m None is asks = (is, asks)

  -- ---- what was taken goes

  wait_ready : {w : What} → HasWaited s c aim.Committing w → IsReady s
  wait_ready {w} x = let goes = wait_goes s c o k there aim.Committing w x (λ gs ds. tt) in record {
    none = goes.none;
    still = goes.still;
    gone = gones_done s k.book goes;
    left = λ cut test. leaves_done s test k.book goes cut;
    over = λ none. segs_over s (cut_of_owner s.owner) k.book (rw (← none) goes);
  }

  pub finish_can : (a : Aim) (w : What) (fs : List ℕ) (x : HasWaited s c a w) → x.owner.owner.frames ≡ fs
      → Asks s c o (finish_of a fs) → CanDo s c o (finish_of a fs)
  finish_can aim.Evicting w [] x frames asks = absurd (no_frame (wait_shape s c o k there aim.Evicting w x))
    where
      no_frame : (g : ℕ) × (x.owner.owner.frames ≡ g ∷ []) × (w ≡ what.Page g) × (x.owner.owner.cut ≡ []) → ⊥
      no_frame y = let no : [] ≡ y.0 ∷ [] = sym frames ∙ y.1 in cc
  finish_can aim.Evicting w (f ∷ fs) x frames asks = (fs, record { what = w; waited = x; frames = frames; asks = asks })
  finish_can (aim.Deactivating u) w [] x frames asks = record { what = w; waited = x; frames = frames; asks = asks }
  finish_can (aim.Deactivating u) w (f ∷ fs) x frames asks =
      (u, fs, record { what = w; waited = x; frames = frames; asks = asks })
  finish_can aim.Committing w fs x frames asks = assumption (wait_ready x, process_here s c o k there x.owner)
