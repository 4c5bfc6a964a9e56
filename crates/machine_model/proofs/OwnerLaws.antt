-- The owner of the supervisor begins a job or ends one.
use Rattle.machine_model.proofs.Basics.{◌≡◌, ℕ, true, false, [], Option, Some, sym, ap, subst, ◌∙◌, What, Ptw, NamesAllGoing, Custody, is_going_frame, NoneDue, Mover, Phase, FitsPhase, IsOwned, KeepsBook, is_pending, names, says_in, waits_in, cut_of_owner, frames_of_owner, Seen, bound_use, cut_uid, descriptor_use, shown, Owner, Ptw as ptw, Phase as phase, IsIdle}

-- an owner that looks has taken nothing
pub looking_idle : (c : Custody) (o : Owner) → IsOwned c (Some o) → o.phase ≡ phase.Looking → IsIdle (Some o)
looking_idle c o k looks = assumption (parts.0, parts.1, ap waits_in looks, ap says_in looks)
  where
    parts : (o.frames ≡ []) × (o.cut ≡ [])
    parts = subst (λ (x : Phase). FitsPhase x o.frames o.cut) looks k.shaped

-- nor has one that moves a segment
pub moves_idle : (c : Custody) (o : Owner) (m : Mover) → IsOwned c (Some o) → o.phase ≡ phase.Moving m → IsIdle (Some o)
moves_idle c o m k moves = assumption (parts.0, parts.1, ap waits_in moves, ap says_in moves)
  where
    parts : (o.frames ≡ []) × (o.cut ≡ [])
    parts = subst (λ (x : Phase). FitsPhase x o.frames o.cut) moves k.shaped

-- where nothing goes, anything names all that goes
pub idle_names : {c : Custody} {o : Option Owner} (w : What) → IsOwned c o → frames_of_owner o ≡ []
    → cut_of_owner o ≡ [] → NamesAllGoing c w
idle_names w k frames cut = record {
  frames = λ f h. absurd (let no : false ≡ true = sym (cc (k.frames f)) ∙ h in cc);
  descriptors = λ j n h. absurd (let no : false ≡ true = sym (cc (k.cuts j n)) ∙ h in cc);
}

-- a page in a frame is here where nothing goes
pub bound_here : (v : Seen) (f u p : ℕ) → KeepsBook v → frames_of_owner v.owner ≡ [] → v.bound f ≡ Some (u, p)
    → v.words u p ≡ ptw.Here f
bound_here v f u p k frames bound = by (v.words u p) (k.tied.named f u p bound) (cc (k.going_owned.frames f))
  where
    by : (w : Ptw) → names w ≡ Some f → is_going_frame (bound_use (u, p) w) ≡ false → w ≡ ptw.Here f
    by (ptw.Here h) n g = cc
    by (ptw.Leaving h) n g = cc
    by _ n g = cc

-- the owner is another, and custody sees what it saw
pub owner_next : {v : Seen} {owner : Option Owner} → KeepsBook v → cut_of_owner v.owner ≡ cut_of_owner owner
    → is_pending v.owner ≡ is_pending owner → IsOwned (shown v) owner → KeepsBook (record v { owner = owner })
owner_next {v} {owner} k cut pending owned = record {
  legal = k.legal;
  clean = k.clean;
  held = sym same ∙ k.held;
  stale_due = rw (← same, ← pending) k.stale_due;
  going_owned = rw (← same) owned;
  tied = k.tied;
  holding_right = λ d. (rw same at (k.holding_right d));
  under_way = k.under_way;
  runs = k.runs;
}
  where
    same : shown v ≡ shown (record v { owner = owner })
    same = λ i. record (shown v) { descriptor = λ j n. descriptor_use (v.linked j n) (cut_uid (cut i) j n) }

-- all that was taken is gone or back, and nothing is due: the job is over
pub job_over : (v : Seen) (owner : Option Owner) → KeepsBook v → frames_of_owner v.owner ≡ []
    → cut_of_owner v.owner ≡ [] → NoneDue (shown v)
    → is_pending v.owner ≡ false → IsIdle owner → is_pending owner ≡ false → KeepsBook (record v { owner = owner })
job_over v owner k frames cut none was now still = owner_next k (cc) (cc) owned
  where
    owned : IsOwned (shown v) owner
    owned = record {
      frames = λ f. cc (k.going_owned.frames f);
      cuts = λ j n. cc (k.going_owned.cuts j n);
      once = rw now.frames tt;
      apart = rw now.cut tt;
      due = λ d w h. cc (none d);
      alive = λ d w h. cc (none d);
      says = λ w h. cc;
      shaped = now.shaped;
    }
