-- A machine keeps its promise through an action of a step, where the calls of its store do what they say.
use Rattle.machine.proofs.Prelude.{AreAccounts, FillPage, FillSeg, FillsBusy, IsBusy, IsFaithful, IsKept, IsSound, IsStore, List, Outcome, Parts, Rose, Says, State, Storage, Store, after, ap, arith, is_of_process, length, no_call, none_some, pools_kept, refl, shown_after, step_keeps_all, sym, true, ℕ, ◌∙◌, ◌≡◌, ◌≤◌, OnErr, Result, outcome_of, sum, StoreKept, Action}
use Rattle.machine.proofs.CallLaws.{outcome_faults, outcome_tells}
use Rattle.machine.proofs.CountsKept.{counts_kept}
use Rattle.machine.proofs.Does.{Does, busy, keeps_of}
use Rattle.machine.proofs.VisitNext.{visited_after}

-- what the tables say of the store that a call leaves
pub record IsStoreOf (st : Storage) : Type 0 where
  pub kept : IsKept st.pages st.ast st.links
  pub counted : IsStore st.pages st.ast st.links st.accounts st.whos
  pub accounts : AreAccounts st.accounts

-- a processor that takes an entry in has a process
fills_busy : (s : State) (c : ℕ) (a : Action) → (is_of_process a ≡ true → IsBusy s c) → FillsBusy s c a
fills_busy s c (FillSeg n) its = λ e. none_some (sym e ∙ its refl)
fills_busy s c (FillPage f r) its = λ e. none_some (sym e ∙ its refl)
fills_busy s c a its = tt

module _ {D : Type 0} {t now : Parts D} {c : ℕ} {a : Action} (d : Does t c a) where
  -- The store keeps its promise and shows what it is to show, and the drives' count rises where one failed.
  pub sound_after : (o : Outcome) → now.state ≡ after t.state c a o → now.room ≡ t.room → IsStoreOf now.state.store
      → ((x : Store) → IsFaithful t.state.plan x t.state.store
      → IsFaithful t.state.plan (shown_after t.state c o a x) now.state.store)
      → t.state.faults ≤ o.faults → (o.failed ≡ true → Rose t.state.faults o.faults) → IsSound now
  sound_after o state room told shown never_less counted = record {
    keeps = rw state (rw d.may.doing at (step_keeps_all t.state c o d.sound.keeps d.may.there (rw d.may.doing says)));
    room = rw plan (cc);
    drives = rw plan (ap (λ (s : State). length s.store.pages.disks) state
        ∙ (ap (λ (n : ℕ × ℕ). n.1) (counts_kept t.state c a o) ∙ d.sound.drives));
    visits = rw state (rw d.may.doing at (visited_after t.state c o d.may.there
        (rw d.may.doing (fills_busy t.state c a (busy d))) d.sound.visits));
  }
    where
      kept : StoreKept now.state.store
      kept = record {
        kept = told.kept;
        counted = told.counted;
        accounts = told.accounts;
        places = ap (λ (s : State). length s.store.ast.entries) state
            ∙ (ap (λ (n : ℕ × ℕ). n.0) (counts_kept t.state c a o) ∙ ((keeps_of d).store.places
            ∙ ap (λ (ns : List ℕ). sum ns) (sym (ap (λ (s : State). s.store.ast.sizes) state
            ∙ (pools_kept t.state c a o).sizes))));
      }

      says : Says t.state c o a
      says = record {
        store = rw state at kept;
        shown = λ x h. rw state at (shown x h);
        never_less = never_less;
        counted = counted;
      }

      plan : now.state.plan ≡ t.state.plan
      plan = cc ((pools_kept t.state c a o).plan)

  -- an action with no call of a drive
  pub changed_sound : now.state ≡ after t.state c a (no_call t.state) → now.room ≡ t.room
      → IsStoreOf now.state.store → ((x : Store) → IsFaithful t.state.plan x t.state.store
      → IsFaithful t.state.plan (shown_after t.state c (no_call t.state) a x) now.state.store) → IsSound now
  changed_sound state room told shown = sound_after (no_call t.state) state room told shown (omega arith) (λ h. cc)

  -- one that calls a drive, or two
  pub drive_sound : {T E : Type 0} (r : Result T E) → now.state ≡ after t.state c a (outcome_of r now.state.faults)
      → now.room ≡ t.room → IsStoreOf now.state.store → ((x : Store) → IsFaithful t.state.plan x t.state.store
      → IsFaithful t.state.plan (shown_after t.state c (outcome_of r now.state.faults) a x) now.state.store)
      → (t.state.faults ≤ now.state.faults) × OnErr r (Rose t.state.faults now.state.faults) → IsSound now
  drive_sound r state room told shown counts = grind (arith, sound_after, outcome_faults, outcome_tells)
