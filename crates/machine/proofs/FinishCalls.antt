-- What the calls ask that let a page go, and what is shown after them, however the call of the drive ended.
use Rattle.machine.proofs.Prelude.{Aim, Err, HasOwner, IfOk, IsFaithful, IsLeaving, Left, List, MayAnswer, MayComeBack, MayFail, Ok, Parts, Result, State, Store, ap, arith, by_outcome, cond, descriptors_return, frames_of_owner, left_of, left_page, outcome_of, page_in, pages_return, subst, without_left, words_in, write_failed, ℕ, ◌∙◌, ◌∷◌, ◌≡◌, Plan, Action}
use Rattle.machine.proofs.Does.{Does, keeps_of}
use Rattle.machine.proofs.Found.{Waited}
use Rattle.machine.proofs.Stays.{faithful_as}
use Rattle.machine.proofs.TakingStays.{failed_as}

-- the owner's job has waited, and this is the first frame that is left
abbrev Leaves : State → ℕ → ℕ → Aim → Type 0
Leaves s c f a = Waited s c a (λ fs. (rest : List ℕ) × (fs ≡ f ∷ rest))

module _ {D : Type 0} {t : Parts D} {c : ℕ} {a : Action} (d : Does t c a) where
  abbrev s : State
  s = t.state

  -- all that the owner took may come back, and its process may be answered
  pub may_fail : {k : ℕ} → MayAnswer t c k → HasOwner s.owner → MayFail t c k
  may_fail may owner = grind (arith, pages_return, keeps_of, descriptors_return)

  -- the page that leaves is on its way out
  pub leaves_by : {f : ℕ} {w : Aim} → Leaves s c f w → IsLeaving s.store f
  leaves_by l = (subst (MayComeBack s.store) (ap frames_of_owner l.waited.owner.mine ∙ l.left.1)
      (pages_return s (keeps_of d))).0

-- what the call tells of the flat store, by how it ended: the page has left its frame, or all is as it was
pub finished_shown : {E : Type 0} (s : State) (c f n : ℕ) (r : Result Left E) (done now : State)
    → now ≡ by_outcome (outcome_of r n) done (write_failed s c n)
    → IfOk r (λ left. left ≡ left_of (words_in s.store.pages f))
    → IfOk r (λ left. (p : Plan) (x : Store) → IsFaithful p x s.store
    → IsFaithful p (without_left left (page_in s.store f) x) now.store) → (x : Store) → IsFaithful s.plan x s.store
    → IsFaithful s.plan (cond (outcome_of r n).failed x (left_page s f x)) now.store
finished_shown s c f n (Ok left) done now is how shown x h = rw how at (shown s.plan x h)
finished_shown s c f n (Err e) done now is how shown x h = rw is (faithful_as (failed_as s c n) s.plan x h)
