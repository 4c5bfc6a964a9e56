-- Laws of the first field at fault.
use Rattle.line_reasons.proofs.Prelude.{◌≡◌, ℕ, ◌+◌, List, [], ◌∷◌, Option, Some, None, sym, ap, ◌∙◌, Due, EntryReason, due_after, fault_at, last_fault, or_later, reason_from}

-- a field is without fault
pub goes_on : (n : ℕ) (d e : Due) (f : List ℕ) (fs gs : List (List ℕ)) (w : Option EntryReason) → gs ≡ f ∷ fs
    → None ≡ fault_at n d f → e ≡ due_after d f → reason_from n d gs ≡ w
    → reason_from (n + 1) e fs ≡ w
unfolding reason_from
goes_on n d e f fs gs w cut none is h =
    sym (ap (λ (x : List (List ℕ)). reason_from n d x) cut
    ∙ ap (λ (o : Option EntryReason). or_later o (reason_from (n + 1) (due_after d f) fs)) (sym none)
    ∙ ap (λ (x : Due). reason_from (n + 1) x fs) (sym is)) ∙ h

-- a field is at fault
pub goes_out : (n : ℕ) (d : Due) (f : List ℕ) (fs gs : List (List ℕ)) (r : EntryReason) (w : Option EntryReason)
    → gs ≡ f ∷ fs → Some r ≡ fault_at n d f → reason_from n d gs ≡ w
    → Some r ≡ w
unfolding reason_from
goes_out n d f fs gs r w cut some h =
    sym (ap (λ (x : List (List ℕ)). reason_from n d x) cut
    ∙ ap (λ (o : Option EntryReason). or_later o (reason_from (n + 1) (due_after d f) fs)) (sym some)) ∙ h

-- a field is the last
pub goes_last : (n : ℕ) (d : Due) (f : List ℕ) (gs : List (List ℕ)) (o w : Option EntryReason) → gs ≡ f ∷ []
    → o ≡ last_fault n d f → reason_from n d gs ≡ w
    → o ≡ w
unfolding reason_from last_fault
goes_last n d f gs o w cut is h = is ∙ (sym (ap (λ (x : List (List ℕ)). reason_from n d x) cut) ∙ h)

pub ruleset reason_steps = (goes_on, goes_out, goes_last)
