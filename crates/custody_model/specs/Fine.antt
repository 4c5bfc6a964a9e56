-- What processors hold is current, or they are still to drop it: why a book goes on to be clean.
use Rattle.std.specs.Prelude.{◌≡◌, ℕ, Bool, true, false, [], Some, None, IsSomeAnd, ◌⊎◌}
use Rattle.assoc_mem.specs.declared.What.{What}
use Rattle.book.specs.declared.entries.Entry.{Entry}
use Rattle.book.specs.declared.entries.Entry.TheVariants as entry
use Rattle.custody_model.specs.Custody.{Custody, is_current_frame, is_going_frame, is_current_descriptor, is_going_descriptor, has, names_frame, names_descriptor}

-- a processor is to drop something that passes a test, or the signal is still to come
abbrev pub IsWarned : Custody → Bool → ℕ → (What → Bool) → Type 0
IsWarned c pending d test = (pending ≡ true) ⊎ IsSomeAnd (c.seat d).due (λ w. test w ≡ true)

-- a page table word that a processor holds is current; or it is on its way out, and the processor is warned
abbrev pub IsFinePage : Custody → Bool → ℕ → ℕ → Type 0
IsFinePage c pending d f = (is_current_frame (c.frame f) ≡ true) ⊎
    ((is_going_frame (c.frame f) ≡ true) × IsWarned c pending d (λ w. names_frame c w f))

-- the same of a descriptor
abbrev pub IsFineSeg : Custody → Bool → ℕ → ℕ → ℕ → Type 0
IsFineSeg c pending d k n =
    (is_current_descriptor (c.descriptor k n) ≡ true)
    ⊎ ((is_going_descriptor (c.descriptor k n) ≡ true) × IsWarned c pending d (λ w. names_descriptor c w k n))

-- Of each processor; one that is offline holds nothing. `pending` says that something was taken for which no signal was
-- given yet.
pub record Fine (c : Custody) (pending : Bool) : Type 0 where
  pub page : (d f : ℕ) → has (c.seat d).pages f ≡ true → IsFinePage c pending d f
  pub seg : (d k n : ℕ) → (c.seat d).process ≡ Some k → has (c.seat d).segs n ≡ true → IsFineSeg c pending d k n
  pub idle : (d : ℕ) → (c.seat d).online ≡ false → ((c.seat d).segs ≡ []) × ((c.seat d).pages ≡ [])

-- no processor is to drop anything
abbrev pub NoneDue : Custody → Type 0
NoneDue c = (d : ℕ) → (c.seat d).due ≡ None

-- whether a signal is still to come, once an entry was made: one that takes something away asks for it, a signal is it
abbrev pub pending_after : Bool → Entry → Bool
pending_after pending (entry.Take f) = true
pending_after pending (entry.Cut k n) = true
pending_after pending (entry.Signal d w) = false
pending_after pending _ = pending

-- only a processor that takes part fills its associative memory
abbrev pub FillsOnline : Custody → Entry → Type 0
FillsOnline c (entry.FillSeg d n) = (c.seat d).online ≡ true
FillsOnline c (entry.FillPage d f) = (c.seat d).online ≡ true
FillsOnline c _ = Unit {0}
