-- What holds while the shutdown visits one frame after another, and before it: a processor without a process holds
-- nothing; and of the frames that were visited (Organick 1972; own).
use Rattle.std.specs.Prelude.{◌≡◌, ◌<◌, ◌≤◌, ◌⊎◌, ◌++◌, ◌∷◌, ℕ, true, false, List, None}
use Rattle.assoc_mem.specs.Held.{nothing_held}
use Rattle.book.specs.declared.entries.Entry.{Entry}
use Rattle.book.specs.declared.entries.Entry.TheVariants as entry
use Rattle.core_map.specs.CoreMap.{bound_page}
use Rattle.page_control.specs.Plain.{Plain, frame_in, words_in}
use Rattle.machine_model.specs.Actions.{is_over}
use Rattle.machine_model.specs.Jobs.{are_zeros}
use Rattle.machine_model.specs.Reads.{cpu_at}
use Rattle.machine_model.specs.State.{State}
use Rattle.machine_model.specs.declared.Processor.{Processor}

-- a processor without a process holds nothing
pub record AreIdle (processors : List Processor) : Type 0 where
  pub held : (d : ℕ) → (cpu_at processors d).process ≡ None → (cpu_at processors d).assoc ≡ nothing_held

-- The book tells that a drive failed, for no process, and right after it that the page in a frame is back.
pub record TellsBack (entries : List Entry) (f : ℕ) : Type 0 where
  pub before : List Entry
  pub later : List Entry
  pub told : entries ≡ before ++ entry.Fault None ∷ entry.BackPage f ∷ later

-- the page that a frame kept isn't all zeros, and the book tells why it is there
pub record HasStayed (pages : Plain) (entries : List Entry) (f : ℕ) : Type 0 where
  pub words : are_zeros (words_in pages f) ≡ false
  pub told : TellsBack entries f

-- a frame has no page, or kept it
abbrev pub WasVisited : Plain → List Entry → ℕ → Type 0
WasVisited pages entries f = (bound_page (frame_in pages f) ≡ None) ⊎ HasStayed pages entries f

-- Once a frame was visited no process is ready or running; no more are visited than there are; and each was.
pub record AreVisited (s : State) : Type 0 where
  pub idle : AreIdle s.processors
  pub over : 0 < s.visited → is_over s ≡ true
  pub few : s.visited ≤ s.plan.frames
  pub each : (f : ℕ) → f < s.visited → WasVisited s.store.pages s.entries f
