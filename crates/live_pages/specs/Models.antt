-- What callers see of pages, passes and the keeper.
use Rattle.std.specs.Prelude.{◌≡◌, ℕ, zero, suc, ◌+◌, ◌++◌, replicate, Option, ◌<◌, ◌≤◌, List, [], ◌∷◌, length, slice_index_or, slice_set, All, Some}
use mathlib.Core.Option as M
use lib.ListN.{get_elem?}
use Rattle.atomic_table.specs.Seated.{TableId}
use Rattle.live_pages.specs.declared.touch.Touch.{Touch}
use Rattle.live_pages.specs.declared.views.Hand.TheVariants.{Free, Has}
use Rattle.live_pages.specs.declared.views.Part.TheVariants.{In}
use Rattle.live_pages.specs.declared.views.View.TheVariants.{Passing, Keeping}
use Rattle.live_doors.specs.Doors.{HasNoted}
use Rattle.live_doors.specs.declared.rule.TheConstants.{MOST_CPUS}
use Rattle.live_doors.specs.Beside.{EntryRows, KeeperRows, AreEntriesOf, AreRowsOf}
use Rattle.live_pages.specs.declared.rule.Held.{Held}
use Rattle.live_pages.specs.declared.rule.Size.{Size}
use Rattle.live_pages.specs.declared.views.Walker.{Walker}
use Rattle.live_pages.specs.declared.views.Holder.{Holder}
use Rattle.live_pages.specs.Turns.{Seat, watching, first_holder, first_walker, walker_of, holder_of, taken, having_made, admitted, current}

-- which table it is, and how many frames and processors it has
pub record PagesModel : Type 0 where
  pub table : TableId
  pub frames : ℕ
  pub cpus : ℕ

-- the table that the pass came with, and what the pass knows
pub record PassModel : Type 0 where
  pub table : TableId
  pub walker : Walker

-- the table that the keeper came with, what the keeper knows, and the greatest stamp for which all was clear
pub record KeeperModel : Type 0 where
  pub table : TableId
  pub holder : Holder
  pub cleared : ℕ

-- the pass came with these pages
pub record IsPassOf (pages : PagesModel) (pass : PassModel) : Type 0 where
  pub table : pass.table ≡ pages.table
  pub frames : length pass.walker.walk.held ≡ pages.frames
  pub cpu : pass.walker.walk.cpu < pages.cpus
  pub cpus : pass.walker.cpus ≡ pages.cpus

-- the keeper came with these pages
pub record IsKeeperOf (pages : PagesModel) (keeper : KeeperModel) : Type 0 where
  pub table : keeper.table ≡ pages.table
  pub frames : length keeper.holder.watch.doors ≡ pages.frames
  pub since : length keeper.holder.watch.since ≡ pages.frames
  pub cpus : length keeper.holder.watch.noted ≡ pages.cpus
  pub parts : length keeper.holder.parts ≡ pages.cpus

-- what a pass has beside its seat is what the seat knows, as many touches were made, and it has no turn
pub record PassFits (m : Seat) (e : EntryRows) (count : ℕ) : Type 0 where
  pub seat : m ≡ (Passing (walker_of m.0), [])
  pub hand : (walker_of m.0).hand ≡ Free
  pub entries : AreEntriesOf e (walker_of m.0).walk
  pub touches : count ≡ length (walker_of m.0).made

-- what the keeper has beside its seat is what the seat knows, it has no turn, and from each processor it has an
-- acknowledgement of the greatest stamp for which all was clear
pub record KeeperFits (m : Seat) (r : KeeperRows) (clear : ℕ) : Type 0 where
  pub seat : m ≡ (Keeping (holder_of m.0), [])
  pub hand : (holder_of m.0).hand ≡ Free
  pub rows : AreRowsOf r (holder_of m.0).watch
  pub cleared : HasNoted (holder_of m.0).watch clear

-- the table is of this size, and there is room for a page of each frame
pub record PagesFit (key : Size) (table : TableId) (f c : ℕ) (left : List (List ℕ)) (capacity : ℕ) : Type 0 where
  pub frames : key.frames ≡ f
  pub cpus : key.cpus ≡ c
  pub words : table.words ≡ 1 + f + c + (f + 1)
  pub slots : table.slots ≡ f
  pub few : c ≤ MOST_CPUS
  pub empty : left ≡ []
  pub room : f ≤ capacity

-- the seat is a pass's that has the turn of frame f, with the page of the slot in hand
abbrev pub HasInHand : Seat → ℕ → Type 0
HasInHand m f = (h : Held) × (m ≡ (Passing (walker_of m.0), (f, Some h) ∷ [])) × ((walker_of m.0).hand ≡ Has f h.page)

-- the pass has made this touch of the page in hand, and has no turn any more
abbrev pub touched_in_hand : ℕ → ℕ → Touch → ℕ → Walker → Walker
touched_in_hand ticket f t word w = record (having_made ticket f t word [] w) { hand = Free }

-- the pass has made this touch of frame f by this ticket, and has no turn
abbrev pub having_touched : ℕ → ℕ → Touch → ℕ → Walker → Walker
having_touched ticket f t word w = record (having_made ticket f t word [] (taken f [] w)) { hand = Free }

-- Frame f's binding has ended and left a page, and its door admits the next one, which was given this page.
abbrev pub rebound : ℕ → List ℕ → List ℕ → Holder → Holder
rebound f page left k = record k {
  watch = admitted f k.watch;
  ended =
      record { frame = f; binding = current k.watch f; left = left; next = page } ∷ k.ended;
}

-- only doors, stamps and acknowledgements differ
pub record SameButWatch (old new : Holder) : Type 0 where
  pub hand : new.hand ≡ old.hand
  pub ended : new.ended ≡ old.ended
  pub parts : new.parts ≡ old.parts

-- each slot has a page of zeros
abbrev pub HaveZeroPages : List (Option Held) → Type 0
HaveZeroPages slots = (f : ℕ) → f < length slots → (h : Held) × (get_elem? slots f ≡ M.some (Some h))
    × (h.page ≡ replicate 1024 0)

-- the keeper once every pass is made
abbrev pub opening_holder : ℕ → ℕ → Holder
opening_holder frames cpus = watching (λ w. record w { made = cpus }) (first_holder frames cpus)

-- the first n passes of these pages, each new, in order of processor
abbrev pub first_passes : PagesModel → ℕ → List PassModel
first_passes pages zero = []
first_passes pages (suc n) = first_passes pages n ++ record
    { table = pages.table; walker = first_walker pages.frames pages.cpus n } ∷ []

-- the pass of each processor is among these
abbrev pub AreAll : PagesModel → List PassModel → Type 0
AreAll pages passes = (cpu : ℕ) → cpu < pages.cpus → (i : ℕ) × (i < length passes)
    × ((d : PassModel) → (slice_index_or passes i d).walker.walk.cpu ≡ cpu)

-- Pages of this size that no frame is bound to, with their keeper and the passes of all processors, in order.
pub record AreNew (frames cpus : ℕ) (pages : PagesModel) (keeper : KeeperModel) (passes : List PassModel)
    : Type 0 where
  pub size : (pages.frames ≡ frames) × (pages.cpus ≡ cpus)
  pub keeper_of : IsKeeperOf pages keeper
  pub holder : (keeper.holder ≡ opening_holder frames cpus) × (keeper.cleared ≡ 0)
  pub first : passes ≡ first_passes pages cpus
  pub passes_of : All (IsPassOf pages) passes
  pub all : AreAll pages passes

-- the keeper with the touches of a pass
abbrev pub taking_in : PassModel → Holder → Holder
taking_in p k = record k { parts = slice_set k.parts p.walker.walk.cpu (In p.walker.made) }

-- the keeper with the touches of all these passes
abbrev pub taking_all_in : List PassModel → Holder → Holder
taking_all_in [] k = k
taking_all_in (p ∷ ps) k = taking_in p (taking_all_in ps k)

-- these are the pages of the slots, in order
abbrev pub HavePages : List (Option Held) → List (List ℕ) → Type 0
HavePages slots pages = (f : ℕ) → f < length pages → (h : Held) × (get_elem? slots f ≡ M.some (Some h))
    × (slice_index_or pages f [] ≡ h.page)
