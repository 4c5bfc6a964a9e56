-- What is seen at the end: all touches in order of their tickets, and each binding with its pages.
use Rattle.std.specs.Prelude.{◌≡◌, ℕ, zero, suc, ◌+◌, ◌<◌, All, List, [], ◌∷◌, ◌++◌, length, replicate, reverse, slice_index_or, Option, Some}
use mathlib.Core.Option as M
use lib.ListN.{get_elem?}
use Rattle.live_pages.specs.declared.rule.Held.{Held}
use Rattle.live_pages.specs.declared.rule.Size.{Size}
use Rattle.live_pages.specs.declared.touch.Made.{Made}
use Rattle.live_pages.specs.declared.touch.Bound.{Bound}
use Rattle.live_pages.specs.declared.views.Hand.TheVariants.{Free}
use Rattle.live_pages.specs.declared.views.Part.{Part}
use Rattle.live_pages.specs.declared.views.Part.TheVariants.{Out, In}
use Rattle.live_pages.specs.declared.views.Holder.{Holder}
use Rattle.live_pages.specs.declared.views.View.{View}
use Rattle.live_pages.specs.declared.views.View.TheVariants.{Keeping}
use Rattle.live_pages.specs.Touches.{Given, page_given, ended_of, AreInTurn, mine, by_ticket, after_all, AreOfOneThread}
use Rattle.live_pages.specs.Turns.{current}
use Rattle.live_pages.specs.Kept.{AreOfBindings, AllIn, Kept}

-- the touches that were taken in with a pass, the last one first
abbrev pub touches_in : Part → List Made
touches_in Out = []
touches_in (In made) = made

-- the touches of the first processors
abbrev pub touches_in_first : ℕ → List Part → List Made
touches_in_first zero parts = []
touches_in_first (suc cpu) parts = touches_in_first cpu parts ++ touches_in (slice_index_or parts cpu Out)

-- the touches of all processors
abbrev pub all_touches : Holder → List Made
all_touches k = touches_in_first (length k.parts) k.parts

-- all touches in order of ticket: for each number below their count, the touch that drew it
abbrev pub in_order : Holder → List Made
in_order k = by_ticket (length (all_touches k)) (all_touches k)

-- the touches of one processor, in order
abbrev pub made_by : ℕ → Holder → List Made
made_by cpu k = reverse (touches_in (slice_index_or k.parts cpu Out))

-- the page of each binding after all touches
abbrev pub pages_after : Holder → Given
pages_after k = after_all (in_order k) (page_given k.ended)

-- a binding, with the page that it was given and the page that was handed out at its end or is left
pub record Binding : Type 0 where
  pub frame : ℕ
  pub number : ℕ
  pub given : List ℕ
  pub left : List ℕ

-- the bindings that have ended, in order
abbrev pub ended_bindings : Given → List Bound → List Binding
ended_bindings given [] = []
ended_bindings given (b ∷ bs) = ended_bindings given bs
    ++ record { frame = b.frame; number = b.binding; given = given b.frame b.binding; left = b.left } ∷ []

-- the last binding of each of the first frames, where these pages are left
abbrev pub last_bindings : ℕ → List (List ℕ) → Holder → List Binding
last_bindings zero pages k = []
last_bindings (suc f) pages k = last_bindings f pages k ++ record {
  frame = f;
  number = current k.watch f;
  given =
      page_given k.ended f (current k.watch f);
  left = slice_index_or pages f [];
} ∷ []

-- all bindings, where these pages are left
abbrev pub all_bindings : List (List ℕ) → Holder → List Binding
all_bindings pages k = ended_bindings (page_given k.ended) k.ended ++ last_bindings (length pages) pages k

-- the page that was handed out, or is left, is the one that the binding was given after its touches
abbrev pub IsLeftAfterAll : Holder → Binding → Type 0
IsLeftAfterAll k b = b.left ≡ pages_after k b.frame b.number

-- the frame has had a binding since, which was given this page
abbrev pub HasNext : Holder → Bound → Type 0
HasNext k b = (b.binding < current k.watch b.frame) × (b.next ≡ page_given k.ended b.frame (b.binding + 1))

-- What the keeper knows, with the touches of every pass, is as one thread would have it that made all touches in order
-- of ticket.
pub record IsOfOneThread (cpus : ℕ) (k : Holder) : Type 0 where
  -- the tickets are the numbers from 0 on, each once, and each word is that of its binding's page at that moment
  pub words : AreOfOneThread 0 (page_given k.ended) (in_order k)
  -- each processor's touches are exactly its own, in order
  pub own : (cpu : ℕ) → cpu < cpus → made_by cpu k ≡ mine cpu (in_order k)
  -- each touch is by a processor that there is, of a binding that its frame has had
  pub bindings : AreOfBindings cpus k.watch (in_order k)
  -- each bind gave the frame's next binding the page that it took
  pub given : All (HasNext k) k.ended
  -- binding 0 of each frame had the page of zeros
  pub zeros : (f : ℕ) → page_given k.ended f 0 ≡ replicate 1024 0
  -- the bindings of each frame ended in turn, from 0 up to the last one
  pub in_turn : AreInTurn k.ended
  pub last : (f : ℕ) → current k.watch f ≡ ended_of f k.ended

-- all is as one thread would have it, and each page that was handed out and the page in each slot is its binding's
-- after its touches
abbrev pub EndIsLegal : ℕ → ℕ → List (M.Option (Option Held)) → Holder → Type 0
EndIsLegal frames cpus homes k = IsOfOneThread cpus k × All (IsLeftAfterAll k)
    (ended_bindings (page_given k.ended) k.ended)
    × ((f : ℕ) → f < frames → (h : Held) × (get_elem? homes f ≡ M.some (M.some (Some h)))
    × (h.page ≡ pages_after k f (current k.watch f)))

-- Once the keeper has taken every pass in, the end is legal.
abbrev pub AllInIsLegal : Type 0
AllInIsLegal = (z : Size) (words : List ℕ) (homes : List (M.Option (Option Held))) (views : List View) (seat : ℕ)
    (k : Holder) → Kept z words homes views
    → get_elem? views seat ≡ M.some (Keeping k) → k.hand ≡ Free → AllIn z.cpus k
    → EndIsLegal z.frames z.cpus homes k
