-- The rule over the words of the table, the pages in their slots and the views of its seats.
use Rattle.std.specs.Prelude.{◌≡◌, ◌≢◌, ℕ, ◌+◌, ◌/◌, ◌^◌, ◌<◌, ◌≤◌, List, [], ◌∷◌, length, replicate, slice_index, slice_index_or, Option, None, Some}
use mathlib.Core.Option as M
use lib.ListN.{get_elem?}
use Rattle.live_doors.specs.declared.views.Walk.{Walk}
use Rattle.live_doors.specs.declared.views.Watch.{Watch}
use Rattle.live_doors.specs.Doors.{HasNoted, MayBind, IsShut}
use Rattle.live_doors.specs.Steps.{door_at}
use Rattle.live_doors.specs.Kept.{PlanOk, PassOk}
use Rattle.live_pages.specs.declared.rule.Held.{Held}
use Rattle.live_pages.specs.declared.rule.Size.{Size}
use Rattle.live_pages.specs.declared.touch.Made.{Made}
use Rattle.live_pages.specs.declared.touch.Bound.{Bound}
use Rattle.live_pages.specs.declared.views.Hand.{Hand}
use Rattle.live_pages.specs.declared.views.Hand.TheVariants.{Free, Has}
use Rattle.live_pages.specs.declared.views.Part.TheVariants.{Out, In}
use Rattle.live_pages.specs.declared.views.Walker.{Walker}
use Rattle.live_pages.specs.declared.views.Holder.{Holder}
use Rattle.live_pages.specs.declared.views.View.{View}
use Rattle.live_pages.specs.declared.views.View.TheVariants.{Passing, Keeping, Spent}
use Rattle.live_pages.specs.Touches.{Given, page_given, ended_of, AreInTurn, after, IsLegal, mine}
use Rattle.live_pages.specs.Turns.{turn_at, ticket_at, current, hand_of}

-- each touch is by a processor that there is, of a binding that its frame has had
abbrev pub AreOfBindings : ℕ → Watch → List Made → Type 0
AreOfBindings cpus plan [] = Unit {0}
AreOfBindings cpus plan (e ∷ es) = AreOfBindings cpus plan es × (e.cpu < cpus) × (e.binding ≤ current plan e.frame)

-- Each binding that has ended left the page that its touches made, and the next one was given the page that is named.
abbrev pub HaveLeft : Given → Watch → List Made → List Bound → Type 0
HaveLeft given plan log [] = Unit {0}
HaveLeft given plan log (b ∷ bs) = HaveLeft given plan log bs × (b.binding < current plan b.frame)
    × (b.left ≡ after given b.frame b.binding log)
    × (b.next ≡ given b.frame (b.binding + 1))

-- What the words say besides doors, stamps and acknowledgements: the tickets count the touches, which are those of one
-- thread. No processor makes more than 2^32, so the tickets never wrap.
pub record BookOk (frames cpus : ℕ) (words : List ℕ) (plan : Holder) (given : Given) (log : List Made) : Type 0 where
  pub plan_ok : PlanOk frames cpus words plan.watch
  pub room : ticket_at frames cpus < length words
  pub parts : length plan.parts ≡ cpus
  pub ticket : slice_index words (ticket_at frames cpus) ≡ length log
  pub legal : IsLegal given log
  pub bindings : AreOfBindings cpus plan.watch log
  pub few : (cpu : ℕ) → length (mine cpu log) ≤ 2 ^ 32
  pub left : HaveLeft given plan.watch log plan.ended
  pub zeros : (f : ℕ) → given f 0 ≡ replicate 1024 0
  pub given_is : (f b : ℕ) → given f b ≡ page_given plan.ended f b
  pub in_turn : AreInTurn plan.ended
  pub last : (f : ℕ) → current plan.watch f ≡ ended_of f plan.ended
  pub unmade : (cpu : ℕ) → plan.watch.made ≤ cpu → (mine cpu log ≡ []) × (slice_index_or plan.parts cpu Out ≡ Out)
  pub taken_in : (cpu : ℕ) (made : List Made) → slice_index_or plan.parts cpu Out ≡ In made → made ≡ mine cpu log

-- a frame whose turn is free has its page in its slot
abbrev pub SlotsOk : ℕ → ℕ → List ℕ → List (M.Option (Option Held)) → Watch → Given → List Made → Type 0
SlotsOk frames cpus words homes plan given log = (f : ℕ) → f < frames → slice_index words (turn_at frames cpus f) ≡ 0
    → (h : Held) × (get_elem? homes f ≡ M.some (M.some (Some h))) × (h.page ≡ after given f (current plan f) log)

-- a turn that is taken is the holder's
abbrev pub TurnsOk : ℕ → ℕ → List ℕ → List View → (ℕ → ℕ) → Type 0
TurnsOk frames cpus words views holder = (f : ℕ) → f < frames → slice_index words (turn_at frames cpus f) ≢ 0
    → (v : View) × (page : List ℕ) × (get_elem? views (holder f) ≡ M.some v) × (hand_of v ≡ Has f page)

-- who has a turn has it alone, with the page of the frame's binding
abbrev pub HandOk : ℕ → ℕ → List ℕ → Watch → (ℕ → ℕ) → Given → List Made → ℕ → Hand → Type 0
HandOk frames cpus words plan holder given log seat Free = Unit {0}
HandOk frames cpus words plan holder given log seat (Has f page) =
    (f < frames) × (holder f ≡ seat) × (slice_index words (turn_at frames cpus f) ≢ 0)
    × (page ≡ after given f (current plan f) log)

-- a pass has the turn only of a frame that it holds an entry of
abbrev pub HoldsHand : Hand → Walk → Type 0
HoldsHand Free p = Unit {0}
HoldsHand (Has f page) p = (b : ℕ) × (slice_index_or p.held f None ≡ Some b)

pub record WalkerOk (frames cpus : ℕ) (words : List ℕ) (plan : Holder) (holder : ℕ → ℕ) (given : Given)
    (log : List Made) (seat : ℕ) (w : Walker) : Type 0 where
  pub all : w.cpus ≡ cpus
  pub pass_ok : PassOk frames cpus words plan.watch w.walk
  pub made : w.made ≡ mine w.walk.cpu log
  pub hand_ok : HandOk frames cpus words plan.watch holder given log seat w.hand
  pub holds : HoldsHand w.hand w.walk
  pub out : slice_index_or plan.parts w.walk.cpu Out ≡ Out

abbrev pub SeatOk : ℕ → ℕ → List ℕ → Holder → ℕ → (ℕ → ℕ) → (ℕ → ℕ) → Given → List Made → ℕ → View → Type 0
SeatOk frames cpus words plan keeper seat_of holder given log seat (Passing w) = (seat_of w.walk.cpu ≡ seat)
    × WalkerOk frames cpus words plan holder given log seat w
SeatOk frames cpus words plan keeper seat_of holder given log seat (Keeping k) = (keeper ≡ seat) × (k ≡ plan)
    × HandOk frames cpus words plan.watch holder given log seat k.hand
SeatOk frames cpus words plan keeper seat_of holder given log seat (Spent k) = Unit {0}

-- What stands behind words, slots and views: a plan, the keeper's seat, a seat for each processor, a holder for each
-- turn, a page that each binding was given, and the touches.
pub record Known : Type 0 where
  pub plan : Holder
  pub keeper : ℕ
  pub seat_of : ℕ → ℕ
  pub holder : ℕ → ℕ
  pub given : Given
  pub log : List Made

-- The rule: there is something beside which words, slots and all views are in order.
pub record Kept (z : Size) (words : List ℕ) (homes : List (M.Option (Option Held))) (views : List View) : Type 0 where
  pub known : Known
  pub book_ok : BookOk z.frames z.cpus words known.plan known.given known.log
  pub slots_ok : SlotsOk z.frames z.cpus words homes known.plan.watch known.given known.log
  pub turns_ok : TurnsOk z.frames z.cpus words views known.holder
  pub seats_ok : (seat : ℕ) (v : View) → get_elem? views seat ≡ M.some v
      → SeatOk z.frames z.cpus words known.plan known.keeper known.seat_of known.holder known.given known.log seat v

-- the touches of every processor were taken in
abbrev pub AllIn : ℕ → Holder → Type 0
AllIn cpus k = (cpu : ℕ) → cpu < cpus → (made : List Made) × (slice_index_or k.parts cpu Out ≡ In made)

-- wherever the rule holds and a pass holds these entries, this is the binding of frame f, by its door
abbrev pub IsCurrent : Walk → ℕ → ℕ → Type 0
IsCurrent p f b = (z : Size) (words : List ℕ) (homes : List (M.Option (Option Held))) (views : List View) (seat : ℕ)
    (w : Walker)
    → Kept z words homes views → get_elem? views seat ≡ M.some (Passing w) → w.walk.held ≡ p.held → f < z.frames
    → slice_index words (door_at f) / 2 ≡ b

-- The binding that a pass's entry names is the frame's at that moment.
abbrev pub EntryIsCurrent : Type 0
EntryIsCurrent = (p : Walk) (f b : ℕ) → slice_index_or p.held f None ≡ Some b → IsCurrent p f b

-- no pass holds an entry of frame f
abbrev pub NoHolder : List View → ℕ → Type 0
NoHolder views f = (seat : ℕ) (w : Walker) → get_elem? views seat ≡ M.some (Passing w)
    → slice_index_or w.walk.held f None ≡ None

-- wherever the rule holds and this is what the keeper knows, no pass holds an entry of frame f
abbrev pub HasNoHolder : Holder → ℕ → Type 0
HasNoHolder k f = (z : Size) (words : List ℕ) (homes : List (M.Option (Option Held))) (views : List View) (seat : ℕ)
    → Kept z words homes views
    → get_elem? views seat ≡ M.some (Keeping k) → NoHolder views f

-- no pass holds an entry of a frame that was closed before this stamp was raised, and is closed still
abbrev pub IsClearOf : Holder → ℕ → Type 0
IsClearOf k stamp = (f : ℕ) → IsShut k.watch f → slice_index k.watch.since f < stamp → HasNoHolder k f

-- no pass holds an entry of a frame that may be bound
abbrev pub MayBindHasNoHolder : Type 0
MayBindHasNoHolder = (k : Holder) (cleared f : ℕ) → HasNoted k.watch cleared → MayBind k.watch cleared f
    → HasNoHolder k f
