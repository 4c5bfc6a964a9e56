-- The rule over the words of the table and the views of its seats, and the laws that rest on it.
use Rattle.std.specs.Prelude.{◌≡◌, ℕ, ◌+◌, ◌*◌, ◌<◌, ◌≤◌, ◌⊎◌, List, length, slice_index, slice_index_or, Option, None, Some}
use mathlib.Core.Option.{some}
use lib.ListN.{get_elem?}
use Rattle.live_doors.specs.declared.rule.Size.{Size}
use Rattle.live_doors.specs.declared.views.Walk.{Walk}
use Rattle.live_doors.specs.declared.views.Watch.{Watch}
use Rattle.live_doors.specs.declared.views.View.{View}
use Rattle.live_doors.specs.declared.views.View.TheVariants.{Walking, Keeping, Spent}
use Rattle.live_doors.specs.Doors.{HasNoted, IsShut, MayBind}
use Rattle.live_doors.specs.Steps.{door_at, ack_at}

-- An entry of binding b is in order beside its door's word: the door admits b, or it was closed on b, and then no
-- stamp that the pass has read was raised since.
abbrev pub EntryOk : ℕ → ℕ → ℕ → ℕ → Type 0
EntryOk door since stamp b = (door ≡ 2 * b) ⊎ ((door ≡ 2 * b + 1) × (stamp ≤ since))

-- What the keeper knows is what stands in the words; of acknowledgements, no more than stands there.
-- There may be words beyond these, and there is a row for each frame and each processor.
pub record PlanOk (frames cpus : ℕ) (words : List ℕ) (plan : Watch) : Type 0 where
  pub room : 1 + frames + cpus ≤ length words
  pub doors_row : length plan.doors ≡ frames
  pub since_row : length plan.since ≡ frames
  pub noted_row : length plan.noted ≡ cpus
  pub made : plan.made ≤ cpus
  pub request : slice_index words 0 ≡ plan.request
  pub doors : (f : ℕ) → f < frames → slice_index words (door_at f) ≡ slice_index plan.doors f
  pub least : (f : ℕ) → f < frames → 1 ≤ slice_index plan.doors f
  pub noted : (cpu : ℕ) → cpu < cpus → slice_index plan.noted cpu ≤ slice_index words (ack_at frames cpu)
  pub unmade : (cpu : ℕ) → plan.made ≤ cpu → cpu < cpus → slice_index words (ack_at frames cpu) ≡ 0

-- What a pass knows beside the words and the keeper's plan, by the parts of either that it reads: its acknowledgement
-- is at most the stamp of its last `forget`, which is at most the request, and each entry that it holds is in order.
pub record EntriesOk (frames : ℕ) (words : List ℕ) (passes request : ℕ) (doors since : List ℕ) (cpu : ℕ)
    (held : List (Option ℕ)) (read ack : ℕ) : Type 0 where
  pub made : cpu < passes
  pub row : length held ≡ frames
  pub stamp : read ≤ request
  pub word : slice_index words (ack_at frames cpu) ≡ ack
  pub acked : ack ≤ read
  pub bound : (f b : ℕ) → slice_index_or held f None ≡ Some b → 1 ≤ b
  pub entries : (f b : ℕ) → slice_index_or held f None ≡ Some b
      → EntryOk (slice_index doors f) (slice_index since f) read b

abbrev pub PassOk : ℕ → ℕ → List ℕ → Watch → Walk → Type 0
PassOk frames cpus words plan p = EntriesOk frames words plan.made plan.request plan.doors plan.since p.cpu p.held
    p.stamp p.acked

-- What a seat knows is in order: each processor's pass has a seat of its own, and one seat is the keeper's.
abbrev pub SeatOk : ℕ → ℕ → List ℕ → Watch → ℕ → (ℕ → ℕ) → ℕ → View → Type 0
SeatOk frames cpus words plan keeper seat_of seat (Walking p) = (seat_of p.cpu ≡ seat) × PassOk frames cpus words plan p
SeatOk frames cpus words plan keeper seat_of seat (Keeping w) = (keeper ≡ seat) × (w ≡ plan)
SeatOk frames cpus words plan keeper seat_of seat Spent = Unit {0}

-- The rule: there are a plan, the keeper's seat and a seat for each processor, beside which the words and all views
-- are in order.
pub record Kept (z : Size) (words : List ℕ) (views : List View) : Type 0 where
  pub plan : Watch
  pub keeper : ℕ
  pub seat_of : ℕ → ℕ
  pub plan_ok : PlanOk z.frames z.cpus words plan
  pub seats_ok : (seat : ℕ) (v : View) → get_elem? views seat ≡ some v
      → SeatOk z.frames z.cpus words plan keeper seat_of seat v

-- no pass holds an entry of frame f
abbrev pub NoHolder : List View → ℕ → Type 0
NoHolder views f = (seat : ℕ) (p : Walk) → get_elem? views seat ≡ some (Walking p) → slice_index_or p.held f None ≡ None

-- wherever the rule holds and this is what the keeper knows, no pass holds an entry of frame f
abbrev pub HasNoHolder : Watch → ℕ → Type 0
HasNoHolder w f = (z : Size) (words : List ℕ) (views : List View) (seat : ℕ) → Kept z words views
    → get_elem? views seat ≡ some (Keeping w) → NoHolder views f

-- no pass holds an entry of a frame that was closed before this stamp was raised, and is closed still
abbrev pub IsClearOf : Watch → ℕ → Type 0
IsClearOf w stamp = (f : ℕ) → IsShut w f → slice_index w.since f < stamp → HasNoHolder w f

-- Where the keeper has noted from each processor an acknowledgement of at least a stamp, no pass holds an entry of a
-- frame that was closed before that stamp was raised.
abbrev pub NotedIsClear : Type 0
NotedIsClear = (w : Watch) (stamp : ℕ) → HasNoted w stamp → IsClearOf w stamp

-- no pass holds an entry of a frame that was never bound
abbrev pub NeverBoundHasNoHolder : Type 0
NeverBoundHasNoHolder = (w : Watch) (f : ℕ) → slice_index w.doors f ≡ 1 → HasNoHolder w f

-- no pass holds an entry of a frame that may be bound
abbrev pub MayBindHasNoHolder : Type 0
MayBindHasNoHolder = (w : Watch) (cleared f : ℕ) → HasNoted w cleared → MayBind w cleared f → HasNoHolder w f
