-- What each kind of step on a word tells the seat that makes it.
use Rattle.std.specs.Prelude.{◌≡◌, ◌≢◌, ℕ, ◌+◌, ◌*◌, ◌/◌, ◌≤◌, List, [], ◌∷◌, ◌++◌, length, replicate, slice_index, slice_index_or, slice_set, Option, None, Some}
use Rattle.atomic_table.specs.Table.{Step, Me}
use Rattle.live_doors.specs.declared.views.Walk.{Walk}
use Rattle.live_doors.specs.declared.views.Watch.{Watch}
use Rattle.live_doors.specs.Doors.{blank, first_watch, having_read, having_noted, forgotten, acknowledged, shut, raised}
use Rattle.live_doors.specs.Steps.{door_at, ack_at, filled, first_words}
use Rattle.live_pages.specs.declared.rule.Held.{Held}
use Rattle.live_pages.specs.declared.touch.Touch.{Touch}
use Rattle.live_pages.specs.declared.views.Hand.{Hand}
use Rattle.live_pages.specs.declared.views.Hand.TheVariants.{Free, Has}
use Rattle.live_pages.specs.declared.views.Part.TheVariants.{Out, In}
use Rattle.live_pages.specs.declared.views.Walker.{Walker}
use Rattle.live_pages.specs.declared.views.Holder.{Holder}
use Rattle.live_pages.specs.declared.views.View.{View}
use Rattle.live_pages.specs.Touches.{AreBelow}
use Rattle.live_pages.specs.declared.views.View.TheVariants.{Passing, Keeping, Spent}

-- the word of frame f's turn: 0 exactly where the turn is free
abbrev pub turn_at : ℕ → ℕ → ℕ → ℕ
turn_at frames cpus f = 1 + frames + cpus + f

-- the word of tickets
abbrev pub ticket_at : ℕ → ℕ → ℕ
ticket_at frames cpus = 1 + frames + cpus + frames

-- the binding that a frame's door admits, or was closed on
abbrev pub current : Watch → ℕ → ℕ
current w f = slice_index w.doors f / 2

-- a pass at the start
abbrev pub first_walker : ℕ → ℕ → ℕ → Walker
first_walker frames cpus cpu = record { cpus = cpus; walk = blank frames cpu; made = []; hand = Free }

-- the keeper at the start
abbrev pub first_holder : ℕ → ℕ → Holder
first_holder frames cpus = record {
  watch = first_watch frames cpus 1;
  hand = Free;
  ended = [];
  parts =
      replicate cpus Out;
}

-- the words at the start: those of the doors, then every turn free and no ticket drawn
abbrev pub opening_words : ℕ → ℕ → List ℕ
opening_words frames cpus = first_words frames cpus 1 ++ replicate (frames + 1) 0

-- what a pass's seat knows; of another seat that of a new pass
abbrev pub walker_of : View → Walker
walker_of (Passing w) = w
walker_of (Keeping k) = first_walker 0 0 0
walker_of (Spent k) = first_walker 0 0 0

-- what the keeper's seat knows; of another seat that of a new keeper
abbrev pub holder_of : View → Holder
holder_of (Passing w) = first_holder 0 0
holder_of (Keeping k) = k
holder_of (Spent k) = k

abbrev pub hand_of : View → Hand
hand_of (Passing w) = w.hand
hand_of (Keeping k) = k.hand
hand_of (Spent k) = Free

-- the pass with other entries or stamps
abbrev pub walking : (Walk → Walk) → Walker → Walker
walking change w = record w { walk = change w.walk }

-- the keeper with other doors or stamps
abbrev pub watching : (Watch → Watch) → Holder → Holder
watching change k = record k { watch = change k.watch }

abbrev pub Seat : Type 0
Seat = Me (Option Held) View

abbrev pub Told : Type 1
Told = Step (Option Held) → Seat → ℕ → Seat → Type 0

abbrev pub Fills : Told
Fills s old word new = (f : ℕ) → s.word ≡ door_at f → (1 ≤ word)
    × (new ≡ (Passing (walking (filled f word) (walker_of old.0)), old.1))

abbrev pub Forgets : Told
Forgets s old word new = s.word ≡ 0 → new ≡ (Passing (walking (forgotten word) (walker_of old.0)), old.1)

abbrev pub Acknowledges : Told
Acknowledges s old word new = new ≡ (Passing (walking acknowledged (walker_of old.0)), old.1)

abbrev pub Closes : Told
Closes s old word new = (f : ℕ) → s.word ≡ door_at f → new ≡ (Keeping (watching (shut f) (holder_of old.0)), old.1)

abbrev pub Raises : Told
Raises s old word new = new ≡ (Keeping (watching raised (holder_of old.0)), old.1)

abbrev pub Looks : Told
Looks s old word new = (cpu : ℕ) → s.word ≡ ack_at (length (holder_of old.0).watch.doors) cpu
    → (slice_index (holder_of old.0).watch.noted cpu ≤ word)
    × (new ≡ (Keeping (watching (having_noted s.word cpu word) (holder_of old.0)), old.1))

abbrev pub binding_in : Option ℕ → ℕ
binding_in None = 0
binding_in (Some b) = b

-- the binding of the entry that a pass holds of frame f
abbrev pub binding_at : Walk → ℕ → ℕ
binding_at p f = binding_in (slice_index_or p.held f None)

-- the word of frame f's turn, as a pass knows it
abbrev pub turn_of : Walker → ℕ → ℕ
turn_of w f = turn_at (length w.walk.held) w.cpus f

-- the pass read that the turn was free, and has it now, with this page
abbrev pub taken : ℕ → List ℕ → Walker → Walker
taken f page w = record w { walk = having_read (turn_of w f) 0 w.walk; hand = Has f page }

-- A pass has the turn of frame f, with the page that its slot held; or the word was not 0, and it is noted.
abbrev pub Takes : Told
Takes s old word new = (f : ℕ) → s.word ≡ turn_of (walker_of old.0) f
    → (word ≡ 0 → (h : Held) × (new ≡ (Passing (taken f h.page (walker_of old.0)), (f, Some h) ∷ old.1)))
    × (word ≢ 0 → new ≡ (Passing (walking (having_read s.word word) (walker_of old.0)), old.1))

-- the pass has made this touch of frame f by this ticket, and has this page after it
abbrev pub having_made : ℕ → ℕ → Touch → ℕ → List ℕ → Walker → Walker
having_made ticket f t word page w = record w {
  made = record { ticket = ticket; cpu = w.walk.cpu; frame = f; binding = binding_at w.walk f; touch = t; word = word }
      ∷ w.made;
  hand = Has f page;
}

-- the pass makes the touch that lies with the page in hand, by a ticket above all that it had
abbrev pub Draws : Told
Draws s old word new = (f : ℕ) (h : Held) (rest : List (ℕ × Option Held)) → old.1 ≡ (f, Some h) ∷ rest
    → AreBelow word (walker_of old.0).made × (new ≡ (
      Passing
          (having_made word f h.touch h.word h.page (walker_of old.0)),
      old.1,
    ))

-- the pass has no turn any more, and the slot in hand is back in its place
abbrev pub Gives : Told
Gives s old word new = (x : ℕ × Option Held) (rest : List (ℕ × Option Held)) → old.1 ≡ x ∷ rest
    → new ≡ (Passing (record (walker_of old.0) { hand = Free }), rest)

-- the keeper found the turn free, and has it with the page that its slot held
abbrev pub KeeperTakes : Told
KeeperTakes s old word new = (f : ℕ) → s.word ≡ turn_at (length (holder_of old.0).watch.doors)
    (length (holder_of old.0).parts) f
    → (word ≡ 0) × ((h : Held) × (new ≡ (
      Keeping (record (holder_of old.0) { hand = Has f h.page }),
      (f, Some h)
          ∷ old.1,
    )))

-- the page that a keeper's turn has
abbrev pub page_of : Hand → List ℕ
page_of Free = []
page_of (Has f page) = page

-- the door of frame f admits the next binding
abbrev pub admitted : ℕ → Watch → Watch
admitted f w = record w { doors = slice_set w.doors f (2 * (current w f + 1)) }

-- The frame's binding ends with the page that the keeper took out, and the next one begins with this page. `given` is
-- what each binding of the frame was given.
abbrev pub bound_anew : ℕ → List ℕ → Holder → Holder
bound_anew f page k = record k {
  watch = admitted f k.watch;
  hand = Has f page;
  ended =
      record { frame = f; binding = current k.watch f; left = page_of k.hand; next = page } ∷ k.ended;
}

-- the keeper binds the frame to the page that lies in the slot in hand
abbrev pub Binds : Told
Binds s old word new = (f : ℕ) (h : Held) (rest : List (ℕ × Option Held)) → old.1 ≡ (f, Some h) ∷ rest
    → new ≡ (Keeping (bound_anew f h.page (holder_of old.0)), old.1)

abbrev pub KeeperGives : Told
KeeperGives s old word new = (x : ℕ × Option Held) (rest : List (ℕ × Option Held)) → old.1 ≡ x ∷ rest
    → new ≡ (Keeping (record (holder_of old.0) { hand = Free }), rest)

-- the keeper has made one pass more
abbrev pub keeper_with_pass : View → View
keeper_with_pass v = Keeping (watching (λ w. record w { made = w.made + 1 }) (holder_of v))

-- the pass of the next processor
abbrev pub pass_of_keeper : View → View
pass_of_keeper v = Passing (first_walker (length (holder_of v).watch.doors) (length (holder_of v).parts)
    (holder_of v).watch.made)

-- the keeper with the touches of a pass
abbrev pub taken_in : View → View → View
taken_in v w = Keeping (record (holder_of v) {
  parts =
      slice_set (holder_of v).parts (walker_of w).walk.cpu (In (walker_of w).made);
})

-- a seat that shows what the keeper knows, and steps no more
abbrev pub shown : View → View
shown v = Spent (holder_of v)
