-- What each kind of step on a word tells the seat that makes it.
use Rattle.std.specs.Prelude.{◌≡◌, ℕ, ◌+◌, ◌/◌, ◌%◌, ◌≤◌, ◌==◌, List, [], ◌∷◌, ◌++◌, replicate, length, slice_index, Bool, true, false}
use Rattle.atomic_table.specs.Table.{Step, Me}
use Rattle.atomic_table.specs.Seated.{TableId}
use Rattle.live_doors.specs.declared.rule.Size.{Size}
use Rattle.live_doors.specs.declared.views.Walk.{Walk}
use Rattle.live_doors.specs.declared.views.Watch.{Watch}
use Rattle.live_doors.specs.declared.views.View.{View}
use Rattle.live_doors.specs.declared.views.View.TheVariants.{Walking, Keeping, Spent}
use Rattle.live_doors.specs.Doors.{blank, first_watch, having_read, holding, forgotten, acknowledged, shut, raised, having_noted, HasNoted}
use Rattle.live_doors.specs.Beside.{EntryRows, KeeperRows, AreEntriesOf, AreRowsOf}

-- the word of frame f's door
abbrev pub door_at : ℕ → ℕ
door_at f = 1 + f

-- the word of a processor's acknowledgement
abbrev pub ack_at : ℕ → ℕ → ℕ
ack_at frames cpu = 1 + frames + cpu

-- the words at the start: no stamp, one word for every door, no acknowledgement
abbrev pub first_words : ℕ → ℕ → ℕ → List ℕ
first_words frames cpus door = 0 ∷ (replicate frames door ++ replicate cpus 0)

-- what a pass's seat knows; of another seat a blank
abbrev pub walk_of : View → Walk
walk_of (Walking p) = p
walk_of (Keeping w) = blank 0 0
walk_of Spent = blank 0 0

-- what the keeper's seat knows; of another seat a blank
abbrev pub watch_of : View → Watch
watch_of (Walking p) = first_watch 0 0 1
watch_of (Keeping w) = w
watch_of Spent = first_watch 0 0 1

-- what a pass has beside its seat is what the seat knows
pub record PassFits (m : Me (Unit {0}) View) (e : EntryRows) : Type 0 where
  pub seat : m ≡ (Walking (walk_of m.0), [])
  pub entries : AreEntriesOf e (walk_of m.0)

-- what the keeper has beside its seat is what the seat knows, and it has an acknowledgement of the greatest stamp for
-- which all was clear from each processor
pub record KeeperFits (m : Me (Unit {0}) View) (r : KeeperRows) (clear : ℕ) : Type 0 where
  pub seat : m ≡ (Keeping (watch_of m.0), [])
  pub rows : AreRowsOf r (watch_of m.0)
  pub cleared : HasNoted (watch_of m.0) clear

-- the table is of this size
pub record DoorsFit (key : Size) (table : TableId) (f c : ℕ) : Type 0 where
  pub frames : key.frames ≡ f
  pub cpus : key.cpus ≡ c
  pub words : table.words ≡ 1 + f + c
  pub slots : table.slots ≡ 0

abbrev pub filled_if : Bool → ℕ → ℕ → Walk → Walk
filled_if true f word p = holding f (word / 2) (having_read (door_at f) word p)
filled_if false f word p = having_read (door_at f) word p

-- An even word at a door admits its half, and the entry is held. An odd one is only noted.
abbrev pub filled : ℕ → ℕ → Walk → Walk
filled f word p = filled_if (word % 2 == 0) f word p

-- the seat is a pass's, and this is what it knows now
abbrev pub NowWalks : Me (Unit {0}) View → Walk → Type 0
NowWalks m p = m ≡ (Walking p, [])

-- the seat is the keeper's, and this is what it knows now
abbrev pub NowKeeps : Me (Unit {0}) View → Watch → Type 0
NowKeeps m w = m ≡ (Keeping w, [])

-- of a step: which, the seat before, the word found or stored, the seat after
abbrev pub Told : Type 1
Told = Step (Unit {0}) → Me (Unit {0}) View → ℕ → Me (Unit {0}) View → Type 0

-- a door's word is at least 1
abbrev pub Fills : Told
Fills s old word new = (f : ℕ) → s.word ≡ door_at f → (1 ≤ word) × NowWalks new (filled f word (walk_of old.0))

abbrev pub Forgets : Told
Forgets s old word new = s.word ≡ 0 → NowWalks new (forgotten word (walk_of old.0))

abbrev pub Acknowledges : Told
Acknowledges s old word new = NowWalks new (acknowledged (walk_of old.0))

abbrev pub Closes : Told
Closes s old word new = (f : ℕ) → s.word ≡ door_at f → NowKeeps new (shut f (watch_of old.0))

abbrev pub Raises : Told
Raises s old word new = NowKeeps new (raised (watch_of old.0))

-- an acknowledgement never falls
abbrev pub Looks : Told
Looks s old word new = (cpu : ℕ) → s.word ≡ ack_at (length (watch_of old.0).doors) cpu
    → (slice_index (watch_of old.0).noted cpu ≤ word) × NowKeeps new (having_noted s.word cpu word (watch_of old.0))

-- the keeper has made one pass more
abbrev pub keeper_with_pass : View → View
keeper_with_pass v = Keeping (record (watch_of v) { made = (watch_of v).made + 1 })

-- the pass of the next processor
abbrev pub pass_of_keeper : View → View
pass_of_keeper v = Walking (blank (length (watch_of v).doors) (watch_of v).made)
