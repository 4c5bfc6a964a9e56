-- What the lines of a schedule mean: which processors make steps, and in which order (own).
use Rattle.std.specs.Prelude.{◌≡◌, ◌⊎◌, ◌≤◌, ◌<◌, ◌+◌, ◌++◌, ℕ, zero, suc, Bool, true, false, List, [], ◌∷◌, drop, length, map, replicate}
use Rattle.std.specs.List.{list_any}
use Rattle.book.specs.Entries.{entry_text}
use Rattle.book.specs.declared.entries.Entry.{Entry}
use Rattle.draws.specs.Draws.{drawn, next_state}
use Rattle.machine.specs.declared.turn.Turn.{Turn}
use Rattle.machine.specs.declared.turn.Turn.TheVariants as turn
use Rattle.runner.specs.Runs.{Machine}
use Rattle.schedule.specs.Fields.{begins}
use Rattle.schedule.specs.declared.orders.Line.{Line}
use Rattle.schedule.specs.declared.orders.Order.{Order}
use Rattle.schedule.specs.declared.orders.Order.TheVariants as order
use Rattle.schedule.specs.declared.refusals.Cause.{Cause}
use Rattle.schedule.specs.declared.refusals.Cause.TheVariants as cause
use Rattle.schedule.specs.declared.refusals.Refused.{Refused}
use Rattle.text_model.specs.Lines.{fields_of}
use Rattle.lab_runs.specs.Steps.{AreMade, IsMade, processor_of}
use Rattle.lab_runs.specs.declared.following.Astray.{Astray}
use Rattle.lab_runs.specs.declared.following.Astray.TheVariants as astray
use Rattle.lab_runs.specs.declared.following.Trial.{Trial}
use Rattle.lab_runs.specs.declared.following.Trial.TheVariants as trial
use Rattle.lab_runs.specs.declared.steps.Step.{Step}

-- the numbers below p, in order
abbrev pub numbers : ℕ → List ℕ
numbers zero = []
numbers (suc p) = numbers p ++ p ∷ []

-- each of p processors in order, and so n times
abbrev pub rounds : ℕ → ℕ → List ℕ
rounds p zero = []
rounds p (suc n) = rounds p n ++ numbers p

-- the state of the generator of a seed after n draws
abbrev pub state_after : ℕ → ℕ → ℕ
state_after seed zero = seed
state_after seed (suc n) = next_state (state_after seed n)

-- n of p processors, drawn from a seed
abbrev pub drawn_cpus : ℕ → ℕ → ℕ → List ℕ
drawn_cpus p seed zero = []
drawn_cpus p seed (suc n) = drawn_cpus p seed n ++ drawn p (state_after seed (suc n)) ∷ []

-- whether the text of an entry begins so, field by field
abbrev pub entry_begins : List (List ℕ) → Entry → Bool
entry_begins text e = begins text (fields_of (entry_text e))

-- whether one of the entries that were appended begins so
abbrev pub appends : List (List ℕ) → Machine → Machine → Bool
appends text old new = list_any (entry_begins text) (drop (length old.state.entries) new.state.entries)

-- Processor c made steps, 1,000,000 at the most. One of the entries that the last of them appended begins so, and none
-- of those that the earlier ones appended.
pub record Reaches (c : ℕ) (text : List (List ℕ)) (old new : Machine) (steps : List Step) : Type 0 where
  pub before : List Step
  pub last : Step
  pub steps_are : steps ≡ before ++ last ∷ []
  pub few : length steps ≤ 1000000
  pub mid : Machine
  pub early : AreMade old mid before
  pub late : AreMade mid new (last ∷ [])
  pub none : appends text old mid ≡ false
  pub some : appends text mid new ≡ true

-- the processors that make the steps of an order of p processors, in order
abbrev pub AreMeant : ℕ → Order → Machine → Machine → List Step → Type 0
AreMeant p (order.Step c n) old new steps = map processor_of steps ≡ replicate n c
AreMeant p (order.Until c text) old new steps =
    (map processor_of steps ≡ replicate (length steps) c) × Reaches c text old new steps
AreMeant p (order.Round n) old new steps = map processor_of steps ≡ rounds p n
AreMeant p (order.Draw seed n) old new steps = map processor_of steps ≡ drawn_cpus p seed n

-- An order was followed: these steps were made, and it means them.
pub record IsFollowed (p : ℕ) (o : Order) (old new : Machine) (steps : List Step) : Type 0 where
  pub made : AreMade old new steps
  pub meant : AreMeant p o old new steps

-- the lines of a schedule were followed, one after the other, and these steps were made
abbrev pub AreFollowed : ℕ → List Line → Machine → Machine → List Step → Type 0
AreFollowed p [] old new steps = (new ≡ old) × (steps ≡ [])
AreFollowed p (line ∷ lines) old new steps = (mid : Machine) × (here : List Step) × (rest : List Step)
    × (steps ≡ here ++ rest) × IsFollowed p line.order old mid here × AreFollowed p lines mid new rest

-- ---- what the functions give

-- Processor c made steps, which were added to those that were made before.
pub record Adds (c : ℕ) (old new : Machine) (before after : List Step) : Type 0 where
  pub steps : List Step
  pub made : AreMade old new steps
  pub added : after ≡ before ++ steps
  pub cpus_are : map processor_of steps ≡ replicate (length steps) c

-- the last of some steps found all processes ended
abbrev pub EndsIn : List Step → Type 0
EndsIn steps = (before : List Step) × (last : Step) × (steps ≡ before ++ last ∷ []) × (last.answer ≡ turn.Ended)

-- Steps appended no entry that begins so; they were 1,000,000, or the last of them found all processes ended.
pub record Misses (text : List (List ℕ)) (old new : Machine) (steps : List Step) : Type 0 where
  pub none : appends text old new ≡ false
  pub why : (length steps ≡ 1000000) ⊎ EndsIn steps

-- whether a step found all processes ended
abbrev pub is_end : Turn → Bool
is_end turn.Ended = true
is_end _ = false

-- what came of a step, by whether an entry that it appended begins so, and what it was answered
abbrev pub CameTo : Trial → Bool → Turn → Type 0
CameTo trial.Seen seen answer = seen ≡ true
CameTo trial.Ended seen answer = (seen ≡ false) × (answer ≡ turn.Ended)
CameTo trial.Missed seen answer = (seen ≡ false) × (is_end answer ≡ false)

-- Processor c made a step, which was added to those that were made before, and this came of it.
pub record TriesOne (c : ℕ) (text : List (List ℕ)) (old new : Machine) (before after : List Step) (t : Trial) : Type 0
  where
    pub step : Step
    pub made : IsMade old new step
    pub its : step.processor ≡ c
    pub pushed : after ≡ before ++ step ∷ []
    pub came : CameTo t (appends text old new) step.answer

-- a processor made steps until an entry began so, or none did
abbrev pub Tries : Bool → ℕ → List (List ℕ) → Machine → Machine → List Step → List Step → Type 0
Tries true c text old new before after = (a : Adds c old new before after) × Reaches c text old new a.steps
Tries false c text old new before after = (a : Adds c old new before after) × Misses text old new a.steps

-- an order was followed, and its steps were added to those that were made before
pub record FollowsOrder (p : ℕ) (o : Order) (old new : Machine) (before after : List Step) : Type 0 where
  pub steps : List Step
  pub followed : IsFollowed p o old new steps
  pub added : after ≡ before ++ steps

-- the processors that make the steps of an order, where they don't depend on the machine
abbrev pub cpus_of : ℕ → Order → List ℕ
cpus_of p (order.Step c n) = replicate n c
cpus_of p (order.Round n) = rounds p n
cpus_of p (order.Draw seed n) = drawn_cpus p seed n
cpus_of p (order.Until c text) = []

-- Processor c made steps, and no entry that they appended begins so; or one did, but all steps are more than
-- 10,000,000.
abbrev pub IsUnreached : ℕ → List (List ℕ) → Machine → ℕ → Cause → Type 0
IsUnreached c text old made why = (new : Machine) × (steps : List Step) × AreMade old new steps
    × (((why ≡ cause.Unreached) × Misses text old new steps)
    ⊎ ((why ≡ cause.Many) × Reaches c text old new steps × (10000000 < made + length steps)))

-- an order can't be followed after so many steps, for this cause
abbrev pub IsAstray : ℕ → Order → Machine → ℕ → Cause → Type 0
IsAstray p (order.Until c text) old made why = IsUnreached c text old made why
IsAstray p o old made why = (why ≡ cause.Many) × (10000000 < made + length (cpus_of p o))

-- a line of this number is refused for a cause of which this holds, or there was no memory
abbrev pub Strays : ℕ → (Cause → Type 0) → Astray → Type 0
Strays number P (astray.Refused r) = (r.line ≡ number) × P r.cause
Strays number P astray.Memory = Unit {0}

-- The lines before one were followed; that one can't be.
pub record StraysAt (p : ℕ) (lines : List Line) (old : Machine) (r : Refused) : Type 0 where
  pub before : List Line
  pub line : Line
  pub after : List Line
  pub lines_are : lines ≡ before ++ line ∷ after
  pub mid : Machine
  pub steps : List Step
  pub followed : AreFollowed p before old mid steps
  pub number : r.line ≡ line.number
  pub why : IsAstray p line.order mid (length steps) r.cause

abbrev pub StraysIn : ℕ → List Line → Machine → Astray → Type 0
StraysIn p lines old (astray.Refused r) = StraysAt p lines old r
StraysIn p lines old astray.Memory = Unit {0}
