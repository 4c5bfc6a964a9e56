-- What the lines of a schedule ask for, or which of them is refused and why (own).
use Rattle.std.specs.Prelude.{◌≡◌, ◌<◌, ◌≤◌, ℕ, ◌+◌, ◌*◌, Bool, ◌==◌, nat_le, nat_lt, if◌then◌else◌, List, [], ◌∷◌, ◌++◌, All, slice_index_or, Option, Some, None, Result, Ok, Err, codes}
use Rattle.std.specs.Str.{bytes_eq}
use Rattle.text_model.specs.Lines.{fields_of}
use Rattle.script.specs.Fields.{number_of}
use Rattle.schedule.specs.Fields.{◌>>=◌, next_field, no_fields}
use Rattle.schedule.specs.declared.orders.Line.{Line}
use Rattle.schedule.specs.declared.orders.Order.{Order}
use Rattle.schedule.specs.declared.orders.Order.TheVariants as order
use Rattle.schedule.specs.declared.reader.ScheduleFault.{ScheduleFault}
use Rattle.schedule.specs.declared.reader.ScheduleFault.TheVariants as fault
use Rattle.schedule.specs.declared.reading.OrderFault.{OrderFault}
use Rattle.schedule.specs.declared.reading.OrderFault.TheVariants as order_fault
use Rattle.schedule.specs.declared.refusals.Cause.{Cause}
use Rattle.schedule.specs.declared.refusals.Cause.TheVariants as cause
use Rattle.schedule.specs.declared.refusals.Refused.{Refused}

-- a processor of so many, counted from 0
abbrev pub processor_by : ℕ → Option ℕ → Result ℕ Cause
processor_by processors None = Err cause.Number
processor_by processors (Some c) = if nat_lt c processors then Ok c else Err cause.Processor

unfoldable pub processor_in : ℕ → List ℕ → Result ℕ Cause
processor_in processors field = processor_by processors (number_of field)

-- a number of times: from 1 to 1,000,000, without zeros before it
abbrev pub times_by : Option ℕ → Result ℕ Cause
times_by None = Err cause.Number
times_by (Some n) = if nat_le n 1000000 then Ok n else Err cause.Number

unfoldable pub times_in : List ℕ → Result ℕ Cause
times_in field = if slice_index_or field 0 0 == 48 then Err cause.Number else times_by (number_of field)

-- the same as the last field; 1, where there is none
unfoldable pub times_last : List (List ℕ) → Result ℕ Cause
times_last [] = Ok 1
times_last (n ∷ fields) = do
  _ ← no_fields fields
  times_in n

abbrev pub seed_by : Option ℕ → Result ℕ Cause
seed_by None = Err cause.Number
seed_by (Some n) = Ok n

abbrev pub seed_in : List ℕ → Result ℕ Cause
seed_in field = seed_by (number_of field)

-- `step C [N]`
unfoldable pub step_of : ℕ → List (List ℕ) → Result Order Cause
step_of processors fields = do
  f ← next_field fields
  c ← processor_in processors f.0
  n ← times_last f.1
  Ok (order.Step c n)

-- `until C TEXT`: the text has a field at least
abbrev pub until_text : ℕ → List (List ℕ) → Result Order Cause
until_text c [] = Err cause.Fields
until_text c (word ∷ words) = Ok (order.Until c (word ∷ words))

unfoldable pub until_of : ℕ → List (List ℕ) → Result Order Cause
until_of processors fields = do
  f ← next_field fields
  c ← processor_in processors f.0
  until_text c f.1

-- `round [N]`: at most 1,000,000 steps together
unfoldable pub round_of : ℕ → List (List ℕ) → Result Order Cause
round_of processors fields = do
  n ← times_last fields
  if nat_le (n * processors) 1000000 then Ok (order.Round n) else Err cause.Many

-- `draw SEED N`
unfoldable pub draw_of : List (List ℕ) → Result Order Cause
draw_of fields = do
  f ← next_field fields
  seed ← seed_in f.0
  g ← next_field f.1
  n ← times_in g.0
  _ ← no_fields g.1
  Ok (order.Draw seed n)

-- what a line asks for, by its first field and those after it
unfoldable pub order_of : ℕ → List ℕ → List (List ℕ) → Result Order Cause
order_of processors word fields =
    if bytes_eq word (codes "step") then step_of processors fields
    else if bytes_eq word (codes "until") then until_of processors fields
    else if bytes_eq word (codes "round") then round_of processors fields
    else if bytes_eq word (codes "draw") then draw_of fields
    else Err cause.Order

-- a first field that begins with `#`
abbrev pub is_comment : List ℕ → Bool
is_comment word = slice_index_or word 0 0 == 35

abbrev pub some_order : Result Order Cause → Result (Option Order) Cause
some_order (Ok o) = Ok (Some o)
some_order (Err why) = Err why

-- what a line asks for; None where it has no field, or is a comment
unfoldable pub line_order : ℕ → List (List ℕ) → Result (Option Order) Cause
line_order processors [] = Ok None
line_order processors (word ∷ fields) =
    if is_comment word then Ok None else some_order (order_of processors word fields)

-- what line n asks for, if it does
abbrev pub as_lines : ℕ → Option Order → List Line
as_lines n None = []
as_lines n (Some o) = (record { number = n; order = o }) ∷ []

-- some lines, before those after them
abbrev pub onto : List Line → Result (List Line) Refused → Result (List Line) Refused
onto before (Ok lines) = Ok (before ++ lines)
onto before (Err r) = Err r

-- line n, before those after it
abbrev pub after_line : ℕ → Result (Option Order) Cause → Result (List Line) Refused → Result (List Line) Refused
after_line n (Err why) rest = Err (record { line = n; cause = why })
after_line n (Ok o) rest = onto (as_lines n o) rest

-- what the lines from number n on ask for, in order; or the first of them that is refused
unfoldable pub orders_from : ℕ → ℕ → List (List ℕ) → Result (List Line) Refused
orders_from processors n [] = Ok []
orders_from processors n (line ∷ lines) =
    after_line n (line_order processors (fields_of line)) (orders_from processors (n + 1) lines)

-- the same of the lines of a schedule, where there is one
abbrev pub orders_in : ℕ → Bool → ℕ → List (List ℕ) → Result (List Line) Refused
orders_in processors found first lines =
    if found then orders_from processors first lines else Err (record { line = first; cause = cause.Order })

-- ---- what the functions give

-- an order has a processor of so many, and asks for at most 1,000,000 steps
abbrev pub IsWithin : ℕ → Order → Type 0
IsWithin processors (order.Step c n) = (c < processors) × (n ≤ 1000000)
IsWithin processors (order.Until c text) = c < processors
IsWithin processors (order.Round n) = n * processors ≤ 1000000
IsWithin processors (order.Draw seed n) = n ≤ 1000000

abbrev pub AreWithin : ℕ → List Line → Type 0
AreWithin processors lines = All (λ line. IsWithin processors line.order) lines

-- what was read is what the fields say, unless memory ran out
abbrev pub Reads : {A : Type 0} → Result A OrderFault → Result A Cause → Type 0
Reads (Ok x) read = read ≡ Ok x
Reads (Err (order_fault.Refused why)) read = read ≡ Err why
Reads (Err order_fault.Memory) read = Unit {0}

-- what the fault of line n comes to
abbrev pub of_line : ℕ → OrderFault → ScheduleFault
of_line n (order_fault.Refused why) = fault.Schedule (record { line = n; cause = why })
of_line n order_fault.Memory = fault.Memory
