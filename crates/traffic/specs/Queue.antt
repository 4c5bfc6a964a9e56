-- What a contract sees of the ready list.
use Rattle.std.specs.Prelude.{ℕ, List, ◌++◌, ◌∷◌, [], drop}

-- the processes that are ready to run, the one that runs next first, and how many the list has room for
-- (Corbató 1968, the single queue of runnable processes; the fixed room is own)
pub record Queue : Type 0 where
  pub waiting : List ℕ
  pub room : ℕ

-- the list with nobody in it
abbrev pub empty_queue : ℕ → Queue
empty_queue n = record { waiting = []; room = n }

-- process k has come to the end of the list
abbrev pub with_last : Queue → ℕ → Queue
with_last q k = record q { waiting = q.waiting ++ k ∷ [] }

-- the process at the front has been taken, if there is one
abbrev pub without_front : Queue → Queue
without_front q = record q { waiting = drop 1 q.waiting }
