-- The flat store: the tree, the words, the stored pages, what numbers stand for, and how far each process has come. It
-- restates the view that a user has of segments (Bensoussan, Clingen and Daley 1972): words under a segment number and
-- an offset, and pages that cost nothing while they are zeros.
use Rattle.std.specs.Prelude.{ℕ, Bool, true, false, not, ◌||◌, ◌==◌, replicate, slice_get, slice_index_or, slice_set, List, [], ◌∷◌, length, Option, Some, None, codes}
use Rattle.script.specs.Plans.{Plan}
use Rattle.script.specs.declared.plan.VolumeLine.{VolumeLine}
use Rattle.known_segs.specs.Known.{uid_of}
use Rattle.tree_model.specs.Tree.{Node}
use Rattle.flat_model.specs.Pages.{Words}

-- The place of a process's next command; how often it has tried it, where it is an `await`; whether the process has
-- ended; whether a drive's failure was told of it since its last answer.
pub record Progress : Type 0 where
  pub place : ℕ
  pub tries : ℕ
  pub ended : Bool
  pub faulted : Bool

-- The nodes, the newest first, and the next uid; the words; the stored pages; for each process, in order, the uid that
-- each of its 256 segment numbers stands for, and how far it has come.
pub record Store : Type 0 where
  pub nodes : List Node
  pub next : ℕ
  pub words : Words
  pub stored : List (ℕ × ℕ)
  pub known : List (List (Option ℕ))
  pub processes : List Progress

-- the records and the VTOC entries of a volume of the script, 0 where it isn't there
abbrev pub records_in : Option VolumeLine → ℕ
records_in None = 0
records_in (Some v) = v.records

abbrev pub records_of : Plan → ℕ → ℕ
records_of p volume = records_in (slice_get p.volumes volume)

abbrev pub entries_in : Option VolumeLine → ℕ
entries_in None = 0
entries_in (Some v) = v.entries

abbrev pub entries_of : Plan → ℕ → ℕ
entries_of p volume = entries_in (slice_get p.volumes volume)

-- the root, on the first volume, with the script's quota and no row of access
abbrev pub root_of : Plan → Node
root_of p = record {
  uid = 1;
  superior = None;
  name = codes "root";
  directory = true;
  volume = 0;
  pages = 0;
  quota =
      p.quota;
  rows = [];
}

-- a process before its first command
abbrev pub at_first : Progress
at_first = record { place = 0; tries = 0; ended = false; faulted = false }

-- at first there is the root alone, no word is written, and nothing is known
unfoldable pub boot : Plan → Store
boot p = record {
  nodes = root_of p ∷ [];
  next = 2;
  words = λ uid offset. 0;
  stored = [];
  known = replicate (length p.processes) (replicate 256 None);
  processes = replicate (length p.processes) at_first;
}

-- a process that isn't there has ended
abbrev pub progress_of : Store → ℕ → Progress
progress_of s k = slice_index_or s.processes k (record { place = 0; tries = 0; ended = true; faulted = false })

abbrev pub with_progress : Store → ℕ → Progress → Store
with_progress s k q = record s { processes = slice_set s.processes k q }

-- what the segment numbers of a process stand for
abbrev pub numbers_of : Store → ℕ → List (Option ℕ)
numbers_of s k = slice_index_or s.known k []

abbrev pub with_numbers : Store → ℕ → List (Option ℕ) → Store
with_numbers s k numbers = record s { known = slice_set s.known k numbers }

-- the uid that a number of a process stands for
abbrev pub known_uid : Store → ℕ → ℕ → Option ℕ
known_uid s k number = uid_of (numbers_of s k) number

-- whether it is a process's turn: where the first process is the initializer, no other runs before it has ended
abbrev pub is_turn : Plan → Store → ℕ → Bool
is_turn p s k = not p.initializer || (k == 0 || (progress_of s 0).ended)
