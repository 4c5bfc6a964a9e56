-- What a truncation leaves of the page that is cut.
use Rattle.std.specs.Prelude.{◌≡◌, ℕ, Option, Some, None, Result, Ok, Err, map, List}
use Rattle.script.specs.Plans.{Plan}
use Rattle.book.specs.declared.replies.Reply.{Reply}
use Rattle.script.specs.declared.commands.Command.{Command}
use Rattle.tree_model.specs.Tree.{Node}
use Rattle.flat_model.specs.Store.{Store}
use Rattle.page_table.specs.declared.Ptw.{Ptw}
use Rattle.page_table.specs.declared.Ptw.TheVariants.{Here, Leaving, Null, Out}
use Rattle.active_segs.specs.Active.{ActiveSegs}
use Rattle.seg_control.specs.Effects.{worded}
use Rattle.storage_ops.specs.Shown.{Storage as Stored}
use Rattle.machine_model.specs.Commits.{frame_entry}
use Rattle.machine_model.specs.Keeps.{IsFaithful}
use Rattle.machine_tables.specs.Committed.{HasEffect, IsCommitted}
use Rattle.machine_tables.specs.Gone.{left_entry}
use Rattle.machine_tables.specs.Parts.{shown}

-- the segment of what a path leads to, if that is a segment
abbrev pub uid_found : Result Node Reply → Option ℕ
uid_found (Ok n) = Some n.uid
uid_found (Err r) = None

-- references go again through the word of a page that was on its way out
abbrev pub here_again : ActiveSegs → ℕ → ℕ → Ptw → ActiveSegs
here_again ast uid p Null = ast
here_again ast uid p (Out r) = ast
here_again ast uid p (Here f) = ast
here_again ast uid p (Leaving f) = worded ast uid p (Here f)

-- A tree command is committed, and the frame that is told is the one of those taken whose page stays.
pub record IsCommittedBut {D : Type 0} (drive : D → List (List ℕ)) (old new : Stored D) (k : ℕ) (frames : List ℕ)
    (c : Command) (r : Reply) (kept : Option ℕ) : Type 0 where
  pub committed : IsCommitted drive old new k frames c r
  pub left : (p : Plan) (t : Store) → IsFaithful p t (shown drive old) → HasEffect c r
      → map (left_entry kept) frames ≡ map (frame_entry (shown drive old) c) frames
