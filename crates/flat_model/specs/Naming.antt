-- Segments are made known by numbers (Bensoussan, Clingen and Daley 1972; the 256 numbers are own), and what a path
-- leads to is told.
use Rattle.std.specs.Prelude.{ℕ, ◌==◌, if◌then◌else◌, is_some, count_by, List, Option, Some, None, Result, Ok, Err}
use Rattle.book.specs.declared.replies.Reply.{Reply}
use Rattle.book.specs.declared.replies.Reply.TheVariants as reply
use Rattle.known_segs.specs.Known.{number_for, with_number, without_number}
use Rattle.tree_model.specs.Tree.{Node, used_by}
use Rattle.flat_model.specs.Branches.{node_at, segment_at}
use Rattle.flat_model.specs.Store.{Store, numbers_of, with_numbers, known_uid}

abbrev pub known_or_full : Option ℕ → Reply
known_or_full None = reply.Full
known_or_full (Some number) = reply.Known number

-- full where the process doesn't know the segment, and knows 256 others
abbrev pub initiate_of : List (Option ℕ) → Result Node Reply → Reply
initiate_of numbers (Ok n) = known_or_full (number_for numbers n.uid)
initiate_of numbers (Err r) = r

unfoldable pub initiate_reply : Store → ℕ → List (List ℕ) → Reply
initiate_reply s k path = initiate_of (numbers_of s k) (segment_at s.nodes path)

-- the number that the process has for it, else the least that is free, stands for the segment
abbrev pub initiated : Store → ℕ → Result Node Reply → Store
initiated s k (Ok n) = with_numbers s k (with_number (numbers_of s k) n.uid (number_for (numbers_of s k) n.uid))
initiated s k (Err r) = s

unfoldable pub after_initiate : Store → ℕ → List (List ℕ) → Store
after_initiate s k path = initiated s k (segment_at s.nodes path)

unfoldable pub terminate_reply : Store → ℕ → ℕ → Reply
terminate_reply s k number = if is_some (known_uid s k number) then reply.Done else reply.Unknown

unfoldable pub after_terminate : Store → ℕ → ℕ → Store
after_terminate s k number = with_numbers s k (without_number (numbers_of s k) number)

-- Of a directory its quota, and how many stored pages it is charged for, 0 where it is no account; of a segment its
-- length, and how many of its pages are stored.
abbrev pub status_of : Store → Result Node Reply → Reply
status_of s (Ok n) =
    if n.directory then reply.DirIs n.uid n.quota (used_by s.nodes s.stored n.uid)
    else reply.SegIs n.uid n.pages (count_by (λ x. x.0 == n.uid) s.stored)
status_of s (Err r) = r

unfoldable pub status_reply : Store → List (List ℕ) → Reply
status_reply s path = status_of s (node_at s.nodes path)
