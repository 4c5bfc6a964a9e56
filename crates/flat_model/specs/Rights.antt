-- Access and quota are changed (Organick 1972).
use Rattle.std.specs.Prelude.{ℕ, ℤ, nat_lt, if◌then◌else◌, List, Option, Some, None, Result, Ok, Err}
use Rattle.std.specs.Int.{is_positive}
use Rattle.std.specs.Int.RustNames.{unsigned_abs}
use Rattle.mnames.specs.declared.modes.Mode.{Mode}
use Rattle.mnames.specs.declared.rows.Row.{Row as Named}
use Rattle.book.specs.declared.replies.Reply.{Reply}
use Rattle.book.specs.declared.replies.Reply.TheVariants as reply
use Rattle.tree_model.specs.Access.{Row, with_row, takes_row}
use Rattle.tree_model.specs.Quotas.{giver_of, tree_moved, over_in}
use Rattle.tree_model.specs.Tree.{Node, above, quota_in}
use Rattle.flat_model.specs.Branches.{segment_at, directory_at, changed}
use Rattle.flat_model.specs.Store.{Store}

-- aclfull where the row isn't in the list and 16 rows are
abbrev pub acl_of : Named → Result Node Reply → Reply
acl_of row (Ok n) = if takes_row row.person row.project n.rows then reply.Done else reply.AclFull
acl_of row (Err r) = r

unfoldable pub acl_reply : Store → List (List ℕ) → Named → Reply
acl_reply s path row = acl_of row (segment_at s.nodes path)

-- what the row says and allows
abbrev pub row_with : Named → Mode → Row
row_with row m = record { person = row.person; project = row.project; mode = m }

unfoldable pub after_acl : Store → List (List ℕ) → Named → Mode → Store
after_acl s path row m = changed s (λ n. record n { rows = with_row (row_with row m) n.rows }) (segment_at s.nodes path)

-- the nodes once an amount of quota has moved: down to the directory where it is positive, up from it where it is
-- negative
abbrev pub nodes_moved : List Node → ℕ → ℤ → List Node
nodes_moved nodes d amount = tree_moved nodes d (is_positive amount) (unsigned_abs amount)

abbrev pub done_or_over : Option ℕ → Reply
done_or_over None = reply.Done
done_or_over (Some u) = reply.Over u

-- toolittle where the giver has less quota than the amount; over, with the account of the least uid that would be
-- charged for more pages than its quota then
abbrev pub move_of : Store → ℤ → Result Node Reply → Reply
move_of s amount (Ok n) =
    if nat_lt (quota_in s.nodes (giver_of (above s.nodes) n.uid (is_positive amount))) (unsigned_abs amount)
    then reply.TooLittle
    else done_or_over (over_in (nodes_moved s.nodes n.uid amount) s.stored)
move_of s amount (Err r) = r

unfoldable pub move_reply : Store → List (List ℕ) → ℤ → Reply
move_reply s path amount = move_of s amount (directory_at s.nodes path)

abbrev pub moved : Store → ℤ → Result Node Reply → Store
moved s amount (Ok n) = record s { nodes = nodes_moved s.nodes n.uid amount }
moved s amount (Err r) = s

unfoldable pub after_move : Store → List (List ℕ) → ℤ → Store
after_move s path amount = moved s amount (directory_at s.nodes path)
