-- What a tree command is about that must have something out of use first, or something brought.
use Rattle.std.specs.Prelude.{◌≡◌, ℕ, List, Option, Some, None, Result, Ok, Err}
use Rattle.script.specs.declared.commands.Command.{Command}
use Rattle.script.specs.declared.commands.Command.TheVariants as command
use Rattle.book.specs.declared.replies.Reply.{Reply}
use Rattle.tree_model.specs.Tree.{Node}
use Rattle.flat_model.specs.Branches.{node_at}

-- a path leads to the node of this uid
pub record Leads (nodes : List Node) (path : List (List ℕ)) (uid : ℕ) : Type 0 where
  pub node : Node
  pub found : node_at nodes path ≡ Ok node
  pub uid_is : node.uid ≡ uid

-- an `acl`, a `delete`, a `length` and a `truncate` are about the node that their path leads to
abbrev pub IsAbout : List Node → Command → ℕ → Type 0
IsAbout nodes (command.Acl path row m) uid = Leads nodes path uid
IsAbout nodes (command.Delete path) uid = Leads nodes path uid
IsAbout nodes (command.Length path pages) uid = Leads nodes path uid
IsAbout nodes (command.Truncate path words) uid = Leads nodes path uid
IsAbout nodes _ uid = Unit {0}

-- what refuses a command, where something does
abbrev pub refused_with : Result ℕ Reply → Option Reply
refused_with (Ok uid) = None
refused_with (Err r) = Some r
