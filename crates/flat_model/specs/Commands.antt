-- What each command of a process is answered, and the store after it.
use Rattle.std.specs.Prelude.{ℕ, ◌+◌, Bool, true, false, not, ◌&&◌, ◌==◌, nat_lt, if◌then◌else◌, [], ◌∷◌, Option, Some, None}
use Rattle.script.specs.Plans.{Plan, who_of}
use Rattle.script.specs.References.{reference_of}
use Rattle.script.specs.declared.commands.Command.{Command}
use Rattle.script.specs.declared.commands.Command.TheVariants as command
use Rattle.script.specs.declared.commands.Reference.{Reference}
use Rattle.book.specs.declared.replies.Reply.{Reply}
use Rattle.book.specs.declared.replies.Reply.TheVariants as reply
use Rattle.flat_model.specs.Store.{Store, Progress, progress_of, with_progress}
use Rattle.flat_model.specs.References.{reply_to_reference, after_reference}
use Rattle.flat_model.specs.Making.{make_reply, after_make, owner_row, delete_reply, after_delete}
use Rattle.flat_model.specs.Naming.{initiate_reply, after_initiate, terminate_reply, after_terminate, status_reply}
use Rattle.flat_model.specs.Rights.{acl_reply, after_acl, move_reply, after_move}
use Rattle.flat_model.specs.Sizes.{length_reply, after_length, truncate_reply, after_truncate}

-- of a tree command: one that is no reference
abbrev pub reply_to_tree_command : Plan → Store → ℕ → Command → Reply
reply_to_tree_command p s k (command.MkDir path volume) = make_reply p s path volume true
reply_to_tree_command p s k (command.MkSeg path pages volume) = make_reply p s path volume false
reply_to_tree_command p s k (command.Initiate path) = initiate_reply s k path
reply_to_tree_command p s k (command.Terminate number) = terminate_reply s k number
reply_to_tree_command p s k (command.Acl path row m) = acl_reply s path row
reply_to_tree_command p s k (command.Length path pages) = length_reply s path pages
reply_to_tree_command p s k (command.Truncate path words) = truncate_reply s path
reply_to_tree_command p s k (command.Delete path) = delete_reply s path
reply_to_tree_command p s k (command.Move path amount) = move_reply s path amount
reply_to_tree_command p s k (command.Status path) = status_reply s path
reply_to_tree_command p s k _ = reply.Done

abbrev pub reply_by : Plan → Store → ℕ → Command → Option Reference → Reply
reply_by p s k c (Some r) = reply_to_reference p s k r
reply_by p s k c None = reply_to_tree_command p s k c

-- what a process is answered to a command; `end` is done
abbrev pub reply_to_command : Plan → Store → ℕ → Command → Reply
reply_to_command p s k c = reply_by p s k c (reference_of c)

abbrev pub effect_of_tree_command : Plan → Store → ℕ → Command → Store
effect_of_tree_command p s k (command.MkDir path volume) = after_make s path volume true 0 []
effect_of_tree_command p s k (command.MkSeg path pages volume) =
    after_make s path volume false pages (owner_row (who_of p k) ∷ [])
effect_of_tree_command p s k (command.Initiate path) = after_initiate s k path
effect_of_tree_command p s k (command.Terminate number) = after_terminate s k number
effect_of_tree_command p s k (command.Acl path row m) = after_acl s path row m
effect_of_tree_command p s k (command.Length path pages) = after_length s path pages
effect_of_tree_command p s k (command.Truncate path words) = after_truncate s path words
effect_of_tree_command p s k (command.Delete path) = after_delete s path
effect_of_tree_command p s k (command.Move path amount) = after_move s path amount
effect_of_tree_command p s k _ = s

abbrev pub effect_by : Plan → Store → ℕ → Command → Option Reference → Store
effect_by p s k c (Some r) = after_reference s k r
effect_by p s k c None = effect_of_tree_command p s k c

-- the tree, the words, the stored pages and the numbers once a command took effect
abbrev pub effect_of : Plan → Store → ℕ → Command → Store
effect_of p s k c = effect_by p s k c (reference_of c)

-- a refused command changes none of them
abbrev pub takes_effect : Reply → Bool
takes_effect (reply.Word w) = true
takes_effect reply.Done = true
takes_effect (reply.Made uid) = true
takes_effect (reply.Known number) = true
takes_effect _ = false

-- a try of an `await` doesn't end it: its word isn't the awaited one, and it isn't the last try
abbrev pub tries_on : Progress → Command → Reply → Bool
tries_on q (command.Await number offset word tries) (reply.Word w) = not (w == word) && nat_lt (q.tries + 1) tries
tries_on q c r = false

abbrev pub is_end : Command → Bool
is_end command.End = true
is_end c = false

-- how far a process has come once a command was answered
abbrev pub gone_on : Progress → Command → Reply → Progress
gone_on q c r =
    if tries_on q c r then record q { tries = q.tries + 1; faulted = false }
    else record { place = q.place + 1; tries = 0; ended = is_end c; faulted = false }

unfoldable pub after_command : Plan → Store → ℕ → Command → Reply → Store
after_command p s k c r = with_progress (if takes_effect r then effect_of p s k c else s) k
    (gone_on (progress_of s k) c r)
