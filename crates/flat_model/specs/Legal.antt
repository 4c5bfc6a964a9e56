-- Which books are lawful, complete and settled, and the flat store that results from one.
use Rattle.std.specs.Prelude.{◌≡◌, ◌<◌, ℕ, Bool, true, false, not, ◌&&◌, ◌||◌, ◌==◌, nat_lt, if◌then◌else◌, is_some, fold, sum, map, List, [], ◌∷◌, length, Option, Some, None, ◌⊎◌}
use Rattle.std.specs.List.{filter, list_all}
use Rattle.script.specs.Plans.{Plan, command_at}
use Rattle.script.specs.References.{reference_of}
use Rattle.script.specs.declared.commands.Command.{Command}
use Rattle.script.specs.declared.commands.Command.TheVariants as command
use Rattle.book.specs.declared.entries.Entry.{Entry}
use Rattle.book.specs.declared.entries.Entry.TheVariants as entry
use Rattle.book.specs.declared.replies.Reply.{Reply}
use Rattle.book.specs.declared.replies.Reply.TheVariants as reply
use Rattle.tree_model.specs.Tree.{Node, is_account, used_by}
use Rattle.flat_model.specs.Pages.{is_stored, is_zero_page, without_stored}
use Rattle.flat_model.specs.Store.{Store, Progress, boot, progress_of, with_progress, is_turn}
use Rattle.flat_model.specs.Commands.{reply_to_command, after_command}
use Rattle.flat_model.specs.Moves.{MayMove, is_held_back, moved}

-- the refusals that come before any page is looked for
abbrev pub is_early : Reply → Bool
is_early reply.Unknown = true
is_early reply.Gone = true
is_early reply.Length = true
is_early _ = false

abbrev pub is_done : Reply → Bool
is_done reply.Done = true
is_done _ = false

-- the tree commands that may need a page of the segment moved
abbrev pub moves_pages : Command → Bool
moves_pages (command.Length path pages) = true
moves_pages (command.Truncate path words) = true
moves_pages _ = false

-- whether a drive's failure may be told in place of a reply: of a reference's, but where no page was looked for; of a
-- `length` or a `truncate` that is done
abbrev pub may_fail : Command → Reply → Bool
may_fail c due = if is_some (reference_of c) then not (is_early due) else moves_pages c && is_done due

-- the flat store's reply, where it isn't held back until a segment has moved
pub record MayAnswerDue (held : Bool) (due given : Reply) : Type 0 where
  pub own : given ≡ due
  pub free : held ≡ false

-- a drive's failure was told of the process since its last answer, and may be told in place of this reply
pub record MayAnswerDevice (faulted : Bool) (c : Command) (due given : Reply) : Type 0 where
  pub device : given ≡ reply.Device
  pub may : may_fail c due ≡ true
  pub fault : faulted ≡ true

-- the answer of a command that is there: the flat store's, or a drive's failure
abbrev pub IsAnswer : Plan → Store → ℕ → Option Command → Reply → Type 0
IsAnswer p s k None r = ⊥
IsAnswer p s k (Some c) r = MayAnswerDue (is_held_back p s k c) (reply_to_command p s k c) r
    ⊎ MayAnswerDevice (progress_of s k).faulted c (reply_to_command p s k c) r

-- a command may be answered so: it is its process's turn, the process hasn't ended, and it is the process's next
-- command
pub record IsLawfulDo (p : Plan) (s : Store) (k place : ℕ) (r : Reply) : Type 0 where
  pub turn : is_turn p s k ≡ true
  pub going : (progress_of s k).ended ≡ false
  pub next : (progress_of s k).place ≡ place
  pub answer : IsAnswer p s k (command_at p k place) r

-- a page may be given up: it is stored, and all zeros
pub record MayRelease (s : Store) (uid page : ℕ) : Type 0 where
  pub there : is_stored s.stored uid page ≡ true
  pub zeros : is_zero_page s.words uid page ≡ true

abbrev pub have_ended : List Progress → Bool
have_ended processes = list_all (λ q. q.ended) processes

-- a drive's failure may be told of a process that hasn't ended, and of none where all have
abbrev pub MayFault : Store → Option ℕ → Type 0
MayFault s (Some k) = (progress_of s k).ended ≡ false
MayFault s None = have_ended s.processes ≡ true

-- an entry is lawful; those that tell who holds what leave the flat store alone
unfoldable pub IsLawful : Plan → Store → Entry → Type 0
IsLawful p s (entry.Do k place cpu frame r) = IsLawfulDo p s k place r
IsLawful p s (entry.Release uid page) = MayRelease s uid page
IsLawful p s (entry.Fault process) = MayFault s process
IsLawful p s (entry.Moved process uid volume) = MayMove p s process uid volume
IsLawful p s _ = Unit {0}

abbrev pub after_do : Plan → Store → ℕ → Option Command → Reply → Store
after_do p s k None r = s
after_do p s k (Some c) r = after_command p s k c r

abbrev pub after_fault : Store → Option ℕ → Store
after_fault s None = s
after_fault s (Some k) = with_progress s k (record (progress_of s k) { faulted = true })

-- the store after an entry
unfoldable pub after_entry : Plan → Store → Entry → Store
after_entry p s (entry.Do k place cpu frame r) = after_do p s k (command_at p k place) r
after_entry p s (entry.Release uid page) = record s { stored = without_stored s.stored uid (λ q. q == page) }
after_entry p s (entry.Fault process) = after_fault s process
after_entry p s (entry.Moved process uid volume) = moved s uid volume
after_entry p s _ = s

-- the store after some entries
unfoldable pub store_from : Plan → Store → List Entry → Store
store_from p s entries = fold (after_entry p) s entries

-- each entry is lawful in the store that those before it leave
unfoldable pub IsLegalFrom : Plan → Store → List Entry → Type 0
IsLegalFrom p s [] = Unit {0}
IsLegalFrom p s (e ∷ es) = IsLawful p s e × IsLegalFrom p (after_entry p s e) es

-- A book is legal: from the boot on, each of its entries is lawful.
unfoldable pub IsLegal : Plan → List Entry → Type 0
IsLegal p entries = IsLegalFrom p (boot p) entries

unfoldable pub store_after : Plan → List Entry → Store
store_after p entries = store_from p (boot p) entries

-- an entry answers a command of a process
abbrev pub is_part : ℕ → Entry → Bool
is_part k (entry.Do process place cpu frame r) = process == k
is_part k _ = false

-- the command entries of a process, in order
unfoldable pub part : ℕ → List Entry → List Entry
part k entries = filter (is_part k) entries

abbrev pub last_of : List Entry → Option Entry
last_of [] = None
last_of (e ∷ []) = Some e
last_of (e ∷ f ∷ es) = last_of (f ∷ es)

abbrev pub IsEnd : Plan → ℕ → Option Entry → Type 0
IsEnd p k None = ⊥
IsEnd p k (Some (entry.Do process place cpu frame r)) = command_at p k place ≡ Some command.End
IsEnd p k (Some _) = ⊥

-- A book is complete: the last command entry of each process is that of its end. In a legal book each command then has
-- exactly one entry, an `await` as many as its tries, in the order of the script.
unfoldable pub IsComplete : Plan → List Entry → Type 0
IsComplete p entries = (k : ℕ) → k < length p.processes → IsEnd p k (last_of (part k entries))

-- an account is charged for no more pages than its quota
abbrev pub is_within : Store → Node → Bool
is_within s n = not (is_account n) || not (nat_lt n.quota (used_by s.nodes s.stored n.uid))

-- The quotas sum to the root's at boot, each account is within its quota, and no stored page is all zeros.
pub record IsSettled (p : Plan) (s : Store) : Type 0 where
  pub quotas : sum (map (λ n. n.quota) s.nodes) ≡ p.quota
  pub within : list_all (is_within s) s.nodes ≡ true
  pub words : (uid page : ℕ) → is_stored s.stored uid page ≡ true → is_zero_page s.words uid page ≡ false
