-- The listing of a book: what each process was answered, or each entry; then the accounts, then the volumes (own).
use Rattle.std.specs.Prelude.{ℕ, zero, suc, ◌+◌, List, [], ◌∷◌, ◌++◌, reverse, Option, Some, None, codes, eqb, if◌then◌else◌}
use Rattle.std.specs.List.{flat_map}
use Rattle.std.specs.Fmt.{decimal}
use Rattle.mnames.specs.Names.{path_text}
use Rattle.mnames.specs.Principals.{who_text}
use Rattle.mnames.specs.declared.principals.Who.{Who}
use Rattle.script.specs.Plans.{Plan, ProcessPlan, command_at}
use Rattle.script.specs.declared.commands.Command.{Command}
use Rattle.script.specs.declared.plan.Print.{Print}
use Rattle.script.specs.declared.plan.Print.TheVariants as print
use Rattle.script.specs.declared.plan.VolumeLine.{VolumeLine}
use Rattle.script.specs.Texts.{command_text}
use Rattle.book.specs.declared.entries.Entry.{Entry}
use Rattle.book.specs.declared.entries.Entry.TheVariants as entry
use Rattle.book.specs.declared.replies.Reply.{Reply}
use Rattle.book.specs.Entries.{entry_text}
use Rattle.book.specs.Replies.{reply_text}
use Rattle.tree_model.specs.Tree.{Node, is_account, used_by, taken_on, entries_on}
use Rattle.flat_model.specs.Store.{Store}
use Rattle.flat_model.specs.Legal.{store_after, part}
use Rattle.listing.specs.declared.counts.VolumeUse.{VolumeUse}

-- `COMMAND = REPLY`
unfoldable pub answer_line : Plan → Option Command → Reply → List ℕ
answer_line p None r = []
answer_line p (Some c) r = command_text p.volumes c ++ (codes " = " ++ (reply_text r ++ codes "\n"))

abbrev pub entry_line : Plan → Entry → List ℕ
entry_line p (entry.Do process place cpu frame r) = answer_line p (command_at p process place) r
entry_line p _ = []

-- `process K WHO`
unfoldable pub process_line : ℕ → Who → List ℕ
process_line k who = codes "process " ++ (decimal k ++ (codes " " ++ (who_text who ++ codes "\n")))

-- a process's line, and a line for each of its command entries
unfoldable pub process_lines : Plan → List Entry → ℕ → Who → List ℕ
process_lines p entries k who = process_line k who ++ flat_map (entry_line p) (part k entries)

-- the same of each process from number k on
abbrev pub processes_lines : Plan → List Entry → ℕ → List ProcessPlan → List ℕ
processes_lines p entries k [] = []
processes_lines p entries k (x ∷ xs) = process_lines p entries k x.who ++ processes_lines p entries (k + 1) xs

-- the names from the root down to a node, the root's own not among them
abbrev pub trail_up : (ℕ → List (List ℕ)) → List ℕ → Option ℕ → List (List ℕ)
trail_up trail name None = []
trail_up trail name (Some s) = trail s ++ name ∷ []

abbrev pub trail_of : List Node → ℕ → List (List ℕ)
trail_of [] u = []
trail_of (n ∷ ns) u = if eqb n.uid u then trail_up (trail_of ns) n.name n.superior else trail_of ns u

-- an account: its path, its quota and how many stored pages it is charged for, both in pages
pub record AccountCount : Type 0 where
  pub path : List (List ℕ)
  pub quota : ℕ
  pub used : ℕ

-- a volume of a script, how many of its records are taken, one for each stored page, and how many of its VTOC entries,
-- one for each node
pub record VolumeCount : Type 0 where
  pub volume : VolumeLine
  pub taken : ℕ
  pub used : ℕ

-- what a listing ends with: the accounts in order of uid, and the volumes in the order of the script
pub record Summary : Type 0 where
  pub accounts : List AccountCount
  pub volumes : List VolumeCount

abbrev pub account_count : Store → Node → List AccountCount
account_count s n = if is_account n then (record {
  path = trail_of s.nodes n.uid;
  quota = n.quota;
  used =
      used_by s.nodes s.stored n.uid;
}) ∷ [] else []

-- the accounts of a store
unfoldable pub accounts_of : Store → List AccountCount
accounts_of s = flat_map (account_count s) (reverse s.nodes)

-- the counts of volumes, from number v on
abbrev pub volumes_of : Store → ℕ → List VolumeLine → List VolumeCount
volumes_of s v [] = []
volumes_of s v (x ∷ xs) = (record { volume = x; taken = taken_on s.nodes s.stored v; used = entries_on s.nodes v })
    ∷ volumes_of s (v + 1) xs

-- how much of a volume is used, and of each volume below a number, in order
abbrev pub use_of : Store → ℕ → VolumeUse
use_of s v = record { records = taken_on s.nodes s.stored v; entries = entries_on s.nodes v }

abbrev pub uses_of : Store → ℕ → List VolumeUse
uses_of s zero = []
uses_of s (suc v) = uses_of s v ++ use_of s v ∷ []

-- the accounts and the volumes, as they are in a store
unfoldable pub summary_of : Plan → Store → Summary
summary_of p s = record { accounts = accounts_of s; volumes = volumes_of s 0 p.volumes }

-- `PATH quota Q used N`
unfoldable pub account_text : AccountCount → List ℕ
account_text a = path_text a.path ++ (codes " quota " ++
    (decimal a.quota ++ (codes " used " ++ (decimal a.used ++ codes "\n"))))

-- `volume NAME records R taken T entries E taken G`
unfoldable pub volume_text : VolumeCount → List ℕ
volume_text c =
    codes "volume " ++ (c.volume.name ++ (codes " records "
    ++ (decimal c.volume.records ++ (codes " taken " ++ (decimal c.taken
    ++ (codes " entries " ++ (decimal c.volume.entries ++ (codes " taken " ++ (decimal c.used ++ codes "\n")))))))))

-- a line for each account and for each volume
unfoldable pub summary_text : Summary → List ℕ
summary_text s = flat_map account_text s.accounts ++ flat_map volume_text s.volumes

-- a line for each entry
unfoldable pub full_line : Entry → List ℕ
full_line e = entry_text e ++ codes "\n"

-- what stands before the summary, by what the script prints
unfoldable pub body_of : Print → Plan → List Entry → List ℕ
body_of print.Short p entries = []
body_of print.Replies p entries = processes_lines p entries 0 p.processes
body_of print.All p entries = flat_map full_line entries

-- the listing of a book
unfoldable pub listing_of : Plan → List Entry → List ℕ
listing_of p entries = body_of p.print p entries ++ summary_text (summary_of p (store_after p entries))

-- the line of an entry, where it answers a command of this process
abbrev pub own_line : Plan → ℕ → Entry → List ℕ
own_line p k (entry.Do process place cpu frame r) = if eqb process k then answer_line p (command_at p k place) r else []
own_line p k _ = []
