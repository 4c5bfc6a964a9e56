-- A command of a process, as an entry answers it, and when that may stand (own).
use Rattle.std.specs.Prelude.{◌≡◌, ℕ, true, Option, Some, None}
use Rattle.script.specs.Plans.{Plan}
use Rattle.script.specs.References.{reference_of}
use Rattle.script.specs.declared.commands.Command.{Command}
use Rattle.script.specs.declared.commands.Reference.{Reference}
use Rattle.book.specs.declared.entries.Entry.{Entry}
use Rattle.book.specs.declared.entries.Entry.TheVariants as entry
use Rattle.flat_model.specs.Store.{Store}
use Rattle.custody_model.specs.Custody.{Custody, Seat, has}
use Rattle.custody_model.specs.Allowed.{MayChangeTree, MayRefer, next_command}
use Rattle.clean_reasons.specs.declared.row_commands.Answer.{Answer}

abbrev pub as_entry : Answer → Option ℕ → Entry
as_entry a f = entry.Do a.process a.place a.cpu f a.reply

-- a processor holds a descriptor, and the page table word of a frame
pub record HoldsBoth (s : Seat) (n f : ℕ) : Type 0 where
  pub segment : has s.segs n ≡ true
  pub page : has s.pages f ≡ true

pub record MayAnswerReference (s : Store) (c : Custody) (a : Answer) (f : Option ℕ) (r : Reference) : Type 0 where
  pub process : (c.seat a.cpu).process ≡ Some a.process
  pub reference : MayRefer s c a.cpu a.process f r a.reply

pub record MayAnswerTree (p : Plan) (s : Store) (c : Custody) (a : Answer) (f : Option ℕ) (x : Command) : Type 0 where
  pub process : (c.seat a.cpu).process ≡ Some a.process
  pub tree : MayChangeTree p s c a.process f x a.reply

-- the next command of a process is this one, which is no reference
pub record IsNextTree (p : Plan) (s : Store) (k : ℕ) (x : Command) : Type 0 where
  pub next : next_command p s k ≡ Some x
  pub tree : reference_of x ≡ None
