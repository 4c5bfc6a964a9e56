-- What the calls of the store say of a step: each shows afterwards what the flat store that it showed has become by the
-- call, and the drives count their failures (Bensoussan, Clingen and Daley 1972; Organick 1972; own).
use Rattle.std.specs.Prelude.{◌≡◌, ◌≤◌, ℕ, ◌%◌, ◌*◌, ◌+◌, true, ◌==◌, if◌then◌else◌, Option, Some, None}
use Rattle.site_io.specs.Faults.{Rose}
use Rattle.script.specs.declared.commands.Command.{Command}
use Rattle.script.specs.declared.commands.RefKind.TheVariants as kind
use Rattle.script.specs.declared.commands.Reference.{Reference}
use Rattle.flat_model.specs.Commands.{effect_of}
use Rattle.flat_model.specs.Pages.{without_stored}
use Rattle.script.specs.References.{alters, new_word}
use Rattle.flat_model.specs.References.{after_reference, written}
use Rattle.flat_model.specs.Moves.{moved}
use Rattle.flat_model.specs.Store.{Store}
use Rattle.page_control.specs.declared.Left.{Left}
use Rattle.page_control.specs.declared.Left.TheVariants as left
use Rattle.page_control.specs.Plain.{words_in}
use Rattle.storage_ops.specs.Shown.{answered}
use Rattle.machine_model.specs.Actions as act
use Rattle.machine_model.specs.After.{Outcome, after}
use Rattle.machine_model.specs.Jobs.{left_of, page_in}
use Rattle.machine_model.specs.Keeps.{IsFaithful, StoreKept}
use Rattle.machine_model.specs.Reads.{next_command, process_at}
use Rattle.machine_model.specs.Refusal.{reply_of}
use Rattle.machine_model.specs.State.{State}
use Rattle.machine_model.specs.Steps.{old_word}

-- ---- what becomes of the flat store that is shown

-- a page of zeros that has left its frame is stored no more
abbrev pub without_left : Left → ℕ × ℕ → Store → Store
without_left left.Released page t = record t { stored = without_stored t.stored page.0 (λ q. q == page.1) }
without_left left.Kept page t = t

-- a word is written through a frame, into the page that is there
abbrev pub through : State → ℕ → Reference → Store → Store
through s f r t =
    if alters r.kind
    then written t (page_in s.store f).0 (1024 * (page_in s.store f).1 + r.offset % 1024)
    (new_word (old_word s.store.pages f r) r.kind)
    else t

-- a page is made for a word of a segment
abbrev pub with_made_page : State → ℕ → Reference → Store → Store
with_made_page s c r t = after_reference t (process_at s c)
    (record { number = r.number; offset = r.offset; kind = kind.Write (new_word 0 r.kind) })

abbrev pub left_page : State → ℕ → Store → Store
left_page s f t = without_left (left_of (words_in s.store.pages f)) (page_in s.store f) t

-- a tree command takes effect
abbrev pub with_command : State → ℕ → Option Command → Store → Store
with_command s k None t = t
with_command s k (Some command) t = answered (reply_of s k command) t (effect_of s.plan t k command)

-- by the call that an action makes, if it makes one
abbrev pub shown_after : State → ℕ → Outcome → act.Action → Store → Store
shown_after s c o (act.Through f r) t = through s f r t
shown_after s c o (act.Create f uid page r) t = with_made_page s c r t
shown_after s c o (act.FinishEviction f) t = if o.failed then t else left_page s f t
shown_after s c o (act.FinishPage f) t = if o.failed then t else left_page s f t
shown_after s c o act.Commit t = with_command s (process_at s c) (next_command s (process_at s c)) t
shown_after s c o (act.CommitMove m) t = moved t m.uid m.to.0
shown_after s c o _ t = t

-- ---- what the calls say

-- The store keeps its promise, and shows what the flat store has become. The count of the drives' failures never falls,
-- and rises where a call failed, unless it is at its end.
pub record Says (s : State) (c : ℕ) (o : Outcome) (a : act.Action) : Type 0 where
  pub store : StoreKept (after s c a o).store
  pub shown : (t : Store) → IsFaithful s.plan t s.store
      → IsFaithful s.plan (shown_after s c o a t) (after s c a o).store
  pub never_less : s.faults ≤ o.faults
  pub counted : o.failed ≡ true → Rose s.faults o.faults
