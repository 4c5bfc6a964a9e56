-- What a processor does by itself with a reference, by its associative memories and the tables (Bensoussan, Clingen and
-- Daley 1972).
use Rattle.std.specs.Prelude.{◌≡◌, ◌≤◌, ℕ, ◌*◌, ◌/◌, ◌==◌, false, not, nat_le, if◌then◌else◌, length, List, Option, Some, None}
use Rattle.active_segs.specs.Active.{ActiveSegs, IsActive, table_at, uid_at}
use Rattle.assoc_mem.specs.Held.{Held, frame_of, nothing_held, seg_of}
use Rattle.assoc_mem.specs.declared.HeldSeg.{HeldSeg}
use Rattle.descriptor_seg.specs.Descriptors.{sdw_at}
use Rattle.descriptor_seg.specs.declared.Sdw.{Sdw}
use Rattle.descriptor_seg.specs.declared.Sdw.TheVariants as sdw
use Rattle.script.specs.References.{new_word, permits}
use Rattle.flat_model.specs.References.{word_reply}
use Rattle.book.specs.declared.replies.Reply.TheVariants as reply
use Rattle.page_table.specs.PageTable.{ptw_at}
use Rattle.page_table.specs.declared.Ptw.{Ptw}
use Rattle.page_table.specs.declared.Ptw.TheVariants as ptw
use Rattle.script.specs.declared.commands.Reference.{Reference}
use Rattle.script.specs.declared.commands.RefKind.{RefKind}
use Rattle.processor.specs.declared.Cpu.{Cpu}
use Rattle.processor.specs.declared.Move.{Move}
use Rattle.processor.specs.declared.Move.TheVariants as move

-- a processor that doesn't take part yet
abbrev pub offline : Cpu
offline = record { assoc = nothing_held; process = None; due = None; online = false; transfer = None }

-- these are the page table words of the active segments, by uid and page
abbrev pub AreWords : ActiveSegs → (ℕ → ℕ → Ptw) → Type 0
AreWords ast words = (place uid : ℕ) → uid_at ast.entries place ≡ Some uid → (page : ℕ) → words uid page
    ≡ ptw_at (table_at ast.tables place) page

-- the segment of a held descriptor is active, with a page table that is as long as the descriptor says
pub record IsLongEnough (ast : ActiveSegs) (e : HeldSeg) : Type 0 where
  pub active : IsActive ast.entries e.uid
  pub long : (place : ℕ) → uid_at ast.entries place ≡ Some e.uid → e.pages ≤ length (table_at ast.tables place)

-- by the descriptor: one that is present is taken in
abbrev pub by_descriptor : Sdw → Move
by_descriptor sdw.Fault = move.Fault
by_descriptor (sdw.Present aste mode pages) = move.FillSeg

-- By the page table word: one that is here is taken in. A page of zeros needs no frame where it stays one.
abbrev pub by_word : Ptw → RefKind → Move
by_word ptw.Null how = if new_word 0 how == 0 then move.Plain (word_reply 0 how) else move.Fault
by_word (ptw.Here f) how = move.FillPage f
by_word (ptw.Out r) how = move.Fault
by_word (ptw.Leaving f) how = move.Fault

-- the word of a page that is held, or else its page table word
abbrev pub by_page : Option ℕ → Ptw → RefKind → Move
by_page (Some f) word how = move.Through f
by_page None word how = by_word word how

-- by the descriptor that is held: noaccess, then length, then by the page
abbrev pub by_held : Held → (ℕ → ℕ → Ptw) → Reference → HeldSeg → Move
by_held held words r e =
    if not (permits e.mode r.kind) then move.Plain reply.NoAccess
    else if nat_le (1024 * e.pages) r.offset then move.Plain reply.Length
    else by_page (frame_of held e.uid (r.offset / 1024)) (words e.uid (r.offset / 1024)) r.kind

abbrev pub by_seg : Held → List Sdw → (ℕ → ℕ → Ptw) → Reference → Option HeldSeg → Move
by_seg held descriptors words r None = by_descriptor (sdw_at descriptors r.number)
by_seg held descriptors words r (Some e) = by_held held words r e

-- what a processor that holds this does with a reference
abbrev pub next_move : Held → List Sdw → (ℕ → ℕ → Ptw) → Reference → Move
next_move held descriptors words r = by_seg held descriptors words r (seg_of held r.number)
