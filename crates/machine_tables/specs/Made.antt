-- When a page may be made for a reference (Organick 1972).
use Rattle.std.specs.Prelude.{◌≡◌, ◌≢◌, ◌<◌, ℕ, ◌*◌, ◌/◌, length, Some, None}
use Rattle.script.specs.References.{new_word}
use Rattle.script.specs.declared.commands.RefKind.TheVariants.{Write}
use Rattle.script.specs.declared.commands.Reference.{Reference}
use Rattle.book.specs.declared.replies.Reply.TheVariants.{Done}
use Rattle.core_map.specs.CoreMap.{frame_at}
use Rattle.core_map.specs.declared.Frame.TheVariants.{Free}
use Rattle.page_table.specs.declared.Ptw.TheVariants.{Null}
use Rattle.active_segs.specs.Active.{IsActive}
use Rattle.known_segs.specs.Known.{uid_of}
use Rattle.seg_control.specs.Control.{kst_at, word_of}
use Rattle.tree_model.specs.Tree.{Node, node_in}
use Rattle.flat_model.specs.References.{room_reply}
use Rattle.storage_ops.specs.Shown.{pages_in}
use Rattle.machine_model.specs.Keeps.{IsFaithful}
use Rattle.machine_model.specs.Reads.{flat_of}
use Rattle.machine_model.specs.Refusal.{move_to}
use Rattle.machine_model.specs.State.{State, Storage}

-- the reference that writes the word which another one leaves in a page of zeros
abbrev pub page_reference : Reference → Reference
page_reference r = record { number = r.number; offset = r.offset; kind = Write (new_word 0 r.kind) }

-- Process k knows by the reference's number an active segment, within which the reference lies; its page has no record,
-- and the reference leaves a word other than 0; and frame f is free.
pub record HasPlace (st : Storage) (k f : ℕ) (r : Reference) : Type 0 where
  pub uid : ℕ
  pub knows : k < length st.links.known
  pub known : uid_of (kst_at st.links.known k) r.number ≡ Some uid
  pub active : IsActive st.ast.entries uid
  pub within : r.offset < 1024 * pages_in st.accounts.nodes uid
  pub null : word_of st.ast uid (r.offset / 1024) ≡ Null
  pub word : new_word 0 r.kind ≢ 0
  pub frame : f < length st.pages.core.frames
  pub free : frame_at st.pages.core f ≡ Free

-- That, and there is room for the page on the volume of its segment, by the flat store after the book.
pub record IsMakeable (s : State) (k f : ℕ) (r : Reference) : Type 0 where
  pub place : HasPlace s.store k f r
  pub faithful : IsFaithful s.plan (flat_of s) s.store
  pub room : (n : Node) → node_in (flat_of s).nodes place.uid ≡ Some n → room_reply s.plan (flat_of s) n Done ≡ Done
  pub stays : move_to s place.uid ≡ None
