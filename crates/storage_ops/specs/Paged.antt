-- What the calls on pages ask and leave: a word is written, a page is stored or is stored no more (Organick 1972).
use Rattle.std.specs.Prelude.{◌≡◌, ℕ, ◌+◌, ◌-◌, ◌*◌, ◌/◌, ◌<◌, ◌==◌, if◌then◌else◌, List, Some, Result, Ok, Err, length, replicate, slice_set, true}
use Rattle.known_segs.specs.Known.{uid_of}
use Rattle.core_map.specs.declared.Frame.TheVariants.{Free}
use Rattle.core_map.specs.CoreMap.{frame_at, reads_of}
use Rattle.page_table.specs.declared.Ptw.TheVariants.{Here, Null}
use Rattle.active_segs.specs.Active.{IsActive}
use Rattle.book.specs.declared.replies.Reply.{Reply}
use Rattle.accounts.specs.Maps.{AccountMaps, Recounts, count_of}
use Rattle.tree_model.specs.Tree.{Node, node_in}
use Rattle.flat_model.specs.Pages.{with_stored, with_word, without_stored}
use Rattle.flat_model.specs.Store.{Store, known_uid}
use Rattle.page_control.specs.declared.Left.{Left}
use Rattle.page_control.specs.declared.Left.TheVariants.{Released, Kept}
use Rattle.page_control.specs.Plain.{bindings, plain}
use Rattle.page_control.specs.Counts.{KeepsCounts, one_more, taken}
use Rattle.page_control.specs.Effects.{created, next_record}
use Rattle.page_control.specs.Picture.{ChangesStored, ChangesWords}
use Rattle.seg_control.specs.Control.{kst_at, word_of}
use Rattle.seg_control.specs.Effects.{worded}
use Rattle.storage_ops.specs.Shown.{Storage, home_of, is_refusal, pages_in}

-- a flat store once a page has left its frame: one that was all zeros is stored no more
abbrev pub page_left : {E : Type 0} → Store → ℕ → ℕ → Result Left E → Store
page_left s uid page (Ok Released) = record s { stored = without_stored s.stored uid (λ q. q == page) }
page_left s uid page (Ok Kept) = s
page_left s uid page (Err e) = s

-- the accounts once a page of a segment has left its frame: one that is stored no more is to its account's credit
abbrev pub IsSettled : {E : Type 0} → AccountMaps → AccountMaps → ℕ → Result Left E → Type 0
IsSettled old new uid (Ok Released) = Recounts old new uid (count_of old uid - 1)
IsSettled old new uid (Ok Kept) = new ≡ old
IsSettled old new uid (Err e) = new ≡ old

-- a flat store once a page that wasn't stored is, with word `at` in it
abbrev pub page_made : Store → ℕ → ℕ → ℕ → ℕ → Store
page_made s uid page at w = record s {
  words = with_word s.words uid (1024 * page + at) w;
  stored = with_stored s.stored uid page;
}

-- what a call that stores a page answers, by the flat store's reply: done, or what refuses it
abbrev pub done_or : Reply → Result (Unit {0}) Reply
done_or r = if is_refusal r then Err r else Ok tt

-- a process knows this node by a number
pub record IsKnownAs (s : Store) (process number : ℕ) (n : Node) : Type 0 where
  pub known : known_uid s process number ≡ Some n.uid
  pub there : node_in s.nodes n.uid ≡ Some n

-- A page may be made for a word of a segment: a process knows the segment by this number, it is active, the word is
-- within its length, the page has no record, and the frame is free.
pub record MayCreate {D : Type 0} (t : Storage D) (process number offset f : ℕ) : Type 0 where
  pub uid : ℕ
  pub known : uid_of (kst_at t.segs.links.known process) number ≡ Some uid
  pub active : IsActive t.segs.ast.entries uid
  pub within : offset < 1024 * pages_in t.accounts.nodes uid
  pub null : word_of t.segs.ast uid (offset / 1024) ≡ Null
  pub frame : f < length t.segs.pages.core.frames
  pub free : frame_at t.segs.pages.core f ≡ Free

-- Page p of a segment is in frame f and on the least free record of its volume, all zeros but word `at`; its account is
-- charged for it; and all else is as it was.
pub record IsPageMade {D : Type 0} (drive : D → List (List ℕ)) (old new : Storage D) (uid p f at w : ℕ) : Type 0 where
  pub pages : plain drive new.segs.pages ≡ created (plain drive old.segs.pages) uid p (home_of old.accounts uid)
      (next_record (plain drive old.segs.pages) (home_of old.accounts uid)) f at w
  pub word : new.segs.ast ≡ worded old.segs.ast uid p (Here f)
  pub words : ChangesWords (plain drive old.segs.pages) (plain drive new.segs.pages) uid (home_of old.accounts uid) p
      (slice_set (replicate 1024 0) at w)
  pub stored : ChangesStored (plain drive old.segs.pages) (plain drive new.segs.pages) (home_of old.accounts uid) p true
  pub taken_more : taken new.segs.pages.volumes.records
      ≡ one_more (taken old.segs.pages.volumes.records) (home_of old.accounts uid).volume
  pub bound : bindings new.segs.pages.core ≡ slice_set (bindings old.segs.pages.core) f (Some (uid, p))
  pub reads : reads_of new.segs.pages.core ≡ reads_of old.segs.pages.core
  pub counts : KeepsCounts (plain drive old.segs.pages) (plain drive new.segs.pages)
  pub drives : new.segs.pages.volumes.drives ≡ old.segs.pages.volumes.drives
  pub charged : Recounts old.accounts new.accounts uid (count_of old.accounts uid + 1)
  pub links : new.segs.links ≡ old.segs.links
  pub moving : new.segs.moving ≡ old.segs.moving
  pub whos : new.whos ≡ old.whos
