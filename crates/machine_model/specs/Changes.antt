-- What each entry of the book changes in what custody sees of a machine.
use Rattle.std.specs.Prelude.{ℕ, ◌+◌, Bool, true, false, ◌==◌, if◌then◌else◌, drop, List, [], ◌∷◌, ◌++◌, Option, Some, None}
use Rattle.assoc_mem.specs.declared.HeldPage.{HeldPage}
use Rattle.assoc_mem.specs.declared.HeldSeg.{HeldSeg}
use Rattle.assoc_mem.specs.declared.What.{What}
use Rattle.assoc_mem.specs.Held.{nothing_held, cleared, with_seg, with_page}
use Rattle.book.specs.declared.entries.Entry.{Entry}
use Rattle.book.specs.declared.entries.Entry.TheVariants as entry
use Rattle.book.specs.declared.replies.Reply.{Reply}
use Rattle.page_table.specs.declared.Ptw.{Ptw}
use Rattle.processor.specs.declared.Transfer.{Transfer}
use Rattle.page_table.specs.declared.Ptw.TheVariants as ptw
use Rattle.custody_model.specs.Allowed.{next_command}
use Rattle.custody_model.specs.Next.{at_put, at_put_two, queued, is_try, released_by}
use Rattle.machine_model.specs.declared.Aim.{Aim}
use Rattle.machine_model.specs.declared.Phase.TheVariants as phase
use Rattle.machine_model.specs.Reads.{frames_of_owner, cut_of_owner}
use Rattle.machine_model.specs.declared.Processor.{Processor}
use Rattle.machine_model.specs.declared.Run.{Run}
use Rattle.machine_model.specs.declared.CutDescriptor.{CutDescriptor}
use Rattle.machine_model.specs.State.{Owner}
use Rattle.machine_model.specs.Seen.{Seen, flat}

-- ---- processors

-- a processor, the ready list and the book
abbrev pub reseated : Seen → ℕ → Processor → List ℕ → Entry → Seen
reseated v c p ready e = record v { processors = at_put v.processors c p; ready = ready; entries = v.entries ++ e ∷ [] }

abbrev pub taking_part : Processor → Processor
taking_part p = record p { cpu = record p.cpu { online = true } }

abbrev pub came_online : Seen → ℕ → Seen
came_online v c = reseated v c (taking_part (v.processors c)) v.ready (entry.Online c)

-- a processor with a process that it has just loaded
abbrev pub running : Processor → ℕ → Processor
running p k = record { cpu = record p.cpu { process = Some k; assoc = nothing_held }; count = 0; tried = false }

abbrev pub loaded : Seen → ℕ → ℕ → Seen
loaded v c k = reseated v c (running (v.processors c) k) (drop 1 v.ready) (entry.Load c k)

-- a processor whose process has left it
abbrev pub emptied : Processor → Processor
emptied p = record p { cpu = record p.cpu { process = None; assoc = nothing_held } }

abbrev pub left : Seen → ℕ → Seen
left v c = reseated v c (emptied (v.processors c)) (queued (flat v) v.ready (v.processors c).cpu.process)
    (entry.Leave c)

abbrev pub with_held_seg : Processor → HeldSeg → Processor
with_held_seg p e = record p { cpu = record p.cpu { assoc = with_seg p.cpu.assoc e } }

abbrev pub seg_filled : Seen → ℕ → HeldSeg → Seen
seg_filled v c e = reseated v c (with_held_seg (v.processors c) e) v.ready (entry.FillSeg c e.number)

abbrev pub with_held_page : Processor → HeldPage → Processor
with_held_page p e = record p { cpu = record p.cpu { assoc = with_page p.cpu.assoc e } }

abbrev pub page_filled : Seen → ℕ → HeldPage → Seen
page_filled v c e = reseated v c (with_held_page (v.processors c) e) v.ready (entry.FillPage c e.frame)

-- ---- clears

abbrev pub dropped : Processor → What → Processor
dropped p w = record p { cpu = record p.cpu { assoc = cleared p.cpu.assoc w } }

abbrev pub warned : Processor → What → Processor
warned p w = record p { cpu = record p.cpu { due = Some w } }

-- processor c drops what is named, and every other one that takes part is to drop it
abbrev pub told_at : ℕ → What → ℕ → Processor → Processor
told_at c w d p = if d == c then dropped p w else if p.cpu.online then warned p w else p

abbrev pub signalled : Seen → ℕ → What → Option Owner → Seen
signalled v c w owner = record v {
  processors = λ d. told_at c w d (v.processors d);
  owner = owner;
  entries = v.entries ++ entry.Signal c w ∷ [];
}

abbrev pub done_dropping : Processor → What → Processor
done_dropping p w = record p { cpu = record p.cpu { assoc = cleared p.cpu.assoc w; due = None } }

abbrev pub cleared_at : Seen → ℕ → What → Seen
cleared_at v c w = reseated v c (done_dropping (v.processors c) w) v.ready (entry.Clear c w)

-- ---- pages and frames

-- the owner has taken one page more, or one descriptor more, and is to signal this
abbrev pub with_frame_taken : Option Owner → ℕ → Aim → What → ℕ → Option Owner
with_frame_taken o c aim w f = Some (record {
  cpu = c;
  phase = phase.Taken aim w;
  frames = frames_of_owner o ++ f ∷ [];
  cut = cut_of_owner o;
})

abbrev pub with_descriptor_cut : Option Owner → ℕ → Aim → What → CutDescriptor → Option Owner
with_descriptor_cut o c aim w d = Some (record
    { cpu = c; phase = phase.Taken aim w; frames = frames_of_owner o; cut = cut_of_owner o ++ d ∷ [] })

-- page p of segment u, which is in frame f, is taken
abbrev pub taken : Seen → ℕ → Aim → What → ℕ → ℕ → ℕ → Seen
taken v c aim w f u p = record v {
  words = at_put_two v.words u p (ptw.Leaving f);
  owner = with_frame_taken v.owner c aim w f;
  entries = v.entries ++ entry.Take f ∷ [];
}

-- it has left the frame, and its word is this
abbrev pub gone : Seen → ℕ → ℕ → ℕ → Ptw → Option Owner → Seen
gone v f u p word owner = record v {
  bound = at_put v.bound f None;
  words = at_put_two v.words u p word;
  owner = owner;
  entries = v.entries ++ entry.GonePage f ∷ [];
}

-- it is stored no more
abbrev pub released : Seen → ℕ → ℕ → Seen
released v u p = record v { entries = v.entries ++ entry.Release u p ∷ [] }

-- it is back
abbrev pub back : Seen → ℕ → ℕ → ℕ → Option Owner → Seen
back v f u p owner = record v {
  words = at_put_two v.words u p (ptw.Here f);
  owner = owner;
  entries = v.entries ++ entry.BackPage f ∷ [];
}

-- ---- descriptors

abbrev pub cut : Seen → ℕ → Aim → What → CutDescriptor → Seen
cut v c aim w d = record v {
  linked = at_put_two v.linked d.process d.number None;
  owner = with_descriptor_cut v.owner c aim w d;
  entries = v.entries ++ entry.Cut d.process d.number ∷ [];
}

abbrev pub gone_seg : Seen → CutDescriptor → Option Owner → Seen
gone_seg v d owner = record v { owner = owner; entries = v.entries ++ entry.GoneSeg d.process d.number ∷ [] }

abbrev pub back_seg : Seen → CutDescriptor → Option Owner → Seen
back_seg v d owner = record v {
  linked = at_put_two v.linked d.process d.number (Some d.uid);
  owner = owner;
  entries = v.entries ++ entry.BackSeg d.process d.number ∷ [];
}

abbrev pub connected : Seen → ℕ → ℕ → ℕ → Seen
connected v k n u = record v {
  linked = at_put_two v.linked k n
      (Some u);
  entries = v.entries ++ entry.Connect k n u ∷ [];
}

-- ---- active segments

-- a segment is active, or isn't any more, and these are the words then
abbrev pub activated : Seen → ℕ → (ℕ → ℕ → Ptw) → Seen
activated v u words = record v {
  active = at_put v.active u true;
  words = words;
  entries = v.entries ++ entry.Activate
      u ∷ [];
}

abbrev pub deactivated : Seen → ℕ → (ℕ → ℕ → Ptw) → Seen
deactivated v u words = record v {
  active = at_put v.active u false;
  words = words;
  entries = v.entries ++
      entry.Deactivate u ∷ [];
}

-- ---- transfers

abbrev pub with_transfer : Processor → Option Transfer → Processor
with_transfer p t = record p { cpu = record p.cpu { transfer = t } }

abbrev pub started : Seen → ℕ → Transfer → Seen
started v c t = record v {
  reads = at_put v.reads t.frame (Some (t.uid, t.page));
  processors = at_put v.processors c (with_transfer (v.processors c) (Some t));
  entries = v.entries ++ entry.Start t.frame t.uid t.page ∷ [];
}

abbrev pub lost : Seen → ℕ → Transfer → Seen
lost v c t = record v {
  reads = at_put v.reads t.frame None;
  processors = at_put v.processors c (with_transfer (v.processors c) None);
  entries = v.entries ++ entry.Lose t.frame ∷ [];
}

-- page p of segment u is in frame f
abbrev pub here : Seen → ℕ → ℕ → ℕ → Seen
here v f u p = record v {
  bound = at_put v.bound f (Some (u, p));
  reads = at_put v.reads f None;
  words = at_put_two v.words u p (ptw.Here f);
  entries = v.entries ++ entry.Here f u p ∷ [];
}

abbrev pub brought : Seen → ℕ → Transfer → Seen
brought v c t = record (here v t.frame t.uid t.page) {
  processors = at_put v.processors c
      (with_transfer (v.processors c) None);
}

-- ---- answers

-- a call of a drive failed, for this process, or for none
abbrev pub failed : Seen → Option ℕ → Seen
failed v k = record v { entries = v.entries ++ entry.Fault k ∷ [] }

abbrev pub counted : Processor → Bool → Processor
counted p tried = record p { count = p.count + 1; tried = tried }

-- the next command of a process is answered
abbrev pub answered : Seen → ℕ → ℕ → ℕ → Option ℕ → Reply → Run → Seen
answered v c k place f r run = record v {
  processors = at_put v.processors c (counted (v.processors c) (is_try (flat v) k (next_command v.plan (flat v) k) r));
  ready = v.ready ++ released_by v.plan k (next_command v.plan (flat v) k);
  runs = at_put v.runs k run;
  entries = v.entries ++ entry.Do k place c f r ∷ [];
}
