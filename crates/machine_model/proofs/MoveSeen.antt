-- What custody sees of a machine where a page is being read, is there, isn't, or is made, and where a descriptor is
-- connected.
use Rattle.machine_model.proofs.Laws.{◌≡◌, ◌≢◌, ◌<◌, ℕ, true, false, List, [], ◌∷◌, ◌++◌, length, set, Option, Some, None, sym, ap, ◌∙◌, Mode, Ptw, framed, uid_at, Transfer, place_of, sdws_at, table_of, linked, at_put, at_put_two, back_seg, page_brought, connected, here, lost, page_started, with_transfer, is_out, led_to, seen, descriptor_of, no_processor, processor_at, Processor, CutDescriptor, Owner, State, brought, with_created, with_pages, Entry as entry, Frame as frame, Ptw as ptw, Sdw as sdw, unread_put as none_put, put_list, put_two_map, bound_put, reads_put, word_laws_word_put as word_put, HasTables, descriptors_put, words_put}

-- a processor with another transfer
abbrev pub with_reading : State → ℕ → Option Transfer → List Processor
with_reading s c t = set s.processors c (with_transfer (processor_at s.processors c) t)

reading_seen : (s : State) (c : ℕ) (t : Option Transfer) (d : ℕ) → c < length s.processors
    → processor_at (with_reading s c t) d ≡ at_put (processor_at s.processors) c
    (with_transfer (processor_at s.processors c) t) d
reading_seen s c t d there = put_list s.processors c
    (with_transfer (processor_at s.processors c) t) no_processor d there

pub start_seen : (s : State) (c : ℕ) (t : Transfer) (owner : Option Owner) → c < length s.processors
    → t.frame < length s.store.pages.core.frames → (seen s).bound t.frame ≡ None → seen (record s {
      store = with_pages s.store (framed s.store.pages t.frame (frame.Started t.uid t.page));
      processors = with_reading s c (Some t);
      owner = owner;
      entries = s.entries ++ entry.Start t.frame t.uid t.page ∷ [];
    }) ≡ record (page_started (seen s) c t) { owner = owner }
start_seen s c t owner there within free = λ i. record (seen s) {
  bound = λ g. (bound_put s.store.pages.core t.frame (frame.Started t.uid t.page) within g
      ∙ none_put (seen s).bound t.frame free g) i;
  reads = λ g. reads_put s.store.pages.core t.frame (frame.Started t.uid t.page) within g i;
  processors = λ d. reading_seen s c (Some t) d there i;
  owner = owner;
  entries = s.entries ++ entry.Start t.frame t.uid t.page ∷ [];
}

pub lose_seen : (s : State) (c : ℕ) (t : Transfer) → c < length s.processors
    → t.frame < length s.store.pages.core.frames → (seen s).bound t.frame ≡ None → seen (record s {
      store = with_pages s.store (framed s.store.pages t.frame frame.Free);
      processors = with_reading s c None;
      entries = s.entries ++ entry.Lose t.frame ∷ [];
    }) ≡ lost (seen s) c t
lose_seen s c t there within free = λ i. record (seen s) {
  bound = λ g. (bound_put s.store.pages.core t.frame frame.Free within g ∙ none_put (seen s).bound t.frame free g) i;
  reads = λ g. reads_put s.store.pages.core t.frame frame.Free within g i;
  processors = λ d. reading_seen s c None d there i;
  entries = s.entries ++ entry.Lose t.frame ∷ [];
}

out_some : (w : Ptw) → is_out w ≡ true → w ≢ ptw.Null
out_some w h n = let no = sym h ∙ ap is_out n in cc

pub brought_seen : (s : State) (c : ℕ) (t : Transfer) → HasTables s → c < length s.processors
    → t.frame < length s.store.pages.core.frames → is_out ((seen s).words t.uid t.page) ≡ true → seen (record s {
      store = brought s.store t;
      processors = with_reading s c None;
      entries = s.entries ++ entry.Here t.frame t.uid t.page ∷ [];
    }) ≡ page_brought (seen s) c t
brought_seen s c t tables there within out = λ i. record (seen s) {
  bound = λ g. bound_put s.store.pages.core t.frame (frame.Bound t.uid t.page false false) within g i;
  reads = λ g. reads_put s.store.pages.core t.frame (frame.Bound t.uid t.page false false) within g i;
  words = λ v q. words_put s.store.ast t.uid t.page (ptw.Here t.frame) tables
      (out_some ((seen s).words t.uid t.page) out) v q i;
  processors = λ d. reading_seen s c None d there i;
  entries = s.entries ++ entry.Here t.frame t.uid t.page ∷ [];
}

pub made_seen : (s : State) (f u p at w : ℕ) → f < length s.store.pages.core.frames
    → place_of s.store.ast.entries u < length s.store.ast.entries
    → place_of s.store.ast.entries u < length s.store.ast.tables → p < length (table_of s.store.ast u)
    → seen (record s { store = with_created s.store f u p at w; entries = s.entries ++ entry.Here f u p ∷ [] })
    ≡ here (seen s) f u p
made_seen s f u p at w within active place inner = λ i. record (seen s) {
  bound = λ g. bound_put s.store.pages.core f (frame.Bound u p true true) within g i;
  reads = λ g. reads_put s.store.pages.core f (frame.Bound u p true true) within g i;
  words = λ v q. word_put s.store.ast u p (ptw.Here f) active place inner v q i;
  entries = s.entries ++ entry.Here f u p ∷ [];
}

-- ---- descriptors

-- a descriptor leads to the place of a segment
linked_put : (s : State) (k n : ℕ) {u : ℕ} (m : Mode) (pages : ℕ) → k < length s.store.links.descriptors
    → n < length (sdws_at s.store.links.descriptors k)
    → uid_at s.store.ast.entries (place_of s.store.ast.entries u) ≡ Some u → (i j : ℕ)
    → led_to s.store.ast.entries (descriptor_of (linked s.store.links k n (place_of s.store.ast.entries u) m pages) i j)
    ≡ at_put_two (seen s).linked k n (Some u) i j
linked_put s k n {u} m pages outer inner active i j = cc (
  descriptors_put s.store.links (linked s.store.links k n (place_of s.store.ast.entries u) m pages).trailers k n
      (sdw.Present (place_of s.store.ast.entries u) m pages) outer inner i j,
  put_two_map (led_to s.store.ast.entries)
      (λ x y. descriptor_of s.store.links x y) k n (sdw.Present (place_of s.store.ast.entries u) m pages) i j,
)

pub connect_seen : (s : State) (k n u : ℕ) (m : Mode) (pages : ℕ) → k < length s.store.links.descriptors
    → n < length (sdws_at s.store.links.descriptors k)
    → uid_at s.store.ast.entries (place_of s.store.ast.entries u) ≡ Some u → seen (record s {
      store = record s.store { links = linked s.store.links k n (place_of s.store.ast.entries u) m pages };
      entries = s.entries ++ entry.Connect k n u ∷ [];
    }) ≡ connected (seen s) k n u
connect_seen s k n u m pages outer inner active = λ i. record (seen s) {
  linked = λ x y. linked_put s k n m pages outer inner active x y i;
  entries = s.entries ++ entry.Connect k n u ∷ [];
}

pub back_seg_seen : (s : State) (d : CutDescriptor) (owner : Option Owner)
    → d.process < length s.store.links.descriptors → d.number < length (sdws_at s.store.links.descriptors d.process)
    → uid_at s.store.ast.entries (place_of s.store.ast.entries d.uid) ≡ Some d.uid → seen (record s {
      store = record s.store {
        links = linked s.store.links d.process d.number (place_of s.store.ast.entries d.uid) d.mode d.pages;
      };
      owner = owner;
      entries = s.entries ++ entry.BackSeg d.process d.number ∷ [];
    }) ≡ back_seg (seen s) d owner
back_seg_seen s d owner outer inner active = λ i. record (seen s) {
  linked = λ x y. linked_put s d.process d.number d.mode d.pages outer inner active x y i;
  owner = owner;
  entries = s.entries ++ entry.BackSeg d.process d.number ∷ [];
}
