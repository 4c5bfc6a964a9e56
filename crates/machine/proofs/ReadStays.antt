-- A page that comes into its frame, or a frame that is free again where the drive failed, isn't seen in the flat store.
use Rattle.machine.proofs.Prelude.{◌≡◌, ◌≢◌, ◌<◌, ℕ, true, false, set, length, Some, None, refl, sym, ap, ◌∙◌, get_or-set_other, get_or-set_same, Frame, bound_page, frame_at, is_modified, started_page, with_frame, Ptw, Home, framed, KeepsWords, words_at, Plain, binding_at, bindings, frame_in, IsTied, shown_in, shown_out, Touches, page_none, page_some, words_kept, IsActive, table_at, table_of, word_of, IsHomeOf, IsKept, IsOutAt, home_of, Transfer, names, seen, Keeps, home_in, is_active, processor_at, State, brought, with_pages, map_list, within_by, active_at, word_within, some_same, [], Frame as frame, Ptw as ptw, Touching_moves as moves, is_away as is_out}
use Rattle.machine.proofs.Stays.{ShowsAs, core_as, pages_as, tables_as, then_as, unbound_put}

started_is : (x : Frame) (u p : ℕ) → started_page x ≡ Some (u, p) → x ≡ frame.Started u p
started_is frame.Free u p h = cc
started_is (frame.Bound v q used modified) u p h = cc
started_is (frame.Started v q) u p h = let same : (v, q) ≡ (u, p) = cc in
    ap (λ (x : ℕ × ℕ). frame.Started x.0 x.1) same

free_unlike : (u p : ℕ) → frame.Free ≢ frame.Started u p
free_unlike u p h = cc

-- a page that is on its record alone is in no frame
out_nowhere : (w : Ptw) (g : ℕ) → is_out w ≡ true → names w ≢ Some g
out_nowhere ptw.Null g h e = cc
out_nowhere _ g h e = cc

module _ (s : State) (c : ℕ) (t : Transfer) (k : Keeps s)
    (mine : (processor_at s.processors c).cpu.transfer ≡ Some t) where
  abbrev pages : Plain
  pages = s.store.pages

  abbrev home : Home
  home = home_in s.store t.uid

  reads : (seen s).reads t.frame ≡ Some (t.uid, t.page)
  reads = k.book.under_way.reading c t mine

  -- its frame is started for its page
  pub started : frame_at pages.core t.frame ≡ frame.Started t.uid t.page
  started = started_is (frame_at pages.core t.frame) t.uid t.page
      (sym (map_list started_page pages.core.frames t.frame frame.Free) ∙ reads)

  within : t.frame < length pages.core.frames
  within = within_by pages.core.frames t.frame frame.Free (λ e. free_unlike t.uid t.page (sym e ∙ started))

  out_at : IsOutAt s.store.ast.entries s.store.ast.tables t.uid t.page
  out_at = k.store.kept.paged.started t.frame t.uid t.page reads

  active : is_active s.store.ast t.uid ≡ true
  active = active_at s.store.ast out_at.place t.uid out_at.active

  -- its segment is active
  pub active_there : IsActive s.store.ast.entries t.uid
  active_there = (out_at.place, out_at.active)

  out : is_out (word_of s.store.ast t.uid t.page) ≡ true
  out = k.book.tied.out t.frame t.uid t.page reads

  -- its page is one of those that the page table of the segment has
  pub page_within : t.page < length (table_of s.store.ast t.uid)
  page_within = (word_within s.store.ast t.uid t.page (λ e. (let no : false ≡ true = sym (ap is_out e) ∙ out in cc))).1

  unbound : binding_at (bindings pages.core) t.frame ≡ None
  unbound = k.book.tied.unbound t.frame t.uid t.page reads

  -- the frame is free again
  pub lost_as : ShowsAs s.store (with_pages s.store (framed pages t.frame frame.Free))
  lost_as = core_as s.store (with_frame pages.core t.frame frame.Free)
      (unbound_put pages.core t.frame frame.Free (ap bound_page started) refl)

  -- ---- the page is in its frame

  abbrev now : Plain
  now = (brought s.store t).pages

  abbrev bound_frame : Frame
  bound_frame = frame.Bound t.uid t.page false false

  home_is : IsHomeOf pages.vtocs t.uid home
  home_is = record {
    used = k.store.counted.housed.homes t.uid (k.store.counted.active.there out_at.place t.uid out_at.active);
    only = λ other e. k.store.counted.housed.only other t.uid e;
  }

  tie : IsTied pages t.uid home (table_at s.store.ast.tables out_at.place)
  tie = k.store.kept.paged.ties out_at.place t.uid home out_at.active home_is

  frame_now : frame_in now t.frame ≡ bound_frame
  frame_now = get_or-set_same pages.core.frames t.frame bound_frame frame.Free within

  bound_now : binding_at (bindings now.core) t.frame ≡ Some (t.uid, t.page)
  bound_now = cc (map_list bound_page (set pages.core.frames t.frame bound_frame) t.frame frame.Free, frame_now)

  module _ (kept : IsKept now (brought s.store t).ast (brought s.store t).links) where
    tie_now : IsTied now t.uid home (table_at (brought s.store t).ast.tables out_at.place)
    tie_now = kept.paged.ties out_at.place t.uid home out_at.active home_is

    alone : (g : ℕ) → binding_at (bindings now.core) g ≡ Some (t.uid, t.page) → g ≡ t.frame
    alone g e = some_same g t.frame (sym (tie_now.table.named g t.page e)
        ∙ tie_now.table.named t.frame t.page bound_now)

    its_words : words_at now t.uid home t.page ≡ words_at pages t.uid home t.page
    its_words = shown_in now t.uid t.page t.frame home bound_now alone
        ∙ (tie_now.clean t.frame t.page (ap is_modified frame_now) bound_now
        ∙ sym (shown_out pages t.uid t.page home (λ g e. out_nowhere (word_of s.store.ast t.uid t.page) g out
        (k.book.tied.named g t.uid t.page e))))

    touches : Touches pages now t.uid home t.page t.frame bound_frame
    touches = moves pages now t.uid t.page t.frame home bound_frame refl
        (page_none _ t.uid t.page unbound) (page_some (Some (t.uid, t.page)) t.uid t.page refl)
        (λ g n. get_or-set_other pages.frames t.frame g _ [] n) (λ w j n. refl) refl refl refl tie.used tie.records

    keeps_words : KeepsWords pages now t.uid home
    keeps_words = words_kept touches its_words

    pub brought_as : ShowsAs s.store (brought s.store t)
    brought_as = then_as (pages_as s.store now refl refl
        (λ v q there. keeps_words.words v (home_of s.store.accounts v) q (record {
          used = k.store.counted.housed.homes v there;
          own = λ is. cc;
        }))) (tables_as (with_pages s.store now) (brought s.store t).ast s.store.links refl)
