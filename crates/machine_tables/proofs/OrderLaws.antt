-- Pages that are cut off: to drop those past the page that is cut before it is cut, or after, comes to the same.
use Rattle.machine_tables.proofs.Prelude.{◌≡◌, ◌≢◌, ◌<◌, ◌≤◌, ◌+◌, ◌-◌, ℕ, suc, zero, Bool, true, false, cond, length, List, get_or, set, Option, Some, None, inl, inr, refl, sym, ◌∙◌, arith, range_with_len, cases_eq, get_or-set_other, get_or-set_same, set-set, set_comm, Ptw, Here, Leaving, Null, Frame, Free, Core, after_reference, with_record, ActiveSegs, Home, unstored, Plain, entry_of, filed, flags_of, frame_in, vtoc_of, place_of, word_of, worded, Paged, is_cleared, page_cleared, page_cut, pages_cut, word_within, here_again, given_twice, suc-add, zero-add, VtocEntry as Entry}
use Rattle.machine_tables.proofs.DeleteLaws.{Drops, IsNamed, IsUsed, entry_less, filed_less, flags_less, page_drops, table_in, vtoc_less}
use Rattle.machine_tables.proofs.TakeLaws.{word_other, word_put}

-- ---- words

-- two words are changed
words_order : (ast : ActiveSegs) (u p q : ℕ) (v w : Ptw) → place_of ast.entries u < length ast.tables → p ≢ q
    → worded (worded ast u p v) u q w ≡ worded (worded ast u q w) u p v
words_order ast u p q v w within ne = grind (arith, set-set, get_or-set_same, set_comm)

-- ---- records

module _ (s : Plain) (home : Home) (p q r n : ℕ) (used : IsUsed s home) (here : filed s home p ≡ Some r)
    (there : filed s home q ≡ Some n) (ne : p ≢ q) where
  abbrev flags_both : ℕ → ℕ → List (List Bool)
  flags_both i j = set s.records home.volume (set (set (flags_of s home.volume) i false) j false)

  records_after : (a b i j : ℕ) → filed s home a ≡ Some i → filed s home b ≡ Some j → b ≢ a
      → (unstored (unstored s home a) home b).records ≡ flags_both i j
  records_after a b i j at bt other = grind (arith, set-set, flags_less, filed_less)

  records_order : (unstored (unstored s home p) home q).records ≡ (unstored (unstored s home q) home p).records
  records_order = cc (
    records_after p q r n here there (λ e. ne (sym e)),
    records_after q p n r there here ne,
    given_twice (flags_of s home.volume) r n,
  )

  vtocs_after : (a b i : ℕ) → filed s home a ≡ Some i → (unstored (unstored s home a) home b).vtocs
      ≡ set s.vtocs home.volume (set (vtoc_of s home.volume) home.entry
      (with_record (with_record (entry_of s home) a None) b None))
  vtocs_after a b i at = rw (set-set, entry_less s home a i used at, vtoc_less s home a i used at, set-set)

  maps_order : (e : Option Entry) → with_record (with_record e p None) q None
      ≡ with_record (with_record e q None) p None
  maps_order e = grind (arith, set_comm)

  vtocs_order : (unstored (unstored s home p) home q).vtocs ≡ (unstored (unstored s home q) home p).vtocs
  vtocs_order = cc (vtocs_after p q r here, maps_order (entry_of s home), vtocs_after q p n there)

-- ---- the page that is cut, and one that is dropped

-- references go again through the word of a page
abbrev pub again : Paged → ℕ → ℕ → Ptw → Paged
again x uid p w = record x { ast = here_again x.ast uid p w }

-- the words of a page become 0 from a place on: it is stored no more where it is all zeros then, and here again where
-- it isn't
abbrev pub cut_first : Paged → Home → ℕ → ℕ → ℕ → Ptw → Paged
cut_first x home uid p at w =
    cond (is_cleared x at w) (page_cut (page_cleared x at w) home uid p w) (again (page_cleared x at w) uid p w)

-- whether a page is all zeros then doesn't depend on another that is dropped
pub cleared_same : (x : Paged) (home : Home) (uid q at f : ℕ) (v : Ptw)
    → is_cleared (page_cut x home uid q v) at (Leaving f) ≡ is_cleared x at (Leaving f)
cleared_same x home uid q at f v = grind arith

module _ (x : Paged) (home : Home) (uid p q at f : ℕ) (word : word_of x.ast uid p ≡ Leaving f) (ne : p ≢ q)
    (named : IsNamed x home uid) where
  own : word_of x.ast uid p ≢ Null
  own none = cc

  within : place_of x.ast.entries uid < length x.ast.tables
  within = (word_within x.ast uid p own).0

  abbrev cleared : Paged
  cleared = page_cleared x at (Leaving f)

  abbrev Commutes : (Paged → Paged) → Ptw → Type 0
  Commutes step v = page_cut (step x) home uid q v ≡ step (page_cut x home uid q v)

  abbrev drops : Paged → Paged
  drops y = page_cut (page_cleared y at (Leaving f)) home uid p (Leaving f)

  abbrev stays : Paged → Paged
  stays y = again (page_cleared y at (Leaving f)) uid p (Leaving f)

  module _ (v : Ptw) (is : word_of x.ast uid q ≡ v) (some : v ≢ Null) where
    its : (r : ℕ) × (filed x.pages home p ≡ Some r)
    its = named.named p own

    other : (r : ℕ) × (filed x.pages home q ≡ Some r)
    other = named.named q (λ none. some (cc))

    records : (unstored (unstored x.pages home p) home q).records ≡ (unstored (unstored x.pages home q) home p).records
    records = records_order x.pages home p q its.0 other.0 named.used its.1 other.1 ne

    vtocs : (unstored (unstored x.pages home p) home q).vtocs ≡ (unstored (unstored x.pages home q) home p).vtocs
    vtocs = vtocs_order x.pages home p q its.0 other.0 named.used its.1 other.1 ne

    abbrev frames : List Frame
    frames = x.pages.core.frames

  -- the frames, where the other page leaves one too
  free_order : (g : ℕ) → f ≢ g → (y z : Frame) → set (set (set x.pages.core.frames f y) f Free) g Free
      ≡ set (set (set x.pages.core.frames g Free) f z) f Free
  free_order g apart y z = rw (set-set, set_comm _ _ _ _ _ apart, set-set)

  mark_order : (g : ℕ) → f ≢ g
      → set (set x.pages.core.frames f (after_reference (get_or x.pages.core.frames f Free) true)) g Free
      ≡ set (set x.pages.core.frames g Free) f (after_reference (get_or (set x.pages.core.frames g Free) f Free) true)
  mark_order g apart = rw (set_comm _ _ _ _ _ apart, get_or-set_other)

  -- the two pages, where the frames come to the same
  dropped_order : (v : Ptw) (core : Core) → word_of x.ast uid q ≡ v → v ≢ Null
      → core ≡ (drops (page_cut x home uid q v)).pages.core → ◌≡◌ {A = Paged} (record {
        pages = record (drops (page_cut x home uid q v)).pages {
          core = core;
          records = (unstored (unstored x.pages home p) home q).records;
          vtocs = (unstored (unstored x.pages home p) home q).vtocs;
        };
        ast = worded (worded x.ast uid p Null) uid q Null;
        stored = x.stored - 1 - 1;
      }) (record {
        pages = record (drops (page_cut x home uid q v)).pages {
          records = (unstored (unstored x.pages home q) home p).records;
          vtocs = (unstored (unstored x.pages home q) home p).vtocs;
        };
        ast = worded (worded x.ast uid q Null) uid p Null;
        stored = x.stored - 1 - 1;
      })
  dropped_order v core is some same = (λ i. record {
    pages = record (drops (page_cut x home uid q v)).pages {
      core = same i;
      records = records v is some i;
      vtocs = vtocs v is some i;
    };
    ast = words_order x.ast uid p q Null Null within ne i;
    stored = x.stored - 1 - 1;
  })

  drops_order : (v : Ptw) → word_of x.ast uid q ≡ v → v ≢ Leaving f → Commutes drops v
  drops_order Null is apart = refl
  drops_order (Leaving g) is apart = dropped_order (Leaving g) _ is (λ e. cc)
      (cc (free_order g (λ e. apart (cc)) (after_reference (frame_in x.pages f) true)
      (after_reference (get_or (set x.pages.core.frames g Free) f Free) true)))
  drops_order v is apart = dropped_order v _ is (λ e. cc) refl

  stays_order : (v : Ptw) → word_of x.ast uid q ≡ v → v ≢ Leaving f → Commutes stays v
  stays_order Null is apart = refl
  stays_order (Leaving g) is apart =
      let words = words_order x.ast uid p q (Here f) Null within ne in
      let frames_same = mark_order g (λ e. apart (cc)) in
      (λ i. record (page_cut (stays x) home uid q (Leaving g)) {
        pages = record (page_cut (stays x) home uid q (Leaving g)).pages {
          core = record x.pages.core { frames = frames_same i };
        };
        ast = words i;
      })
  stays_order v is apart = cc (words_order x.ast uid p q (Here f) Null within ne)

  -- one page is dropped after the cut, or before
  pub one_order : (v : Ptw) → word_of x.ast uid q ≡ v → v ≢ Leaving f
      → page_cut (cut_first x home uid p at (Leaving f)) home uid q v
      ≡ cut_first (page_cut x home uid q v) home uid p at (Leaving f)
  one_order v is apart = grind (arith, cleared_same, drops_order, stays_order)

  -- the word of another page is as before
  pub first_other : word_of (cut_first x home uid p at (Leaving f)).ast uid q ≡ word_of x.ast uid q
  first_other = grind (arith, word_other, table_in)

-- ---- several pages

-- no other page leaves the frame
pub record IsAlone (x : Paged) (uid p f : ℕ) : Type 0 where
  pub word : word_of x.ast uid p ≡ Leaving f
  pub others : (q : ℕ) → q ≢ p → word_of x.ast uid q ≢ Leaving f

pub cut_gone : (x : Paged) (home : Home) (uid p : ℕ) (w : Ptw) → word_of x.ast uid p ≡ w
    → word_of (page_cut x home uid p w).ast uid p ≡ Null
cut_gone x home uid p Null at = at
cut_gone x home uid p w at = word_put x.ast uid p Null (table_in x.ast uid p (λ e. cc))

alone_after : (x : Paged) (home : Home) (uid p q f : ℕ) → q ≢ p → IsNamed x home uid → IsAlone x uid p f
    → IsAlone (page_cut x home uid q (word_of x.ast uid q)) uid p f
alone_after x home uid p q f ne named alone = record {
  word = drops.words p (λ e. ne (sym e)) ∙ alone.word;
  others = λ r other e. elim (cases_eq r q) [
    | inl same ↦ cc (cut_gone x home uid q (word_of x.ast uid q) refl)
    | inr apart ↦ alone.others r other (sym (drops.words r apart) ∙ e)
  ];
}
  where
    now : Paged
    now = page_cut x home uid q (word_of x.ast uid q)

    drops : Drops x now home uid q
    drops = page_drops x home uid q (word_of x.ast uid q) refl named

-- some pages past it are dropped after the cut, or before
pub some_order : (x : Paged) (home : Home) (uid p at f from n : ℕ) → p < from → IsNamed x home uid → IsAlone x uid p f
    → pages_cut (cut_first x home uid p at (Leaving f)) home uid (range_with_len from n)
    ≡ cut_first (pages_cut x home uid (range_with_len from n)) home uid p at (Leaving f)
some_order x home uid p at f from zero lt named alone = refl
some_order x home uid p at f from (suc n) lt named alone =
    let ne : from ≢ p = λ e. (omega arith) in
    let apart : p ≢ from = λ e. (ne (sym e)) in
    let v = word_of x.ast uid from in
    let now = page_cut x home uid from v in
    cc (
      first_other x home uid p from at f alone.word apart named,
      one_order x home uid p from at f alone.word apart named v refl (alone.others from ne),
      some_order now home uid p at f (from + 1) n (omega arith) (page_drops x home uid from v refl named).named
          (alone_after x home uid p from f ne named alone),
    )

-- ---- pages that aren't stored

-- the words from a page on are `Null`
pub record IsNullFrom (x : Paged) (uid from : ℕ) : Type 0 where
  pub null : (q : ℕ) → from ≤ q → word_of x.ast uid q ≡ Null

null_cut : (x : Paged) (home : Home) (uid from n : ℕ) → IsNullFrom x uid from
    → pages_cut x home uid (range_with_len from n) ≡ x
null_cut x home uid from zero null = refl
null_cut x home uid from (suc n) null = cc (
  null.null from (omega arith),
  null_cut x home uid (from + 1) n (record { null = λ q le. null.null q (omega arith) }),
)

-- so it doesn't matter how many more are looked at
pub null_more : (x : Paged) (home : Home) (uid from n k : ℕ) → IsNamed x home uid → IsNullFrom x uid (from + n)
    → pages_cut x home uid (range_with_len from (n + k)) ≡ pages_cut x home uid (range_with_len from n)
null_more x home uid from zero k named null =
    rw zero-add (null_cut x home uid from k (record { null = λ q le. null.null q (omega arith) }))
null_more x home uid from (suc n) k named null =
    let v = word_of x.ast uid from in
    let drops = page_drops x home uid from v refl named in
    rw suc-add (null_more (page_cut x home uid from v) home uid (from + 1) n k drops.named
    (record { null = λ q le. drops.words q (λ e. (omega arith)) ∙ null.null q (omega arith) }))
