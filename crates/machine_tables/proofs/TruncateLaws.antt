-- What a truncation changes of a store, by page control, the active segments and one count.
use Rattle.machine_tables.proofs.Prelude.{◌≡◌, ◌≢◌, ◌-◌, ◌/◌, ◌%◌, ℕ, Bool, true, false, cond, length, List, [], ◌∷◌, Some, inl, inr, refl, ap, arith, cases_eq, eq-eqb, ne_eqb, get_or-set_same, count_of, look, with_value, length_with, look_with_other, bound_page, Ptw, Here, Leaving, Out, cut, frame_in, word_of, Paged, is_cleared, page_cut, pages_cut, with_cut, with_truncated, without_page, without_pages, pages_past, here_if, with_here, home_in, Storage, with_pages, page_referred, within_from}
use Rattle.machine_tables.proofs.OrderLaws.{cut_first}

-- what is told of a segment
abbrev pub told_of : Storage → ℕ → Paged
told_of st uid = record { pages = st.pages; ast = st.ast; stored = count_of st.accounts uid }

-- ---- one count

less_of : (ks vs : List ℕ) (u : ℕ) → look ks (with_value ks vs u (look ks vs u - 1)) u ≡ look ks vs u - 1
less_of ks vs u = by ks vs (look ks vs u) refl
  where
    -- the value that is put is told, where the uid has one
    by : (is ws : List ℕ) (n : ℕ) → look is ws u ≡ n → look is (with_value is ws u (n - 1)) u ≡ n - 1
    by (i ∷ is) (w ∷ ws) n e = elim (cases_eq i u) [
      | inl same ↦ simp (eq-eqb i u same)
      | inr other ↦ simp (ne_eqb i u other) (by is ws n (rw (ne_eqb i u other) at e))
    ]
    by is ws n e = omega arith

-- ---- what else stays

-- all but the frames, the volumes, the page tables and one count
pub record KeepsOthers (old now : Storage) (uid : ℕ) : Type 0 where
  pub nodes : now.accounts.nodes ≡ old.accounts.nodes
  pub entries : now.accounts.entries ≡ old.accounts.entries
  pub next : now.accounts.next ≡ old.accounts.next
  pub segments : now.accounts.segments ≡ old.accounts.segments
  pub long : length now.accounts.counts ≡ length old.accounts.counts
  pub counts : (s : ℕ) → s ≢ uid → count_of now.accounts s ≡ count_of old.accounts s
  pub links : now.links ≡ old.links
  pub whos : now.whos ≡ old.whos
  pub moving : now.moving ≡ old.moving

keeps_both : (a b c : Storage) (uid : ℕ) → KeepsOthers a b uid → KeepsOthers b c uid → KeepsOthers a c uid
keeps_both a b c uid x y = grind arith

-- ---- pages that are stored no more

without_told : (st : Storage) (uid p : ℕ) (w : Ptw)
    → told_of (without_page st uid p w) uid ≡ page_cut (told_of st uid) (home_in st uid) uid p w
without_told st uid p w = grind (arith, less_of)

without_keeps : (st : Storage) (uid p : ℕ) (w : Ptw) → KeepsOthers st (without_page st uid p w) uid
without_keeps st uid p w = grind (arith, length_with, look_with_other)

-- the home of a segment stays
home_same : (old now : Storage) (uid : ℕ) → KeepsOthers old now uid → home_in now uid ≡ home_in old uid
home_same old now uid keeps = cc (keeps.nodes, keeps.entries)

some_told : (st : Storage) (uid : ℕ) (ps : List ℕ)
    → told_of (without_pages st uid ps) uid ≡ pages_cut (told_of st uid) (home_in st uid) uid ps
some_told st uid [] = refl
some_told st uid (p ∷ ps) =
    let w = word_of st.ast uid p in
    let now = without_page st uid p w in
    cc (
      some_told now uid ps,
      home_same st now uid (without_keeps st uid p w),
      without_told st uid p w,
    )

some_keeps : (st : Storage) (uid : ℕ) (ps : List ℕ) → KeepsOthers st (without_pages st uid ps) uid
some_keeps st uid [] = assumption
some_keeps st uid (p ∷ ps) =
    let now = without_page st uid p (word_of st.ast uid p) in
    keeps_both st now (without_pages now uid ps) uid (without_keeps st uid p (word_of st.ast uid p))
    (some_keeps now uid ps)

-- ---- the page that is cut

-- no word of the page is that of a page in use, or on its record alone; and its frame is bound to it
pub record IsCuttable (st : Storage) (uid p : ℕ) (w : Ptw) : Type 0 where
  pub away : (f : ℕ) → w ≢ Here f
  pub inside : (r : ℕ) → w ≢ Out r
  pub bound : (f : ℕ) → w ≡ Leaving f → bound_page (frame_in st.pages f) ≡ Some (uid, p)

-- a reference leaves what a frame is bound to
bound_cut : (st : Storage) (f at uid p : ℕ) → bound_page (frame_in st.pages f) ≡ Some (uid, p)
    → bound_page (frame_in (cut st.pages f at) f) ≡ Some (uid, p)
bound_cut st f at uid p bound = grind (arith, get_or-set_same, within_from, page_referred)

-- both ends of a cut
module _ (st : Storage) (uid p at f : ℕ) (bound : bound_page (frame_in st.pages f) ≡ Some (uid, p)) where
  abbrev cleared : Storage
  cleared = with_pages st (cut st.pages f at)

  abbrev ends : Bool → Storage
  ends b = cond b (without_page cleared uid p (Leaving f)) (with_here cleared f)

  stays_is : with_here cleared f ≡ here_if cleared f (Some (uid, p))
  stays_is = ap (here_if cleared f) (bound_cut st f at uid p bound)

  leaving_told : (b : Bool) → is_cleared (told_of st uid) at (Leaving f) ≡ b
      → told_of (ends b) uid ≡ cut_first (told_of st uid) (home_in st uid) uid p at (Leaving f)
  leaving_told true e = rw e (without_told cleared uid p (Leaving f))
  leaving_told false e = rw (e, stays_is)

  leaving_keeps : (b : Bool) → KeepsOthers st (ends b) uid
  leaving_keeps true = assumption (without_keeps cleared uid p (Leaving f))
  leaving_keeps false = rw stays_is assumption

pub cut_told : (st : Storage) (uid p at : ℕ) (w : Ptw) → IsCuttable st uid p w
    → told_of (with_cut st uid p at w) uid ≡ cut_first (told_of st uid) (home_in st uid) uid p at w
cut_told st uid p at w h1 = grind (arith, leaving_told)

pub cut_keeps : (st : Storage) (uid p at : ℕ) (w : Ptw) → IsCuttable st uid p w
    → KeepsOthers st (with_cut st uid p at w) uid
cut_keeps st uid p at w h1 = grind (arith, leaving_keeps)

-- ---- the whole

module _ (st : Storage) (uid words : ℕ) where
  abbrev page : ℕ
  page = words / 1024

  abbrev at : ℕ
  at = words % 1024

  pub even_told : at ≡ 0 → told_of (with_truncated st uid words) uid
      ≡ pages_cut (told_of st uid) (home_in st uid) uid (pages_past st uid words)
  even_told even = rw (eq-eqb at 0 even) (some_told st uid (pages_past st uid words))

  pub odd_told : at ≢ 0 → IsCuttable st uid page (word_of st.ast uid page) → told_of (with_truncated st uid words) uid
      ≡ pages_cut (cut_first (told_of st uid) (home_in st uid) uid page at (word_of st.ast uid page))
      (home_in st uid) uid (pages_past st uid words)
  odd_told odd may = grind (arith, ne_eqb, some_told, home_same, cut_keeps, cut_told)

  pub truncated_keeps : (at ≢ 0 → IsCuttable st uid page (word_of st.ast uid page))
      → KeepsOthers st (with_truncated st uid words) uid
  truncated_keeps may = grind (arith, eq-eqb, some_keeps, ne_eqb, keeps_both, cut_keeps)
