-- What pages that are cut off leave, exactly.
use Rattle.storage_ops.proofs.Prelude.{◌≡◌, ◌≢◌, ◌<◌, ◌≤◌, ◌+◌, ◌-◌, ◌/◌, ◌%◌, ℕ, suc, zero, Bool, true, false, eqb, List, [], ◌∷◌, ◌++◌, length, get_or, refl, sym, ap, ◌∙◌, arith, inl, inr, ◌↔◌, IsTrue, Result, Ok, list_all, range_with_len, ne_eqb, eqb_tells, AreZero, Reply, Node, AccountMaps, Recounts, count_of, Ptw, Leaving, Null, Out, IsActive, deactivated, Home, cut, dropped, erased, Plain, plain, words_in, is_away, place_of, word_of, worded, IsInactive, CountsOthers, Paged, cut_by, is_cleared, page_cleared, page_cut, paged, pages_cut, Erases, cut_at, pages_from, put_out, Storage, home_of, pages_in, and_parts, zero_word}
use Rattle.storage_ops.proofs.Dropped.{recount_here}

-- ---- one page

cut_away : (x : Paged) (home : Home) (uid p : ℕ) (w : Ptw) → is_away w ≡ true
    → record { pages = dropped x.pages home p w; ast = worded x.ast uid p Null; stored = x.stored - 1 }
    ≡ page_cut x home uid p w
cut_away x home uid p (Out r) away = refl
cut_away x home uid p (Leaving f) away = refl
cut_away x home uid p _ away = cc

-- a page on its way out, or on its record, is dropped
pub dropped_exactly : {D : Type 0} (drive : D → List (List ℕ)) (t n : Storage D) {uid : ℕ} (p : ℕ) {home : Home}
    → home ≡ home_of t.accounts uid → is_away (word_of t.segs.ast uid p) ≡ true
    → plain drive n.segs.pages ≡ dropped (plain drive t.segs.pages) home p (word_of t.segs.ast uid p)
    → n.segs.ast ≡ worded t.segs.ast uid p Null → Recounts t.accounts n.accounts uid (count_of t.accounts uid - 1)
    → paged drive n uid ≡ page_cut (paged drive t uid) (home_of t.accounts uid) uid p (word_of t.segs.ast uid p)
dropped_exactly drive t n {uid} p is away effect word re = grind (arith, recount_here, cut_away)

-- ---- several pages

pub cut_one_more : (x : Paged) (home : Home) (uid p : ℕ) (ps : List ℕ) → pages_cut x home uid (ps ++ p ∷ [])
    ≡ page_cut (pages_cut x home uid ps) home uid p (word_of (pages_cut x home uid ps).ast uid p)
cut_one_more x home uid p [] = refl
cut_one_more x home uid p (q ∷ ps) = cut_one_more (page_cut x home uid q (word_of x.ast uid q)) home uid p ps

range_more : (a n : ℕ) → range_with_len a (suc n) ≡ range_with_len a n ++ (a + n) ∷ []
range_more a zero = ap (λ (k : ℕ). k ∷ []) (omega arith)
range_more a (suc n) = (let same : a + 1 + n ≡ a + suc n = omega arith in cc (range_more (a + 1) n, same))

-- the pages from one up to the next to come
pub cut_next : (x : Paged) {y z : Paged} (home : Home) (uid from next : ℕ) → from ≤ next
    → y ≡ pages_cut x home uid (pages_from from next) → z ≡ page_cut y home uid next (word_of y.ast uid next)
    → z ≡ pages_cut x home uid (pages_from from (next + 1))
cut_next x home uid from next le done one =
    let long : next + 1 - from ≡ suc (next - from) = omega arith in
    let last : from + (next - from) ≡ next = omega arith in
    let more : pages_from from (next + 1) ≡ pages_from from next ++ next ∷ [] =
    cc (long, range_more from (next - from), last) in
    cc (one, done, cut_one_more x home uid next (pages_from from next), more)

pub none_from : (from : ℕ) → pages_from from from ≡ []
none_from from = ap (range_with_len from) (let n : from - from ≡ 0 = omega arith in n)

pub others_both : (a b c : AccountMaps) {uid : ℕ} → CountsOthers a b uid → CountsOthers b c uid → CountsOthers a c uid
others_both a b c x y s apart = y s apart ∙ x s apart

-- ---- the page that is cut

zeros_from : (ws : List ℕ) → list_all (λ w. eqb w 0) ws ≡ true → (k d : ℕ) → k < length ws → get_or ws k d ≡ 0
zeros_from [] h k d lt = absurd (omega arith)
zeros_from (w ∷ ws) h zero d lt = zero_word w (and_parts (eqb w 0) (list_all (λ v. eqb v 0) ws) h).0
zeros_from (w ∷ ws) h (suc k) d lt =
    zeros_from ws (and_parts (eqb w 0) (list_all (λ v. eqb v 0) ws) h).1 k d (omega arith)

zeros_to : (ws : List ℕ) → AreZero ws → list_all (λ w. eqb w 0) ws ≡ true
zeros_to [] h = refl
zeros_to (w ∷ ws) h = elim (eqb_tells w 0) [
  | inl e ↦ cc (e.0, zeros_to ws (λ k d lt. h (suc k) d (omega arith)))
  | inr n ↦ absurd (n.1 (h zero zero (omega arith)))
]

pub zeros_told : (r : Bool) (ws : List ℕ) → (IsTrue r ↔ AreZero ws) → r ≡ list_all (λ w. eqb w 0) ws
zeros_told true ws told = sym (zeros_to ws (told.0 refl))
zeros_told false ws told = by (list_all (λ w. eqb w 0) ws) refl
  where
    by : (b : Bool) → list_all (λ w. eqb w 0) ws ≡ b → false ≡ b
    by false e = refl
    by true e = cc (told.1 (zeros_from ws e))

pub cleared_exactly : (x : Paged) (at f : ℕ) (w : Ptw) → w ≡ Leaving f
    → record x { pages = cut x.pages f at } ≡ page_cleared x at w
cleared_exactly x at f w is = cc

pub cleared_told : (x : Paged) (next : Plain) (at f : ℕ) (w : Ptw) (r : Bool) → w ≡ Leaving f → next ≡ cut x.pages f at
    → (IsTrue r ↔ AreZero (words_in next f)) → r ≡ is_cleared x at w
cleared_told x next at f w r is effect told = zeros_told r (words_in next f) told ∙ rw (effect, is)

pub null_cleared : (x : Paged) (at : ℕ) (w : Ptw) → w ≡ Null → (x ≡ page_cleared x at w) × (false ≡ is_cleared x at w)
null_cleared x at w is = (cc, cc)

-- it is dropped where all its words are zeros then
pub cut_dropped : (x y z : Paged) (home : Home) (uid p at : ℕ) (w v : Ptw) → is_cleared x at w ≡ true
    → y ≡ page_cleared x at w → v ≡ w → z ≡ page_cut y home uid p v → z ≡ cut_by x home uid p at w
cut_dropped x y z home uid p at w v is done same one = cc

pub cut_kept : (x y : Paged) (home : Home) (uid p at : ℕ) (w : Ptw) → is_cleared x at w ≡ false
    → y ≡ page_cleared x at w → y ≡ cut_by x home uid p at w
cut_kept x y home uid p at w is done = done ∙ sym (rw is refl)

-- ---- at an offset

pub cut_evenly : (x : Paged) {z : Paged} (home : Home) (uid size offset : ℕ) → offset % 1024 ≡ 0
    → z ≡ pages_cut x home uid (pages_from (offset / 1024) size) → z ≡ cut_at x home uid size offset
cut_evenly x home uid size offset even done = done ∙ rw even

pub cut_oddly : (x : Paged) {y z : Paged} (home : Home) (uid size offset : ℕ) → offset % 1024 ≢ 0
    → y ≡ pages_cut x home uid (pages_from (offset / 1024 + 1) size)
    → z ≡ cut_by y home uid (offset / 1024) (offset % 1024) (word_of y.ast uid (offset / 1024))
    → z ≡ cut_at x home uid size offset
cut_oddly x home uid size offset odd past done = cc (ne_eqb (offset % 1024) 0 odd)

-- ---- the node that a path leads to

pub same_uid : (m n : Node) → ◌≡◌ {A = Result Node Reply} (Ok m) (Ok n) → m.uid ≡ n.uid
same_uid m n e = (let same : m ≡ n = cc in cc)

-- ---- a node is deleted

-- a segment whose pages were cut off is made inactive
pub put_out_exactly : {D : Type 0} (drive : D → List (List ℕ)) (t m n : Storage D) (uid place : ℕ) (home : Home)
    (size : ℕ) → paged drive m uid ≡ pages_cut (paged drive t uid) home uid (pages_from 0 size)
    → m.segs.ast.entries ≡ t.segs.ast.entries → place_of t.segs.ast.entries uid ≡ place
    → n ≡ record m { segs = record m.segs { ast = deactivated m.segs.ast place } }
    → paged drive n uid ≡ put_out (paged drive t uid) home uid size
put_out_exactly drive t m n uid place home size cut places at effect = grind arith

pub erased_exactly : {D : Type 0} {drive : D → List (List ℕ)} {t : Storage D} (m : Storage D) {n : Storage D} {uid : ℕ}
    → (IsActive t.segs.ast.entries uid → paged drive m uid
    ≡ put_out (paged drive t uid) (home_of t.accounts uid) uid (pages_in t.accounts.nodes uid))
    → (IsInactive t.segs.ast.entries uid → paged drive m uid ≡ paged drive t uid)
    → home_of m.accounts uid ≡ home_of t.accounts uid
    → plain drive n.segs.pages ≡ erased (plain drive m.segs.pages) (home_of m.accounts uid)
    → n.segs.ast ≡ m.segs.ast → Erases drive t n uid
erased_exactly {drive} {t} m {uid} out still home gone ast = grind arith
