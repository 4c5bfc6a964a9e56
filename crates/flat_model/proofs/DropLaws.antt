-- Pages of a segment that are stored no more.
use Rattle.flat_model.proofs.Prelude.{common_steps, ◌≡◌, ℕ, ◌+◌, ◌/◌, ◌<◌, ◌≤◌, Bool, true, false, not, cond, eqb, ◌&&◌, ◌||◌, List, [], ◌∷◌, filter, refl, sym, ap, ◌∙◌, arith, inl, inr, nat_le, nat_lt, cases_eq, nat_tests, without_pages, is_page, is_stored, without_stored, Store, eqb_turned}

-- two tests for the same page
pub flip_page : (u q v r : ℕ) → is_page v r (u, q) ≡ (eqb v u && eqb r q)
flip_page u q v r = rw (eqb_turned u v, eqb_turned q r) refl

same_store : (s : Store) (u : ℕ) (t r : ℕ → Bool)
    → ((v o : ℕ) → cond (eqb v u && t (o / 1024)) 0 (s.words v o) ≡ cond (eqb v u && r (o / 1024)) 0 (s.words v o))
    → without_stored s.stored u t ≡ without_stored s.stored u r → without_pages s u t ≡ without_pages s u r
same_store s u t r words stored = grind (arith, nat_tests, common_steps)

-- the same pages are listed where two tests agree on what is stored
pub stored_same : (xs : List (ℕ × ℕ)) (u : ℕ) (t r : ℕ → Bool) → ((q : ℕ) → is_stored xs u q ≡ true → t q ≡ r q)
    → without_stored xs u t ≡ without_stored xs u r
unfolding without_stored
stored_same [] u t r agree = refl
stored_same (x ∷ xs) u t r agree = ap (λ (z : Bool). cond (not z) (x ∷ filter (λ y. not (eqb y.0 u && t y.1)) xs)
    (filter (λ y. not (eqb y.0 u && t y.1)) xs)) (here (eqb x.0 u) refl)
    ∙ ap (λ (ys : List (ℕ × ℕ)). cond (not (eqb x.0 u && r x.1)) (x ∷ ys) ys)
    (stored_same xs u t r (λ q on. agree q (later (is_page u q x) (is_stored xs u q) on)))
  where
    later : (a b : Bool) → b ≡ true → (a || b) ≡ true
    later true b h = refl
    later false b h = h

    here : (z : Bool) → eqb x.0 u ≡ z → (z && t x.1) ≡ (z && r x.1)
    here true e = grind (arith, nat_tests, common_steps)
    here false e = refl

-- the words of pages that aren't stored are 0
abbrev pub IsBlank : Store → Type 0
IsBlank s = (u o : ℕ) → is_stored s.stored u (o / 1024) ≡ false → s.words u o ≡ 0

-- where two tests agree on the stored pages of a segment, the stores without those that pass are one
pub agreed : (s : Store) (u : ℕ) (t r : ℕ → Bool) → IsBlank s → ((q : ℕ) → is_stored s.stored u q ≡ true → t q ≡ r q)
    → without_pages s u t ≡ without_pages s u r
agreed s u t r blank agree = same_store s u t r words (stored_same s.stored u t r agree)
  where
    words : (v o : ℕ) → cond (eqb v u && t (o / 1024)) 0 (s.words v o) ≡ cond (eqb v u && r (o / 1024)) 0 (s.words v o)
    words v o = by_page (is_stored s.stored u (o / 1024)) refl
      where
        all_zero : (a b w : ℕ) (c d : Bool) → w ≡ 0 → cond c 0 w ≡ cond d 0 w
        all_zero a b w true true e = refl
        all_zero a b w true false e = sym e
        all_zero a b w false true e = e
        all_zero a b w false false e = refl

        by_page : (z : Bool) → is_stored s.stored u (o / 1024) ≡ z
            → cond (eqb v u && t (o / 1024)) 0 (s.words v o) ≡ cond (eqb v u && r (o / 1024)) 0 (s.words v o)
        by_page true on = ap (λ (z : Bool). cond (eqb v u && z) 0 (s.words v o)) (agree (o / 1024) on)
        by_page false off = elim (cases_eq v u) [
          | inl same ↦ all_zero 0 0 (s.words v o) (eqb v u && t (o / 1024)) (eqb v u && r (o / 1024))
              (ap (λ (x : ℕ). s.words x o) same ∙ blank u o off)
          | inr other ↦ (let apart : eqb v u ≡ false = grind (arith, nat_tests) in rw apart refl)
        ]

-- two removals are one
fused_step : (u : ℕ) (t r : ℕ → Bool) (a b c : Bool) (x : ℕ × ℕ) (ys zs : List (ℕ × ℕ))
    → filter (λ y. not (eqb y.0 u && r y.1)) ys ≡ zs → eqb x.0 u ≡ a → t x.1 ≡ b → r x.1 ≡ c
    → filter (λ y. not (eqb y.0 u && r y.1)) (cond (not (a && b)) (x ∷ ys) ys) ≡ cond (not (a && (b || c))) (x ∷ zs) zs
fused_step u t r true true c x ys zs ih e f g = ih
fused_step u t r true false true x ys zs ih e f g = rw (e, g) ih
fused_step u t r true false false x ys zs ih e f g = rw (e, g) (ap (λ (l : List (ℕ × ℕ)). x ∷ l) ih)
fused_step u t r false b c x ys zs ih e f g = rw e (ap (λ (l : List (ℕ × ℕ)). x ∷ l) ih)

pub stored_fused : (xs : List (ℕ × ℕ)) (u : ℕ) (t r : ℕ → Bool)
    → without_stored (without_stored xs u t) u r ≡ without_stored xs u (λ q. t q || r q)
unfolding without_stored
stored_fused [] u t r = refl
stored_fused (x ∷ xs) u t r = fused_step u t r (eqb x.0 u) (t x.1) (r x.1) x (filter (λ y. not (eqb y.0 u && t y.1)) xs)
    (filter (λ y. not (eqb y.0 u && (t y.1 || r y.1))) xs) (stored_fused xs u t r) refl refl refl

pub fused : (s : Store) (u : ℕ) (t r : ℕ → Bool)
    → without_pages (without_pages s u t) u r ≡ without_pages s u (λ q. t q || r q)
fused s u t r = grind (arith, nat_tests, common_steps, stored_fused)

all_stay : (xs : List (ℕ × ℕ)) (u : ℕ) → without_stored xs u (λ q. false) ≡ xs
unfolding without_stored
all_stay [] u = refl
all_stay (x ∷ xs) u = grind (arith, nat_tests, common_steps, all_stay xs u)

-- nothing is removed
pub none_removed : (s : Store) (u : ℕ) (t : ℕ → Bool) → IsBlank s
    → ((q : ℕ) → is_stored s.stored u q ≡ true → t q ≡ false) → without_pages s u t ≡ s
none_removed s u t blank off = grind (arith, nat_tests, common_steps, agreed, all_stay s.stored u)

-- a page that isn't stored
pub none_missing : (s : Store) (u q : ℕ) → IsBlank s → is_stored s.stored u q ≡ false
    → without_pages s u (λ r. eqb r q) ≡ s
none_missing s u q blank off = grind (arith, nat_tests, common_steps, none_removed)

-- ---- the pages from one on, one after the other

abbrev pub between : ℕ → ℕ → ℕ → Bool
between from page q = nat_le from q && nat_lt q page

pub none_between : (s : Store) (u from : ℕ) → IsBlank s → without_pages s u (between from from) ≡ s
none_between s u from blank = none_removed s u (between from from) blank (λ q on. grind (arith, nat_tests))

pub more_between : (s : Store) (u from page : ℕ) → from ≤ page
    → without_pages (without_pages s u (between from page)) u (λ q. eqb q page)
    ≡ without_pages s u (between from (page + 1))
more_between s u from page le = fused s u (between from page) (λ q. eqb q page)
    ∙ ap (without_pages s u) (λ i. λ q. same q i)
  where
    same : (q : ℕ) → ((nat_le from q && nat_lt q page) || eqb q page) ≡ (nat_le from q && nat_lt q (page + 1))
    same q = grind (arith, nat_tests)

pub all_between : (s : Store) (u from page : ℕ) → IsBlank s → ((q : ℕ) → is_stored s.stored u q ≡ true → q < page)
    → without_pages s u (between from page) ≡ without_pages s u (λ q. nat_le from q)
all_between s u from page blank within = grind (arith, nat_tests, common_steps, agreed)
