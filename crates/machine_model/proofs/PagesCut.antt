-- Pages are cut off one after the other: which frames are bound then, which pages are being read into them, and which
-- words the pages have.
use Rattle.machine_model.proofs.Basics.{cases_Bool, eqb-true, eqb_self, ◌≡◌, ◌≢◌, ◌<◌, ℕ, Bool, true, false, cond, eqb, List, [], ◌∷◌, length, Option, None, ◌⊎◌, inl, inr, refl, sym, ◌∙◌, eqb_tells, length-set, reads_of, Ptw, binding_at, bindings, place_of, word_of, read_at, has, at_put_two, without_page, without_pages, Storage, has_head, has_tail, not_both, Frame as frame, Ptw as ptw, put_two_here, by_places, bound_put, reads_put}
use Rattle.machine_model.proofs.TakeSeen.{words_put}

-- what is seen of a store
abbrev pub bound_in : Storage → ℕ → Option (ℕ × ℕ)
bound_in st f = binding_at (bindings st.pages.core) f

abbrev pub read_in : Storage → ℕ → Option (ℕ × ℕ)
read_in st f = read_at (reads_of st.pages.core) f

abbrev pub word_in : Storage → ℕ → ℕ → Ptw
word_in st v q = word_of st.ast v q

-- as many page tables as places, and each word that leaves a frame names one that is there
pub record HasPlaces (st : Storage) : Type 0 where
  pub tables : length st.ast.tables ≡ length st.ast.entries
  pub within : (v q f : ℕ) → word_in st v q ≡ ptw.Leaving f → f < length st.pages.core.frames

-- ---- one page

-- a word leaves a frame
abbrev pub is_left_by : Ptw → ℕ → Bool
is_left_by (ptw.Leaving f) g = eqb g f
is_left_by _ g = false

-- page p of segment u, whose word this was, is cut off
pub record IsCutOff (old now : Storage) (u p : ℕ) (w : Ptw) : Type 0 where
  pub bound : (g : ℕ) → bound_in now g ≡ cond (is_left_by w g) None (bound_in old g)
  pub reads : (g : ℕ) → read_in now g ≡ cond (is_left_by w g) None (read_in old g)
  pub words : (v q : ℕ) → word_in now v q ≡ at_put_two (λ x y. word_in old x y) u p ptw.Null v q
  pub places : now.ast.entries ≡ old.ast.entries
  pub links : now.links ≡ old.links
  pub frames : length now.pages.core.frames ≡ length old.pages.core.frames
  pub tables : length now.ast.tables ≡ length old.ast.tables

pub put_two_other : {A : Type 0} (f : ℕ → ℕ → A) (k n : ℕ) (x : A) (i j : ℕ) → (i ≡ k → j ≡ n → ⊥)
    → at_put_two f k n x i j ≡ f i j
put_two_other f k n x i j h = by_places (λ y. y ≡ f i j) f k n x i j (λ a b. absurd (h a b)) (λ m. refl)

null_put : (st : Storage) (u p : ℕ) → word_in st u p ≡ ptw.Null → (v q : ℕ)
    → word_in st v q ≡ at_put_two (λ x y. word_in st x y) u p ptw.Null v q
null_put st u p e v q = by_places (λ (x : Ptw). word_in st v q ≡ x) (λ x y. word_in st x y) u p ptw.Null v q
    (λ a b. (λ i. word_in st (a i) (b i)) ∙ e) (λ m. refl)

pub page_cut_off : {st : Storage} (u p : ℕ) (w : Ptw) → HasPlaces st → word_in st u p ≡ w
    → IsCutOff st (without_page st u p w) u p w
page_cut_off {st} u p ptw.Null has_places e = assumption (null_put st u p e)
page_cut_off {st} u p (ptw.Leaving f) has_places e = record {
  bound = bound_put st.pages.core f frame.Free (has_places.within u p f e);
  reads = reads_put st.pages.core f frame.Free (has_places.within u p f e);
  words = words_put st.ast u p ptw.Null has_places.tables (λ i. (let no : ptw.Leaving f ≡ ptw.Null = sym e ∙ i in cc));
  places = refl;
  links = refl;
  frames = length-set st.pages.core.frames f frame.Free;
  tables = length-set st.ast.tables (place_of st.ast.entries u) _;
}
page_cut_off {st} u p w has_places e = record {
  bound = λ g. refl;
  reads = λ g. refl;
  words = words_put st.ast u p ptw.Null has_places.tables (λ i. (let no : w ≡ ptw.Null = sym e ∙ i in cc));
  places = refl;
  links = refl;
  frames = refl;
  tables = length-set st.ast.tables (place_of st.ast.entries u) _;
}

-- a word that leaves a frame then left it before
cut_leaving : {old now : Storage} {u p : ℕ} {w : Ptw} (v q f : ℕ) → IsCutOff old now u p w
    → word_in now v q ≡ ptw.Leaving f → word_in old v q ≡ ptw.Leaving f
cut_leaving {old} {u} {p} v q f c e = by_places (λ (x : Ptw). x ≡ ptw.Leaving f → word_in old v q ≡ ptw.Leaving f)
    (λ x y. word_in old x y) u p ptw.Null v q
    (λ a b i. absurd (let no : ptw.Null ≡ ptw.Leaving f = i in cc)) (λ m i. i) (sym (c.words v q) ∙ e)

pub cut_places : {old now : Storage} {u p : ℕ} {w : Ptw} → HasPlaces old → IsCutOff old now u p w → HasPlaces now
cut_places h c = record { tables = cc; within = λ v q f e. rw c.frames (h.within v q f (cut_leaving v q f c e)) }

-- ---- many pages

-- these pages of segment u are cut off
pub record AreCutOff (old now : Storage) (u : ℕ) (ps : List ℕ) : Type 0 where
  -- the word of any other page is as it was
  pub words : (v q : ℕ) → (v ≡ u → has ps q ≡ false) → word_in now v q ≡ word_in old v q
  pub nulls : (q : ℕ) → has ps q ≡ true → word_in now u q ≡ ptw.Null
  -- a frame that none of them leaves is as it was, and one that one of them leaves is free
  pub bound : (g : ℕ) → ((q : ℕ) → has ps q ≡ true → word_in old u q ≢ ptw.Leaving g) → bound_in now g ≡ bound_in old g
  pub left : (g q : ℕ) → has ps q ≡ true → word_in old u q ≡ ptw.Leaving g → bound_in now g ≡ None
  pub free : (g : ℕ) → bound_in old g ≡ None → bound_in now g ≡ None
  pub reads : (g : ℕ) → ((q : ℕ) → word_in old u q ≡ ptw.Leaving g → read_in old g ≡ None)
      → read_in now g ≡ read_in old g
  pub places : now.ast.entries ≡ old.ast.entries
  pub links : now.links ≡ old.links

leaves_is : (w : Ptw) (g : ℕ) → is_left_by w g ≡ true → w ≡ ptw.Leaving g
leaves_is (ptw.Leaving f) g h = cc (eqb-true g f h)
leaves_is _ g h = cc

is_leaves : (w : Ptw) (g : ℕ) → w ≡ ptw.Leaving g → is_left_by w g ≡ true
is_leaves w g e = cc (eqb_self g)

has_parts : (p : ℕ) (ps : List ℕ) (q : ℕ) → has (p ∷ ps) q ≡ false → (p ≢ q) × (has ps q ≡ false)
has_parts p ps q h = elim (eqb_tells p q) [
  | inl e ↦ absurd (let no : true ≡ false = sym (cc) ∙ h in cc)
  | inr n ↦ (n.1, cc)
]

-- it is the first, or one of the others
has_cases : (p : ℕ) (ps : List ℕ) (q : ℕ) → has (p ∷ ps) q ≡ true → (has ps q ≡ true) ⊎ ((p ≡ q) × (has ps q ≡ false))
has_cases p ps q h = elim (cases_Bool (has ps q)) [
  | inl e ↦ inl e
  | inr e ↦ elim (eqb_tells p q) [ inl i ↦ inr (i.1, e) | inr n ↦ absurd (not_both h (rw (n.0, e) refl)) ]
]

module _ {st : Storage} {u p : ℕ} {ps : List ℕ} {now : Storage}
    (one : IsCutOff st (without_page st u p (word_in st u p)) u p (word_in st u p))
    (rest : AreCutOff (without_page st u p (word_in st u p)) now u ps) where
  abbrev mid : Storage
  mid = without_page st u p (word_in st u p)

  other_word : (v q : ℕ) → (v ≡ u → q ≡ p → ⊥) → word_in mid v q ≡ word_in st v q
  other_word v q n = one.words v q ∙ put_two_other (λ x y. word_in st x y) u p ptw.Null v q n

  was_leaving : (q g : ℕ) → word_in mid u q ≡ ptw.Leaving g → word_in st u q ≡ ptw.Leaving g
  was_leaving q g e = cut_leaving u q g one e

  bound_by : (g : ℕ) {b : Bool} → is_left_by (word_in st u p) g ≡ b → bound_in mid g ≡ cond b None (bound_in st g)
  bound_by g e = cc (one.bound g)

  free_mid : (g : ℕ) → bound_in st g ≡ None → bound_in mid g ≡ None
  free_mid g e = elim (cases_Bool (is_left_by (word_in st u p) g)) [ inl i ↦ bound_by g i | inr i ↦ bound_by g i ∙ e ]

  bound_mid : (g : ℕ) → word_in st u p ≢ ptw.Leaving g → bound_in mid g ≡ bound_in st g
  bound_mid g n = elim (cases_Bool (is_left_by (word_in st u p) g)) [
    | inl i ↦ absurd (n (leaves_is (word_in st u p) g i))
    | inr i ↦ bound_by g i
  ]

  reads_mid : (g : ℕ) → ((q : ℕ) → word_in st u q ≡ ptw.Leaving g → read_in st g ≡ None) → read_in mid g ≡ read_in st g
  reads_mid g h = one.reads g ∙ (elim (cases_Bool (is_left_by (word_in st u p) g)) [
    | inl i ↦ rw i (sym (h p (leaves_is (word_in st u p) g i)))
    | inr i ↦ rw i refl
  ])

  next_cut_off : AreCutOff st now u (p ∷ ps)
  next_cut_off = record {
    words = λ v q n. rest.words v q (λ e. (has_parts p ps q (n e)).1)
        ∙ other_word v q (λ a b. (has_parts p ps q (n a)).0 (sym b));
    nulls = λ q i. elim (has_cases p ps q i) [
      | inl e ↦ rest.nulls q e
      | inr e ↦ rest.words u q (λ x. e.1) ∙ (cc (
        e.0,
        (one.words u p ∙ put_two_here (λ x y. word_in st x y) u p ptw.Null),
      ))
    ];
    bound = λ g n. rest.bound g (λ q i e. n q (has_tail p ps q i) (was_leaving q g e))
        ∙ bound_mid g (n p (has_head p ps));
    left = λ g q i e. elim (eqb_tells p q) [
      | inl same ↦ rest.free g (bound_by g (is_leaves (word_in st u p) g (cc)))
      | inr other ↦ elim (has_cases p ps q i) [
        | inl y ↦ rest.left g q y (other_word u q (λ a b. other.1 (sym b)) ∙ e)
        | inr y ↦ absurd (other.1 y.0)
      ]
    ];
    free = λ g e. rest.free g (free_mid g e);
    reads = λ g h. rest.reads g (λ q e. reads_mid g h ∙ h q (was_leaving q g e)) ∙ reads_mid g h;
    places = cc;
    links = cc;
  }

-- Pages are cut off, one after the other.
pub pages_cut_off : (st : Storage) (u : ℕ) (ps : List ℕ) → HasPlaces st → AreCutOff st (without_pages st u ps) u ps
pages_cut_off st u [] h = record {
  words = λ v q n. refl;
  nulls = λ q i. cc;
  bound = λ g n. refl;
  left = λ g q i e. cc;
  free = λ g e. e;
  reads = λ g i. refl;
  places = refl;
  links = refl;
}
pages_cut_off st u (p ∷ ps) h = let one = page_cut_off u p (word_in st u p) h refl in next_cut_off one
    (pages_cut_off (without_page st u p (word_in st u p)) u ps (cut_places h one))
