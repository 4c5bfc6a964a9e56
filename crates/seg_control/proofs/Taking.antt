-- A page table whose pages are taken from a number on.
pub use Rattle.seg_control.proofs.Prelude.{ActiveSegs, Here, IsKept, IsMapOf, IsTableOf, Links, List, Null, Option, Out, Plain, Ptw, [], add-one, all_taken, ap, arith, frame_of, get_or-map, gone, has_record, inl, inr, is_out, length, length-map, length-set, map, ptw_at, refl, rules, set, set-get_or, suc, sym, table_at, taken_from, zero, ℕ, ◌+◌, ◌<◌, ◌∙◌, ◌∷◌, ◌≡◌, ◌≤◌, ◌⊎◌}
use Rattle.seg_control.proofs.Making.{kept_table, paged_words}
use Rattle.seg_control.proofs.Becoming.{retied}

taken_zero : (t : List Ptw) → taken_from 0 t ≡ map gone t
unfolding taken_from
taken_zero t = refl

taken_none : (n : ℕ) → taken_from n [] ≡ []
unfolding taken_from
taken_none zero = refl
taken_none (suc n) = refl

taken_more : (n : ℕ) (w : Ptw) (t : List Ptw) → taken_from (suc n) (w ∷ t) ≡ w ∷ taken_from n t
unfolding taken_from
taken_more n w t = refl

-- each word is as before, or that of a page that is taken
pub taken_word : (n : ℕ) (t : List Ptw) (q : ℕ) → (ptw_at (taken_from n t) q ≡ ptw_at t q)
    ⊎ (ptw_at (taken_from n t) q ≡ gone (ptw_at t q))
taken_word zero t q = inr (rw (taken_zero t) (get_or-map gone t q Null))
taken_word (suc n) [] q = inl (rw (taken_none (suc n)))
taken_word (suc n) (w ∷ t) zero = inl (rw (taken_more n w t))
taken_word (suc n) (w ∷ t) (suc q) = rw (taken_more n w t) (taken_word n t q)

pub taken_length : (n : ℕ) (t : List Ptw) → length (taken_from n t) ≡ length t
taken_length zero t = rw (taken_zero t, length-map t gone)
taken_length (suc n) [] = rw (taken_none (suc n))
taken_length (suc n) (w ∷ t) = rw (taken_more n w t) (ap suc (taken_length n t))

-- page p is taken, and then those after it
taken_suc : (p : ℕ) (t : List Ptw) → p < length t → taken_from (suc p) (set t p (gone (ptw_at t p))) ≡ taken_from p t
taken_suc p [] lt = absurd (omega arith)
taken_suc zero (w ∷ t) lt = rw (taken_more 0 (gone w) t, taken_zero t, taken_zero (w ∷ t))
taken_suc (suc p) (w ∷ t) lt =
    rw (taken_more (suc p) w (set t p (gone (ptw_at t p))), taken_more p w t) (cc (taken_suc p t (omega arith)))

pub taken_step : (p : ℕ) (t u : List Ptw) → p < length t → u ≡ set t p (gone (ptw_at t p)) → taken_from (p + 1) u
    ≡ taken_from p t
taken_step p t u lt is = rw (is, add-one) (taken_suc p t lt)

-- a word that is not in a frame stays
pub taken_skip : (p : ℕ) (t : List Ptw) → gone (ptw_at t p) ≡ ptw_at t p → t ≡ set t p (gone (ptw_at t p))
taken_skip p t e = cc (set-get_or t p Null)

pub taken_end : (p : ℕ) (t : List Ptw) → length t ≤ p → taken_from p t ≡ t
taken_end p [] le = taken_none p
taken_end zero (w ∷ t) le = absurd (omega arith)
taken_end (suc p) (w ∷ t) le = rw (taken_more p w t, taken_end p t (omega arith))

-- ---- what is kept

gone_frame : (w : Ptw) → frame_of (gone w) ≡ frame_of w
gone_frame (Here f) = refl
gone_frame _ = refl

gone_record : (w : Ptw) → has_record (gone w) ≡ has_record w
gone_record (Here f) = refl
gone_record _ = refl

gone_is_out : (w : Ptw) → is_out (gone w) ≡ is_out w
gone_is_out (Here f) = refl
gone_is_out _ = refl

gone_out : (w : Ptw) (r : ℕ) → gone w ≡ Out r → w ≡ Out r
gone_out (Here f) r e = cc
gone_out _ r e = e

-- what taking a page doesn't change in its word
alike : {X : Type 0} (look : Ptw → X) → ((w : Ptw) → look (gone w) ≡ look w) → (n : ℕ) (t : List Ptw) (q : ℕ)
    → look (ptw_at (taken_from n t) q) ≡ look (ptw_at t q)
alike look same n t q = elim (taken_word n t q) [ inl e ↦ ap look e | inr e ↦ ap look e ∙ same (ptw_at t q) ]

table_taken : {bound : List (Option (ℕ × ℕ))} {uid : ℕ} (n : ℕ) {t : List Ptw} → IsTableOf bound uid t
    → IsTableOf bound uid (taken_from n t)
table_taken n {t} k = record {
  named = λ f p e. alike frame_of gone_frame n t p ∙ k.named f p e;
  back = λ f p e. k.back f p (sym (alike frame_of gone_frame n t p) ∙ e);
}

map_taken : {places : List (Option ℕ)} (n : ℕ) {t : List Ptw} → IsMapOf places t → IsMapOf places (taken_from n t)
map_taken n {t} k = record {
  stored = λ p. k.stored p ∙ sym (alike has_record gone_record n t p);
  out = λ p r e. k.out p r (elim (taken_word n t p) [
    | inl same ↦ sym same ∙ e
    | inr same ↦ gone_out (ptw_at t p) r (cc)
  ]);
}

pub kept_taken : {now : Plain} {ast : ActiveSegs} {links : Links} (place from : ℕ) → IsKept now ast links
    → place < length ast.entries → IsKept now (all_taken ast place from) links
kept_taken {now} {ast} place from k within =
    let t : List Ptw = table_at ast.tables place in
    kept_table place (taken_from from t) k within (taken_length from t) (λ lt. paged_words place (taken_from from t)
    k.paged lt (λ uid e. table_taken from (k.paged.tables place uid e)) (λ uid home e tie. retied tie (omega (
      arith,
      taken_length from t,
    )) (table_taken from tie.table) (map_taken from tie.map)) (λ q e. elim (taken_word from t q) [
      | inl same ↦ same ∙ k.paged.blank place q e
      | inr same ↦ same ∙ ap gone (k.paged.blank place q e)
    ]) (λ q out. alike is_out gone_is_out from t q ∙ out))
