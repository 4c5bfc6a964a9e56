-- A segment whose pages are copied is tied to its new home, with the words that it had.
pub use Rattle.page_control.proofs.Prelude.{AreZero, Here, Home, IsCopied, IsHomeFor, IsMapOf, IsTableOf, IsTied, KeepsTies, Leaving, List, None, Null, Option, Out, Plain, Ptw, Some, [], ap, arith, binding_at, bindings, disk_of, entry_at, ext_get_or, false, filed, frame_in, frame_of, get_or, has_record, inl, inr, is_binding, is_filed_at, is_modified, is_some, is_stored, length, map_at, none_there, not_none, off_and_on, plain, position, ptw_at, reads_of, records_in, refl, rehomed, rehomed_word, subst, suc, sym, within_from, words_at, words_filed, words_held, words_of_page, words_out, zero, ℕ, ◌<◌, ◌∙◌, ◌∷◌, ◌≡◌, ◌≤◌, ◌⊎◌}
pub use Rattle.page_control.proofs.Modified.{all_on, bindings_modified, found_at, frame_same, marks_modified, reads_modified, remarked, tie_of_home, ties_marked, words_by, words_marked, words_of_home}

-- ---- the page table

pub rehomed_length : (t : List Ptw) (places : List (Option ℕ)) → length (rehomed t places) ≡ length t
unfolding rehomed
rehomed_length [] places = refl
rehomed_length (w ∷ t) [] = ap suc (rehomed_length t [])
rehomed_length (w ∷ t) (place ∷ places) = ap suc (rehomed_length t places)

pub rehomed_at : (t : List Ptw) (places : List (Option ℕ)) (p : ℕ) → ptw_at (rehomed t places) p
    ≡ rehomed_word (ptw_at t p) (get_or places p None)
unfolding rehomed
rehomed_at (w ∷ t) [] zero = refl
rehomed_at (w ∷ t) [] (suc p) = rehomed_at t [] p
rehomed_at (w ∷ t) (place ∷ places) (suc p) = rehomed_at t places p
rehomed_at _ _ _ = refl

-- the words before page n name the records of the file map
pub record IsPartRehomed (old now : List Ptw) (places : List (Option ℕ)) (n : ℕ) : Type 0 where
  pub count : length now ≡ length old
  pub done : (p : ℕ) → p < n → ptw_at now p ≡ rehomed_word (ptw_at old p) (get_or places p None)
  pub left : (p : ℕ) → n ≤ p → ptw_at now p ≡ ptw_at old p

pub part_end : {old now : List Ptw} {places : List (Option ℕ)} {n : ℕ} → IsPartRehomed old now places n
    → length old ≤ n → now ≡ rehomed old places
part_end {old} {now} {places} part past_end =
    let count = part.count in
    ext_get_or Null now (rehomed old places) (count ∙ sym (rehomed_length old places))
    (λ i lt. part.done i (omega arith) ∙ sym (rehomed_at old places i))

-- a word names the frame that it named, and says as before whether the page has a record
frame_rehomed : (w : Ptw) (place : Option ℕ) → frame_of (rehomed_word w place) ≡ frame_of w
frame_rehomed (Out r) None = refl
frame_rehomed _ _ = refl

record_rehomed : (w : Ptw) (place : Option ℕ) → has_record (rehomed_word w place) ≡ has_record w
record_rehomed (Out r) None = refl
record_rehomed _ _ = refl

-- one that names a record names the one of the file map
out_rehomed : (w : Ptw) (place : Option ℕ) (r : ℕ) → is_some place ≡ has_record w → rehomed_word w place ≡ Out r
    → place ≡ Some r
out_rehomed (Out k) None r same is = cc
out_rehomed _ _ r same is = cc

-- the table is that of the segment still
table_rehomed : {bound : List (Option (ℕ × ℕ))} {uid : ℕ} {t : List Ptw} (places : List (Option ℕ))
    → IsTableOf bound uid t → IsTableOf bound uid (rehomed t places)
table_rehomed {t} places h =
    let same : (p : ℕ) → frame_of (ptw_at (rehomed t places) p) ≡ frame_of (ptw_at t p) =
    λ p. ap frame_of (rehomed_at t places p) ∙ frame_rehomed (ptw_at t p) (get_or places p None) in
    record { named = λ f p is. same p ∙ h.named f p is; back = λ f p is. h.back f p (sym (same p) ∙ is) }

-- and its words go by the other file map, where that names records for the same pages
map_rehomed : {places : List (Option ℕ)} (t : List Ptw)
    → ((p : ℕ) → is_some (get_or places p None) ≡ has_record (ptw_at t p)) → IsMapOf places (rehomed t places)
map_rehomed {places = places} t stored = record {
  stored = λ p. cc (stored p, rehomed_at t places p, record_rehomed (ptw_at t p) (get_or places p None));
  out = λ p r is. out_rehomed (ptw_at t p) (get_or places p None) r (stored p) (sym (rehomed_at t places p) ∙ is);
}

-- ---- the words

-- a page of a table is nowhere, on its record alone, or in a frame
word_cases : (w : Ptw) → ((f : ℕ) × (frame_of w ≡ Some f)) ⊎ ((has_record w ≡ false) ⊎ ((r : ℕ) × (w ≡ Out r)))
word_cases Null = inr (inl refl)
word_cases (Out r) = inr (inr (r, refl))
word_cases (Here f) = inl (f, refl)
word_cases (Leaving f) = inl (f, refl)

-- a page that is in no frame has the same words at both homes, once it is copied
out_same : {s : Plain} {uid : ℕ} {from to : Home} {t : List Ptw} (p : ℕ) → IsTied s uid from t → IsHomeFor s uid to t
    → IsCopied s t from to (length t) → ((f : ℕ) → frame_of (ptw_at t p) ≡ Some f → ⊥)
    → words_out s to p ≡ words_out s from p
out_same {s = s} {from = from} {to = to} {t = t} p tie home copied away = elim (word_cases (ptw_at t p)) [
  | inl in_frame ↦ absurd (away in_frame.0 in_frame.1)
  | inr (inl null) ↦ (let none : filed s from p ≡ None = none_there (filed s from p) (tie.map.stored p ∙ null) in
      let also : filed s to p ≡ None = none_there (filed s to p) (home.stored p ∙ null) in
      cc)
  | inr (inr out) ↦ copied.words p out.0
      (within_from t p Null (λ e. (let off : Null ≡ Out out.0 = sym e ∙ out.1 in cc))) out.1
]

held_same : (frames : List (List ℕ)) (disk now : List (List ℕ)) (place other : Option ℕ) {f : Option ℕ} → (f ≡ None →
    words_filed now other ≡ words_filed disk place) → words_held frames now other f ≡ words_held frames disk place f
held_same frames disk now place other {f = None} same = same refl
held_same frames disk now place other {f = (Some f)} same = refl

-- the words of each page at the new home are those that it had
words_moved : {s : Plain} {uid : ℕ} {from to : Home} {t : List Ptw} (p : ℕ) → IsTied s uid from t
    → IsHomeFor s uid to t → IsCopied s t from to (length t) → words_at s uid to p ≡ words_at s uid from p
unfolding words_of_page
words_moved {s = s} {uid = uid} {from = from} {to = to} {t = t} p tie home copied =
    held_same s.frames (disk_of s from.volume)
    (disk_of s to.volume) (filed s from p) (filed s to p) (λ none. out_same p tie home copied (λ f named.
    not_none (position (is_binding uid p) (bindings s.core)) f none (bound_at f (tie.table.back f p named))))
  where
    bound_at : (f : ℕ) → binding_at (bindings s.core) f ≡ Some (uid, p)
        → position (is_binding uid p) (bindings s.core) ≡ Some f
    bound_at f here = found_at (bindings s.core) uid p f here (λ g there.
        frame_same (frame_of (ptw_at t p)) g f (tie.table.named g p there) (tie.table.named f p here))

pub words_rehomed : {s : Plain} {uid : ℕ} {from to : Home} {t : List Ptw} (p : ℕ) → IsTied s uid from t → IsHomeFor s
    uid to t → IsCopied s t from to (length t) → words_at (remarked s uid) uid to p ≡ words_at s uid from p
words_rehomed {s} {uid} {from} {to} {t} p tie home copied =
    words_by s (remarked s uid) uid to p (bindings_modified s.core uid) refl refl refl ∙ words_moved p tie home copied

-- ---- the tie

stored_moved : (s : Plain) (from to : Home) (p : ℕ) → is_some (get_or (map_at s.vtocs to) p None) ≡ is_some (get_or
    (map_at s.vtocs from) p None) → is_stored s to p ≡ is_stored s from p
unfolding is_filed_at
stored_moved s from to p same = same

pub tie_rehomed : {s : Plain} {uid : ℕ} {from to : Home} {t : List Ptw} → IsTied s uid from t → IsHomeFor s uid to t
    → IsCopied s t from to (length t) → IsTied (remarked s uid) uid to (rehomed t (map_at s.vtocs to))
tie_rehomed {s = s} {uid = uid} {from = from} {to = to} {t = t} tie home copied = record {
  volume = home.volume;
  used = home.used;
  pages = rw (rehomed_length t (map_at s.vtocs to)) tie.pages;
  table = rw (bindings_modified s.core uid) (table_rehomed (map_at s.vtocs to) tie.table);
  map = map_rehomed t home.stored;
  records = tie.records;
  clean = λ f p off at. absurd (off_and_on (is_modified (frame_in (remarked s uid) f)) off (all_on s f
      (ap (λ (b : List (Option (ℕ × ℕ))). binding_at b f) (sym (bindings_modified s.core uid)) ∙ at)));
  zeros = λ p on all. rw (bindings_modified s.core uid) (tie.zeros p (sym (stored_moved s from to p (home.stored p ∙ sym
      (tie.map.stored p))) ∙ on) (subst AreZero (words_rehomed p tie home copied) all));
}

-- what the steps of `rehome` give
pub record Rehomes (s now : Plain) (t u : List Ptw) (uid : ℕ) (home : Home) : Type 0 where
  pub effect : now ≡ remarked s uid
  pub words : u ≡ rehomed t (map_at s.vtocs home)
  pub table : IsTableOf (bindings s.core) uid t
  pub fits : IsHomeFor s uid home t

module _ {s now : Plain} {t u : List Ptw} {uid : ℕ} {home : Home} (r : Rehomes s now t u uid home) where
  pub size_rehomed : length u ≡ length t
  size_rehomed = cc (rehomed_length t (map_at s.vtocs home))

  pub word_rehomed : (p : ℕ) → ptw_at u p ≡ rehomed_word (ptw_at t p) (get_or (map_at s.vtocs home) p None)
  word_rehomed p = rw r.words (rehomed_at t (map_at s.vtocs home) p)

  pub table_now : IsTableOf (bindings now.core) uid u
  table_now = rw (r.effect, r.words, bindings_modified s.core uid) (table_rehomed (map_at s.vtocs home) r.table)

  pub map_now : IsMapOf (map_at now.vtocs home) u
  map_now = rw (r.effect, r.words) (map_rehomed t r.fits.stored)

  pub tie_moved : (from : Home) → IsTied s uid from t → IsCopied s t from home (length t) → IsTied now uid home u
  tie_moved from tie copied = rw (r.effect, r.words) (tie_rehomed tie r.fits copied)

  pub page_moved : (from : Home) (p : ℕ) → IsTied s uid from t → IsCopied s t from home (length t)
      → words_at now uid home p ≡ words_at s uid from p
  page_moved from p tie copied = rw r.effect (words_rehomed p tie r.fits copied)

  pub words_same : words_at now ≡ words_at s
  words_same = rw r.effect (words_marked s (remarked s uid) (bindings_modified s.core uid) refl refl refl)

  pub ties_same : KeepsTies s now
  ties_same = rw r.effect (ties_marked (marks_modified s uid))

  pub bindings_same : bindings now.core ≡ bindings s.core
  bindings_same = rw r.effect (bindings_modified s.core uid)

  pub reads_same : reads_of now.core ≡ reads_of s.core
  reads_same = rw r.effect (reads_modified s.core uid)
