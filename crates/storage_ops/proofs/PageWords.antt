-- One word of a page in a frame is written.
use Rattle.storage_ops.proofs.Prelude.{◌≡◌, ◌≢◌, ℕ, ◌+◌, ◌*◌, ◌<◌, ◌/◌, ◌%◌, true, cond, eqb, ◌&&◌, List, length, get_or, set, Some, refl, sym, ap, ◌∙◌, arith, inl, inr, cases_eq, ne_eqb, eq-eqb, get_or-set_other, get_or-set_same, same_Some, get_or-map, Plan, AccountMaps, is_stored, with_word, written, Store, with_old, Free, bound_page, frame_at, is_bound, Who, ActiveSegs, IsActive, table_at, Home, Plain, binding_at, bindings, number_in, plain, words_in, changed_at, changed_page, words_at, IsTableOf, Links, Control, word_of, IsKept, IsStore, Shows, Storage, home_of, is_filed, is_there, picture, and_false, Tied_uid_in as uid_in, bound_to}
use Rattle.storage_ops.proofs.Paged.{active_tie, picture_there, word_filed, framed_recorded}
use Rattle.storage_ops.proofs.PagesLess.{words_bound}

-- a bound frame has the page of an active segment, whose page table names the frame
module _ {now : Plain} {ast : ActiveSegs} {links : Links} (kept : IsKept now ast links) (f : ℕ)
    (bound : is_bound (frame_at now.core f) ≡ true) where
  binding : binding_at (bindings now.core) f ≡ Some (uid_in (frame_at now.core f), number_in (frame_at now.core f))
  binding = get_or-map bound_page now.core.frames f Free ∙ bound_to (frame_at now.core f) bound

  pub bound_active : IsActive ast.entries (uid_in (frame_at now.core f))
  bound_active = kept.paged.bound f (uid_in (frame_at now.core f)) (number_in (frame_at now.core f)) binding

  pub bound_table : IsTableOf (bindings now.core) (uid_in (frame_at now.core f)) (table_at ast.tables bound_active.0)
  bound_table = kept.paged.tables bound_active.0 (uid_in (frame_at now.core f)) bound_active.1

  -- and the words of that page, wherever it is at home
  pub bound_words : (home : Home) → words_at now (uid_in (frame_at now.core f)) home (number_in (frame_at now.core f))
      ≡ words_in now f
  bound_words home = words_bound now (uid_in (frame_at now.core f)) (number_in (frame_at now.core f)) f home binding
      (λ g e. same_Some g f (sym (bound_table.named g (number_in (frame_at now.core f)) e)
      ∙ bound_table.named f (number_in (frame_at now.core f)) binding))

-- and the page is stored
pub bound_filed : {now : Plain} {ast : ActiveSegs} {links : Links} {a : AccountMaps} {whos : List Who}
    → IsKept now ast links → IsStore now ast links a whos → (f : ℕ) → is_bound (frame_at now.core f) ≡ true
    → is_filed a now.vtocs (uid_in (frame_at now.core f)) (number_in (frame_at now.core f)) ≡ true
bound_filed {now} {ast} {links} {a} {whos} kept h f bound =
    let uid = uid_in (frame_at now.core f) in
    let number = number_in (frame_at now.core f) in
    let active = bound_active kept f bound in
    word_filed kept h active number ∙ framed_recorded (word_of ast uid number)
    ((active_tie kept h active).table.named f number (binding kept f bound))

pub same_page : (a : AccountMaps) (image next : ℕ → Home → ℕ → List ℕ) (u q : ℕ)
    → next u (home_of a u) q ≡ image u (home_of a u) q → picture a next u q ≡ picture a image u q
unfolding picture
same_page a image next u q e = cc

changed_here : (old : ℕ → ℕ → List ℕ) (u p : ℕ) {ws : List ℕ} → changed_at old u p ws u p ≡ ws
unfolding changed_at
changed_here old u p = rw (eq-eqb u u refl, eq-eqb p p refl) refl

changed_uid : (old : ℕ → ℕ → List ℕ) (u p : ℕ) (ws : List ℕ) (v q : ℕ) → v ≢ u → changed_at old u p ws v q ≡ old v q
unfolding changed_at
changed_uid old u p ws v q ne = rw (ne_eqb u v (λ e. ne (sym e))) refl

changed_number : (old : ℕ → ℕ → List ℕ) (u p : ℕ) (ws : List ℕ) (v q : ℕ) → q ≢ p → changed_at old u p ws v q ≡ old v q
unfolding changed_at
changed_number old u p ws v q ne = rw (ne_eqb p q (λ e. ne (sym e)), and_false (eqb u v)) refl

-- the words of one page are others, and those of each other page as before
pub record IsPageChanged (a : AccountMaps) (image next : ℕ → Home → ℕ → List ℕ) (uid p : ℕ)
    (old new : List ℕ) : Type 0 where
  pub before : picture a image uid p ≡ old
  pub here : picture a next uid p ≡ new
  pub pages : (q : ℕ) → q ≢ p → picture a next uid q ≡ picture a image uid q
  pub others : (u q : ℕ) → u ≢ uid → picture a next u q ≡ picture a image u q

-- by a change of what all pages at all homes have
pub page_changed : {a : AccountMaps} {image next : ℕ → Home → ℕ → List ℕ} {uid p : ℕ} {old new : List ℕ}
    → is_there a.nodes uid ≡ true → next ≡ changed_page image uid p new → image uid (home_of a uid) p ≡ old
    → IsPageChanged a image next uid p old new
page_changed {a} {image} {next} {uid} {p} {new} there change held = record {
  before = picture_there a image uid p there ∙ held;
  here = picture_there a next uid p there ∙ next_at uid (home_of a uid) p
      ∙ changed_here (λ v. image v (home_of a uid)) uid p;
  pages = λ q ne. same_page a image next uid q (next_at uid (home_of a uid) q
      ∙ changed_number (λ v. image v (home_of a uid)) uid p new uid q ne);
  others = λ u q ne. same_page a image next u q (next_at u (home_of a u) q
      ∙ changed_uid (λ v. image v (home_of a u)) uid p new u q ne);
}
  where
    next_at : (u : ℕ) (h : Home) (q : ℕ) → next u h q ≡ changed_at (λ v. image v h) uid p new u q
    next_at u h q = ap (λ (f : ℕ → Home → ℕ → List ℕ). f u h q) change

module _ (a : AccountMaps) (image next : ℕ → Home → ℕ → List ℕ) (uid p at w : ℕ) (words : List ℕ)
    (change : IsPageChanged a image next uid p words (set words at w))
    (long : length words ≡ 1024) (within : at < 1024) where
  -- the word itself, and each other one
  word_here : get_or (picture a next uid p) at 0 ≡ w
  word_here = cc (change.here, get_or-set_same words at w 0 (omega arith))

  word_else : (i : ℕ) → i ≢ at → get_or (picture a next uid p) i 0 ≡ get_or (picture a image uid p) i 0
  word_else i ne = cc (change.here, get_or-set_other words at i w 0 ne, change.before)

  pub words_told : (old : ℕ → ℕ → ℕ) → ((u o : ℕ) → old u o ≡ get_or (picture a image u (o / 1024)) (o % 1024) 0)
      → (u o : ℕ) → cond (eqb u uid && eqb o (1024 * p + at)) w (old u o)
      ≡ get_or (picture a next u (o / 1024)) (o % 1024) 0
  words_told old shown u o = elim (cases_eq u uid) [
    | inr ne ↦ (cc ((ne_eqb u uid ne), shown u o, change.others u (o / 1024) ne))
    | inl is ↦ (cc ((eq-eqb u uid is), is, of_page))
  ]
    where
      of_page : cond (eqb o (1024 * p + at)) w (old uid o) ≡ get_or (picture a next uid (o / 1024)) (o % 1024) 0
      of_page = elim (cases_eq (o / 1024) p) [
        | inr ne ↦
            (cc ((ne_eqb o (1024 * p + at) (λ e. ne (omega arith))), shown uid o, change.pages (o / 1024) ne))
        | inl page ↦ elim (cases_eq (o % 1024) at) [
          | inr ne ↦
              (cc ((ne_eqb o (1024 * p + at) (λ e. ne (omega arith))), shown uid o, page, word_else (o % 1024) ne))
          | inl place ↦
              (let on : eqb o (1024 * p + at) ≡ true = eq-eqb o (1024 * p + at) (omega arith) in cc
              (on, word_here, page, place))
        ]
      ]

-- a word of the flat store that is shown
pub word_at : {D : Type 0} {drive : D → List (List ℕ)} {plan : Plan} {s : Store} {t : Storage D} {uid : ℕ} (p at : ℕ)
    {words : List ℕ} → is_there t.accounts.nodes uid ≡ true
    → words_at (plain drive t.segs.pages) uid (home_of t.accounts uid) p ≡ words → at < 1024
    → Shows drive plan s t → s.words uid (1024 * p + at) ≡ get_or words at 0
word_at {drive} {s} {t} {uid} p at {words} there held within h =
    let page : (1024 * p + at) / 1024 ≡ p = omega arith in
    let place : (1024 * p + at) % 1024 ≡ at = omega arith in
    cc (
      h.pages.words uid (1024 * p + at),
      page,
      place,
      picture_there t.accounts (words_at (plain drive t.segs.pages)) uid p there,
    )

-- a flat store once word `at` of a page is written
abbrev pub word_written : Store → ℕ → ℕ → ℕ → ℕ → Store
word_written s uid page at w = record s { words = with_word s.words uid (1024 * page + at) w }

-- where the page is stored, no more than the word changes
pub written_there : (s : Store) (uid p at w : ℕ) → at < 1024 → is_stored s.stored uid p ≡ true
    → word_written s uid p at w ≡ written s uid (1024 * p + at) w
written_there s uid p at w within on = grind (arith, with_old)

-- a store that shows a flat store shows it with the word
pub shown_put : {D : Type 0} {drive : D → List (List ℕ)} {plan : Plan} {s : Store} {t : Storage D} {segs : Control D}
    (uid p : ℕ) {at : ℕ} (w : ℕ) {words : List ℕ} → segs.links ≡ t.segs.links
    → segs.pages.volumes ≡ t.segs.pages.volumes
    → is_there t.accounts.nodes uid ≡ true
    → words_at (plain drive segs.pages) ≡ changed_page (words_at (plain drive t.segs.pages)) uid p (set words at w)
    → words_at (plain drive t.segs.pages) uid (home_of t.accounts uid) p ≡ words → length words ≡ 1024 → at < 1024
    → Shows drive plan s t → Shows drive plan (word_written s uid p at w) (record t { segs = segs })
shown_put {drive} {s} {t} {segs} uid p {at} w {words} links volumes there change held long within h = record {
  tree = assumption h.tree;
  known = rw links h.known;
  pages = record {
    stored = λ v q. rw volumes (h.pages.stored v q);
    once = h.pages.once;
    words = λ v o. words_told t.accounts (words_at (plain drive t.segs.pages)) (words_at (plain drive segs.pages)) uid p
        at w words (page_changed there change held) long within s.words h.pages.words v o;
  };
  script = record {
    records = λ v. rw volumes (h.script.records v);
    entries = λ v. rw volumes (h.script.entries v);
    whos = h.script.whos;
  };
}
