-- A page of a segment is made, with one word in it, and is stored from then on.
use Rattle.storage_ops.proofs.Prelude.{◌≡◌, ℕ, ◌+◌, ◌<◌, ◌/◌, Bool, true, false, cond, eqb, eqb-true, ◌&&◌, ◌||◌, List, Some, refl, replicate, set, sym, ap, ◌∙◌, arith, inl, inr, cases_eq, eq-eqb, ne_eqb, length-replicate, Who, Plan, AccountMaps, Counts, Recounts, count_of, is_stored, with_stored, Store, count_with, is_stored-with, once_with, ActiveSegs, IsActive, Here, Null, Home, Plain, plain, KeepsCounts, one_more, taken, created, next_record, ChangesStored, ChangesWords, is_filed_at, words_at, has_record, uid_at, Links, word_of, worded, IsKept, page_made, AreHoused, IsStore, Shows, Storage, home_of, is_filed, is_there, named_at, pages_in, picture, eqb_turned, ◌%◌, get_or, without_pages, all_same}
use Rattle.storage_ops.proofs.Dropped.{recount_here, recount_other, HasDropped}
use Rattle.storage_ops.proofs.Entries.{put_other, put_uid}
use Rattle.storage_ops.proofs.PageFacts.{filed_word}
use Rattle.storage_ops.proofs.PageMoves.{filed_changed, named_more, records_more, shown_dropped, shown_recounted, store_recounted, weight}
use Rattle.storage_ops.proofs.Paged.{active_home, active_there, picture_none, picture_there, word_filed}
use Rattle.storage_ops.proofs.Lengths.{filed_there}
use Rattle.storage_ops.proofs.PageWords.{IsPageChanged, words_told}

-- ---- what is stored

counts_more : (a b : AccountMaps) (uid p : ℕ) (stored : List (ℕ × ℕ)) → Recounts a b uid (count_of a uid + 1)
    → is_stored stored uid p ≡ false → Counts a stored → Counts b (with_stored stored uid p)
counts_more a b uid p stored change off counts v =
    let sum = count_with (λ x. eqb x.0 v) stored uid p off in
    let was = counts v in
    elim (cases_eq v uid) [
      | inl is ↦
          (let one = ap weight (eq-eqb uid v (sym is)) in
          let here : count_of b v ≡ count_of a v + 1 = rw is (recount_here change) in
          omega arith)
      | inr ne ↦
          (let none = ap weight (ne_eqb uid v (λ e. ne (sym e))) in
          omega (arith, recount_other change v ne))
    ]

-- ---- the whole

module _ {old now : Plain} {ast next : ActiveSegs} {links : Links} {a b : AccountMaps} {whos : List Who} {uid : ℕ}
    {home : Home} {p : ℕ} (f at w : ℕ) (kept : IsKept old ast links) (h : IsStore old ast links a whos)
    (active : IsActive ast.entries uid) (own : home ≡ home_of a uid)
    (off : word_of ast uid p ≡ Null) (keeps : KeepsCounts old now) (lt : p < pages_in a.nodes uid)
    (effect : now ≡ created old uid p home (next_record old home) f at w) (word : next ≡ worded ast uid p (Here f))
    (stored : ChangesStored old now home p true) (count : taken now.records ≡ one_more (taken old.records) home.volume)
    (change : Recounts a b uid (count_of a uid + 1)) where
  was_used : uid_at old.vtocs home ≡ Some uid
  was_used = cc ((active_home kept h active).used)

  pub store_made : IsStore now next links b whos
  store_made =
      let vtocs = ap (λ (x : Plain). x.vtocs) effect in
      let there = active_there kept h active in
      let named : named_at now.vtocs home ≡ named_at old.vtocs home + 1 = rw vtocs
      (named_more old.vtocs home p (next_record old home) was_used (rw own (cc (filed_word kept h active p)))
      (rw vtocs at stored.here)) in
      let counted = ap (named_at old.vtocs) own ∙ h.counted.counts uid there in
      let sum : named_at now.vtocs home ≡ count_of a uid + 1 = omega arith in
      store_recounted old now change there
      (λ other. rw vtocs (put_uid old.vtocs home p (Some (next_record old home)) was_used other)) (λ other ne. rw vtocs
      (put_other old.vtocs home p (Some (next_record old home)) was_used other (λ e. ne (e ∙ own)))) h.housed (cc) (cc)
      keeps (cc) (λ q filed. still_within q (cc)) (records_more old.records now.records change (cc) h.taken.records) h
    where
      still_within : (q : ℕ) → is_filed_at now.vtocs home q ≡ true → q < pages_in a.nodes uid
      still_within q filed = elim (cases_eq q p) [
        | inl same ↦ rw same lt
        | inr ne ↦ h.counted.inside uid q (active_there kept h active) (cc (stored.others home q (λ s e. ne e)))
      ]

-- ---- the words

-- a page whose word is `Null` is in no frame, and all zeros
pub zeros_null : {old : Plain} {ast : ActiveSegs} {links : Links} {a : AccountMaps} {whos : List Who} {uid : ℕ} (p : ℕ)
    → IsKept old ast links → IsStore old ast links a whos → IsActive ast.entries uid → word_of ast uid p ≡ Null
    → words_at old uid (home_of a uid) p ≡ replicate 1024 0
zeros_null {old} {ast} {links} {a} {whos} {uid} p kept h active off =
    sym (picture_there a (words_at old) uid p (active_there kept h active))
    ∙ picture_none kept h uid p (cc (word_filed kept h active p))

other_words : {old now : Plain} {a : AccountMaps} {uid p : ℕ} {new : List ℕ} → AreHoused a old.vtocs
    → ChangesWords old now uid (home_of a uid) p new → (u : ℕ) {q : ℕ} → (u ≡ uid → q ≡ p → ⊥)
    → picture a (words_at now) u q ≡ picture a (words_at old) u q
unfolding picture
other_words {old} {now} {a} housed change u {q} apart = grind arith

changed_words : {old now : Plain} {a : AccountMaps} {uid p : ℕ} {words new : List ℕ} → AreHoused a old.vtocs
    → is_there a.nodes uid ≡ true → words_at old uid (home_of a uid) p ≡ words
    → ChangesWords old now uid (home_of a uid) p new → IsPageChanged a (words_at old) (words_at now) uid p words new
changed_words {old} {now} {a} {uid} {p} {new} housed there held change = record {
  before = picture_there a (words_at old) uid p there ∙ held;
  here = picture_there a (words_at now) uid p there ∙ change.here;
  pages = λ q ne. other_words housed change uid (λ is page. ne page);
  others = λ u q ne. other_words housed change u (λ is page. ne is);
}

-- one page more is shown
pub shown_made : {D : Type 0} {drive : D → List (List ℕ)} {plan : Plan} {s : Store} {t u : Storage D}
    {uid p at : ℕ} (w : ℕ) → IsKept (plain drive t.segs.pages) t.segs.ast t.segs.links
    → IsStore (plain drive t.segs.pages) t.segs.ast t.segs.links t.accounts t.whos
    → IsActive t.segs.ast.entries uid → word_of t.segs.ast uid p ≡ Null → at < 1024
    → Recounts t.accounts u.accounts uid (count_of t.accounts uid + 1) → u.whos ≡ t.whos → u.segs.links ≡ t.segs.links
    → ChangesStored (plain drive t.segs.pages) (plain drive u.segs.pages) (home_of t.accounts uid) p true
    → ChangesWords (plain drive t.segs.pages) (plain drive u.segs.pages) uid (home_of t.accounts uid) p
    (set (replicate 1024 0) at w) → KeepsCounts (plain drive t.segs.pages) (plain drive u.segs.pages)
    → Shows drive plan s t → Shows drive plan (page_made s uid p at w) u
shown_made {drive} {s} {t} {u} {uid} {p} {at} w kept store active off within change whos links stored words keeps h =
    let there = active_there kept store active in
    let filed = h.pages.stored uid p ∙ filed_there t.accounts t.segs.pages.volumes.vtocs uid p there
    ∙ filed_word kept store active p ∙ ap has_record off in
    shown_recounted change whos (ap (λ (x : Links). x.known) links) keeps
    (counts_more t.accounts u.accounts uid p s.stored change filed h.tree.counts)
    (once_with s.stored uid p h.pages.once) (λ v q. cc (
      is_stored-with s.stored uid p v q,
      h.pages.stored v q,
      eqb_turned uid v,
      eqb_turned p q,
      or_cond (eqb v uid && eqb q p) (is_filed t.accounts t.segs.pages.volumes.vtocs v q),
      filed_changed uid store.housed there stored v q,
    ))
    (words_told t.accounts (words_at (plain drive t.segs.pages)) (words_at (plain drive u.segs.pages)) uid p at w
    (replicate 1024 0) (changed_words store.housed there (zeros_null p kept store active off) words)
    (length-replicate {A = ℕ} 1024 0) within s.words h.pages.words) h
  where
    or_cond : (k filed : Bool) → (k || filed) ≡ cond k true filed
    or_cond true filed = refl
    or_cond false filed = refl

-- a page is stored no more, and its words are zeros
pub shown_zeroed : {D : Type 0} {drive : D → List (List ℕ)} {p : Plan} {s : Store} {t n : Storage D} {u q : ℕ}
    → HasDropped (plain drive t.segs.pages) (plain drive n.segs.pages) t.accounts n.accounts u q
    → AreHoused t.accounts t.segs.pages.volumes.vtocs → n.segs.links.known ≡ t.segs.links.known → n.whos ≡ t.whos
    → ChangesWords (plain drive t.segs.pages) (plain drive n.segs.pages) u (home_of t.accounts u) q (replicate 1024 0)
    → Shows drive p s t → Shows drive p (without_pages s u (λ r. eqb r q)) n
shown_zeroed {drive} {s} {t} {n} {u} {q} d housed known whos zeros h =
    shown_dropped d housed known whos (λ v o. by v o (eqb v u) (eqb (o / 1024) q) refl refl) h
  where
    now : ℕ → Home → ℕ → List ℕ
    now = words_at (plain drive n.segs.pages)

    by : (v o : ℕ) (x y : Bool) → eqb v u ≡ x → eqb (o / 1024) q ≡ y
        → cond (x && y) 0 (s.words v o) ≡ get_or (picture t.accounts now v (o / 1024)) (o % 1024) 0
    by v o true true e f = cc (
      eqb-true v u e,
      eqb-true (o / 1024) q f,
      picture_there t.accounts now u q d.there,
      zeros.here,
      all_same {X = ℕ} 1024 (o % 1024) 0,
    )
    by v o true false e f =
        cc (h.pages.words v o, other_words housed zeros v {q = o / 1024} (λ same at. cc (eq-eqb (o / 1024) q at)))
    by v o false y e f =
        cc (h.pages.words v o, other_words housed zeros v {q = o / 1024} (λ same at. cc (eq-eqb v u same)))
