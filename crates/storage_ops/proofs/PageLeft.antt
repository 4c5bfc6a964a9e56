-- A page has left its frame: it is on its record, or it was all zeros and is stored no more.
use Rattle.storage_ops.proofs.Prelude.{◌≡◌, ℕ, ◌-◌, ◌/◌, true, List, Result, Ok, Err, IfOk, get_or, ap, ◌∙◌, inl, inr, length, cases_lt, get_or_past, Who, Plan, AccountMaps, Recounts, count_of, MayRelease, Store, words_zero, AreZero, ActiveSegs, IsActive, Home, Left, Released, Kept, Plain, plain, KeepsCounts, taken, taken_after, after_evict, ChangesStored, KeepsWords, is_kept, words_at, has_record, Links, word_of, table_left, IsKept, IsSettled, page_left, IsStore, Shows, Storage, home_of, Leaving, dropped, false}
use Rattle.storage_ops.proofs.Dropped.{HasDropped, drop_done}
use Rattle.storage_ops.proofs.PageMoves.{shown_dropped, store_dropped}
use Rattle.storage_ops.proofs.PageFacts.{filed_word, page_counted}
use Rattle.storage_ops.proofs.Paged.{active_there}
use Rattle.storage_ops.proofs.Lengths.{filed_there}
use Rattle.storage_ops.proofs.PageWords.{word_at}
use Rattle.storage_ops.proofs.Still.{picture_kept, shown_kept, store_still}

-- ---- the whole

-- a page that is released is stored no more
page_gone : {old now : Plain} {ast : ActiveSegs} {links : Links} {a b : AccountMaps} {whos : List Who} {uid : ℕ}
    {home : Home} (p f : ℕ) → IsKept old ast links → IsStore old ast links a whos → IsActive ast.entries uid
    → home ≡ home_of a uid → has_record (word_of ast uid p) ≡ true → KeepsCounts old now
    → now ≡ dropped old home p (Leaving f) → ChangesStored old now home p false
    → Recounts a b uid (count_of a uid - 1) → HasDropped old now a b uid p
page_gone {old} {a = a} {uid = uid} p f kept h active own on keeps effect stored change =
    let there = active_there kept h active in
    drop_done (Leaving f) own there (filed_there a old.vtocs uid p there ∙ filed_word kept h active p ∙ on) effect
    stored keeps change

module _ {old now : Plain} {ast : ActiveSegs} (next : ActiveSegs) {links : Links} {a : AccountMaps} (b : AccountMaps)
    {whos : List Who} {uid : ℕ} {home : Home} (p f : ℕ) (kept : IsKept old ast links) (h : IsStore old ast links a whos)
    (active : IsActive ast.entries uid) (own : home ≡ home_of a uid)
    (on : has_record (word_of ast uid p) ≡ true) (keeps : KeepsCounts old now) where
  pub store_left : {E : Type 0} (r : Result Left E) (record_was : ℕ) → now ≡ after_evict old home p f r
      → next ≡ table_left ast uid p record_was r → IfOk r (λ left. ChangesStored old now home p (is_kept left))
      → IfOk r (λ left. taken now.records ≡ taken_after (taken old.records) home.volume left)
      → IsSettled a b uid r → IsStore now next links b whos
  store_left (Err e) record_was effect word stored count settled = rw settled (store_still (cc) (cc) (cc) (cc) h)
  store_left (Ok Kept) record_was effect word stored count settled = rw settled (store_still (cc) (cc) (cc) (cc) h)
  store_left (Ok Released) record_was effect word stored count settled =
      store_dropped (page_gone p f kept h active own on keeps effect stored settled) (page_counted kept h active p on)
      (cc) (cc) (cc) h

pub shown_left : {D E : Type 0} {drive : D → List (List ℕ)} {plan : Plan} {s : Store} {t u : Storage D} {uid : ℕ}
    {home : Home} (p f : ℕ) (r : Result Left E) → IsKept (plain drive t.segs.pages) t.segs.ast t.segs.links
    → IsStore (plain drive t.segs.pages) t.segs.ast t.segs.links t.accounts t.whos
    → IsActive t.segs.ast.entries uid → home ≡ home_of t.accounts uid → has_record (word_of t.segs.ast uid p) ≡ true
    → u.whos ≡ t.whos → u.segs.links ≡ t.segs.links
    → plain drive u.segs.pages ≡ after_evict (plain drive t.segs.pages) home p f r
    → IfOk r (λ left. ChangesStored (plain drive t.segs.pages) (plain drive u.segs.pages) home p (is_kept left))
    → KeepsWords (plain drive t.segs.pages) (plain drive u.segs.pages) uid home
    → KeepsCounts (plain drive t.segs.pages) (plain drive u.segs.pages) → IsSettled t.accounts u.accounts uid r
    → Shows drive plan s t → Shows drive plan (page_left s uid p r) u
shown_left p f (Err e) kept store active own on whos links effect stored words keeps settled h =
    shown_kept settled whos links
    (assumption (ap (λ (x : Plain). x.records) effect, ap (λ (x : Plain). x.vtocs) effect)) store.housed own words h
shown_left p f (Ok Kept) kept store active own on whos links effect stored words keeps settled h =
    shown_kept settled whos links
    (assumption (ap (λ (x : Plain). x.records) effect, ap (λ (x : Plain). x.vtocs) effect)) store.housed own words h
shown_left {s} {t} {u} {uid} p f (Ok Released) kept store active own on whos links effect stored words keeps settled h =
    shown_dropped (page_gone p f kept store active own on keeps effect stored settled) store.housed
    (ap (λ (x : Links). x.known) links) whos
    (λ v o. cc (h.pages.words v o, picture_kept store.housed own words v (o / 1024))) h

-- ---- a page that is given up

zero_at : (words : List ℕ) → AreZero words → (i : ℕ) → get_or words i 0 ≡ 0
zero_at words zero i = elim (cases_lt i (length words)) [
  | inl lt ↦ zero i 0 lt
  | inr past ↦ get_or_past words i 0 past
]

-- a page with a record whose words are all 0 may be given up
pub may_release : {D : Type 0} {drive : D → List (List ℕ)} {plan : Plan} {s : Store} {t : Storage D} {uid : ℕ} (p : ℕ)
    {words : List ℕ} → IsKept (plain drive t.segs.pages) t.segs.ast t.segs.links
    → IsStore (plain drive t.segs.pages) t.segs.ast t.segs.links t.accounts t.whos
    → IsActive t.segs.ast.entries uid → has_record (word_of t.segs.ast uid p) ≡ true
    → words_at (plain drive t.segs.pages) uid (home_of t.accounts uid) p ≡ words → AreZero words
    → Shows drive plan s t → MayRelease s uid p
may_release {drive} {plan} {s} {t} {uid} p {words} kept store active on held zero h =
    let there = active_there kept store active
    in
    record {
      there = h.pages.stored uid p ∙ filed_there t.accounts t.segs.pages.volumes.vtocs uid p there
          ∙ filed_word kept store active p ∙ on;
      zeros = words_zero s.words uid p (λ i lt. word_at p i there held lt h ∙ zero_at words zero i);
    }
