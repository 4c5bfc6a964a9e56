-- What a whole write leaves, from what its steps leave.
pub use Rattle.bulk_store.proofs.Stores.{AfterFailed, Bool, BulkAfter, Contents, Err, Held, Holdings, IsIndexed, IsLeastFreePlace, IsOldest, IsStore, List, None, Ok, OnErr, OnOk, Result, Some, Store, [], ap, arith, ext_get_or, false, full, gave_up-store, gave_up_oldest, get_or, get_or-pages_of, held_or_not, inl, inr, is_some, length, length-pages_of, length-set, lt_from, nat_lt, oldest, page_of, page_of-other, pages_full, pages_held, pages_of, pages_took_in, place_of, refl, second_false, set, store_pages, subst, sym, took_in, took_in-store, true, wrote, ℕ, ◌<◌, ◌∙◌, ◌≡◌, ◌⊎◌}

-- the three ways of a write
wrote-held : (s : Contents) (r : ℕ) {p : ℕ} (words : List ℕ) → place_of s.table.held r ≡ Some p → wrote s r words
    ≡ record s { fast = set s.fast p words }
wrote-held s r words is = rw is refl

wrote-free : (s : Contents) (r : ℕ) (words : List ℕ) → place_of s.table.held r ≡ None
    → nat_lt (length s.table.held) s.table.room ≡ true → wrote s r words ≡ took_in s r words
wrote-free s r words none free = rw (none, free) refl

wrote-full : (s : Contents) (r : ℕ) (words : List ℕ) → place_of s.table.held r ≡ None
    → nat_lt (length s.table.held) s.table.room ≡ false → wrote s r words ≡ took_in (gave_up_oldest s) r words
wrote-full s r words none full = rw (none, full) refl

true_or_false : (b : Bool) → (b ≡ true) ⊎ (b ≡ false)
true_or_false true = inl refl
true_or_false false = inr refl

-- after a done write the store is one still, and its pages are as before but for the one that was written
pub record IsDone (s : Contents) (r : ℕ) (words : List ℕ) (t : Contents) : Type 0 where
  pub store : IsStore t
  pub pages : pages_of t.fast t.disk t.table.held ≡ set (pages_of s.fast s.disk s.table.held) r words
  pub list : BulkAfter (length s.fast) s.table.held r t.table.held

least_free : {t : Holdings} → IsIndexed t → IsLeastFreePlace t.held t.free
least_free k = record { free = k.free; least = λ q lt. k.taken q (omega arith) (λ e. omega arith) }

done-held : {s : Contents} {r p : ℕ} {words : List ℕ} → IsStore s → place_of s.table.held r ≡ Some p
    → IsDone s r words (record s { fast = set s.fast p words })
done-held {s} {r} {p} {words} k is = record {
  store = assumption (k.room ∙ sym (length-set s.fast p words));
  pages = pages_held r words k is;
  list = rw is refl;
}

done-free : {s : Contents} {r : ℕ} {words : List ℕ} → IsStore s → r < length s.disk → place_of s.table.held r ≡ None
    → nat_lt (length s.table.held) s.table.room ≡ true → IsDone s r words (took_in s r words)
done-free {s} {r} {words} k within none free =
    let room = lt_from _ _ free in
    let there : nat_lt (length s.table.held) (length s.fast) ≡ true = rw (← k.room) free in
    record {
      store = took_in-store r words k none room within;
      pages = pages_took_in r words k none room within;
      list = rw (none, there) (s.table.free, least_free k.index, refl);
    }

done-full : {s : Contents} {r : ℕ} {words : List ℕ} → IsStore s → r < length s.disk → place_of s.table.held r ≡ None
    → nat_lt (length s.table.held) s.table.room ≡ false → IsDone s r words (took_in (gave_up_oldest s) r words)
done-full {s} {r} {words} k within none taken =
    let all = full s.table k.index taken in
    let old : IsOldest s = oldest k all in
    let next = gave_up-store k all in
    let none_now = old.others r none in
    let inside : r < length (gave_up_oldest s).disk = rw length-set within in
    let there : nat_lt (length s.table.held) (length s.fast) ≡ false = rw (← k.room) taken in
    record {
      store = took_in-store r words next none_now old.room inside;
      pages = cc (pages_took_in r words next none_now old.room inside);
      list = rw (none, there) refl;
    }

pub done : {s t : Contents} {r : ℕ} {words : List ℕ} → IsStore s → r < length s.disk → t ≡ wrote s r words
    → IsDone s r words t
done {s} {r} {words} k within is = elim (held_or_not (place_of s.table.held r)) [
  | inr at ↦ rw (is ∙ wrote-held s r words at.1) (done-held k at.1)
  | inl none ↦ elim (true_or_false (nat_lt (length s.table.held) s.table.room)) [
    | inl free ↦ rw (is ∙ wrote-free s r words none free) (done-free k within none free)
    | inr taken ↦ rw (is ∙ wrote-full s r words none taken) (done-full k within none taken)
  ]
]

-- after a failed write the store is one still, and its pages are as before
pub record HasFailed (s t : Contents) : Type 0 where
  pub store : IsStore t
  pub pages : pages_of t.fast t.disk t.table.held ≡ pages_of s.fast s.disk s.table.held

pub has_failed : {s t : Contents} (r : ℕ) → IsStore s → AfterFailed s r t → HasFailed s t
has_failed {s} r k (inl is) = subst (λ (x : Contents). HasFailed s x) (sym is) (assumption)
has_failed {s} r k (inr gave) =
    let all = full s.table k.index (second_false (is_some (place_of s.table.held r)) _ gave.0) in
    rw gave.1 (record { store = gave_up-store k all; pages = (oldest k all).pages })

-- the same of a call, by its result
pub stays_store : {T E : Type 0} (result : Result T E) {s t : Contents} {r : ℕ} (words : List ℕ) → IsStore s
    → r < length s.disk → OnOk result (t ≡ wrote s r words) → OnErr result (AfterFailed s r t) → IsStore t
stays_store (Ok v) {s} {t} {r} words k within ok err = (done {s = s} {t = t} {r = r} {words = words} k within ok).store
stays_store (Err e) {s} {t} {r} words k within ok err = (has_failed r k err).store

pub on_ok : {T E P Q : Type 0} (result : Result T E) → (P → Q) → OnOk result P → OnOk result Q
on_ok (Ok v) f h = f h
on_ok (Err e) f h = tt

pub on_err : {T E P Q : Type 0} (result : Result T E) → (P → Q) → OnErr result P → OnErr result Q
on_err (Ok v) f h = tt
on_err (Err e) f h = f h

-- a record of the store is one of the disk's
pub within_disk : {F D : Type 0} (fast_pages : F → List (List ℕ)) (disk_pages : D → List (List ℕ)) (fast : F)
    (disk : D) (held : List Held) {now : Store F D} (r : ℕ) → record { fast = fast; disk = disk; held = held } ≡ now
    → r < length (store_pages fast_pages disk_pages now) → r < length (disk_pages disk)
within_disk fast_pages disk_pages fast disk held {now} r view lt =
    let same : length (store_pages fast_pages disk_pages now) ≡ length (disk_pages disk)
    = ap (λ (x : Store _ _). length (store_pages fast_pages disk_pages x)) (sym view)
    ∙ length-pages_of (fast_pages fast) (disk_pages disk) held in
    omega arith

-- a store that holds nothing has the disk's pages
pub pages_empty : (fast : List (List ℕ)) {disk : List (List ℕ)} {held : List Held} → held ≡ []
    → pages_of fast disk held ≡ disk
pages_empty fast {disk} {held} none =
    let long = length-pages_of fast disk held in
    ext_get_or [] (pages_of fast disk held) disk long (λ r lt. get_or-pages_of fast disk held r (omega arith)
    ∙ page_of-other fast disk held r (cc))

-- a done read gives the store's page
pub read_done : {T E : Type 0} (result : Result T E) (fast disk : List (List ℕ)) (held : List Held) (r : ℕ)
    (words : List ℕ) → r < length disk
    → OnOk result (words ≡ page_of fast disk held r) → OnOk result (words ≡ get_or (pages_of fast disk held) r [])
read_done (Ok v) fast disk held r words within is = is ∙ sym (get_or-pages_of fast disk held r within)
read_done (Err e) fast disk held r words within is = tt
