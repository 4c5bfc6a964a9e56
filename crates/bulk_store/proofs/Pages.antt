-- The pages of a store, record by record.
pub use Rattle.bulk_store.proofs.Prelude.{AfterFailed, All-from_get_or, All-get_or, Bool, BulkAfter, Contents, Err, HaveFullPages, Held, Holdings, IsIndexed, IsLeastFreePlace, IsStore, List, None, Ok, OnErr, OnOk, Option, Result, Some, Store, [], ap, arith, below_or_past, cases_eq, ext_get_or, false, gave_up_oldest, get_or, get_or-map-range_with_len, get_or-set_other, get_or-set_same, get_or_past, inl, inr, is_some, length, length-map-range_with_len, length-set, lt-ltb, lt_from, nat_lt, oldest_of, page_of, pages_of, place_of, refl, second_false, set, store_pages, subst, sym, took_in, true, with_newest, wrote, zero-add, ℕ, ◌<◌, ◌∙◌, ◌∷◌, ◌≡◌, ◌≢◌, ◌≤◌, ◌⊎◌}

-- a record is held or not
pub held_or_not : (o : Option ℕ) → (o ≡ None) ⊎ ((p : ℕ) × (o ≡ Some p))
held_or_not None = inl refl
held_or_not (Some p) = inr (p, refl)

pub page_of-held : (fast disk : List (List ℕ)) (held : List Held) (r : ℕ) {p : ℕ} → place_of held r ≡ Some p
    → page_of fast disk held r ≡ get_or fast p []
page_of-held fast disk held r is = rw is refl

pub page_of-other : (fast disk : List (List ℕ)) (held : List Held) (r : ℕ) → place_of held r ≡ None
    → page_of fast disk held r ≡ get_or disk r []
page_of-other fast disk held r is = rw is refl

pub length-pages_of : (fast disk : List (List ℕ)) (held : List Held) → length (pages_of fast disk held) ≡ length disk
unfolding pages_of
length-pages_of fast disk held = length-map-range_with_len (page_of fast disk held) 0 (length disk)

pub get_or-pages_of : (fast disk : List (List ℕ)) (held : List Held) (r : ℕ) → r < length disk
    → get_or (pages_of fast disk held) r [] ≡ page_of fast disk held r
unfolding pages_of
get_or-pages_of fast disk held r lt = get_or-map-range_with_len (page_of fast disk held) 0 (length disk) r r [] lt
    (zero-add r)

-- two stores of as many pages, with the same page at each record, have the same pages
pub pages_same : (fast disk : List (List ℕ)) (held : List Held) (fast' disk' : List (List ℕ)) (held' : List Held)
    → length disk' ≡ length disk → ((s : ℕ) → s < length disk → page_of fast' disk' held' s ≡ page_of fast disk held s)
    → pages_of fast' disk' held' ≡ pages_of fast disk held
pages_same fast disk held fast' disk' held' long same =
    let a = length-pages_of fast disk held in
    let b = length-pages_of fast' disk' held' in
    ext_get_or [] (pages_of fast' disk' held') (pages_of fast disk held) (cc)
    (λ s lt. (let in_new : s < length disk' = omega arith in let in_old : s < length disk = omega arith in
    get_or-pages_of fast' disk' held' s in_new ∙ same s in_old ∙ sym (get_or-pages_of fast disk held s in_old)))

-- and where one record alone has other words, the pages are those with these words there
pub pages_with : (fast disk : List (List ℕ)) (held : List Held) (fast' disk' : List (List ℕ)) (held' : List Held)
    (r : ℕ) (words : List ℕ) → length disk' ≡ length disk → r < length disk → page_of fast' disk' held' r ≡ words
    → ((s : ℕ) → s ≢ r → page_of fast' disk' held' s ≡ page_of fast disk held s)
    → pages_of fast' disk' held' ≡ set (pages_of fast disk held) r words
pages_with fast disk held fast' disk' held' r words long within at same =
    let a = length-pages_of fast disk held in
    let b = length-pages_of fast' disk' held' in
    let c = length-set (pages_of fast disk held) r words in
    ext_get_or [] (pages_of fast' disk' held') (set (pages_of fast disk held) r words) (cc)
    (λ s lt. (let in_new : s < length disk' = omega arith in let in_old : s < length disk = omega arith in
    get_or-pages_of fast' disk' held' s in_new ∙ elim (cases_eq s r) [
      | inl e ↦ rw e (at ∙ sym (get_or-set_same (pages_of fast disk held) r words [] (omega arith)))
      | inr n ↦ same s n ∙ sym (get_or-pages_of fast disk held s in_old)
          ∙ sym (get_or-set_other (pages_of fast disk held) r s words [] n)
    ]))
