-- A store stays one, and its pages change as they should, by each step of a write.
pub use Rattle.bulk_store.proofs.Pages.{AfterFailed, All-from_get_or, All-get_or, Bool, BulkAfter, Contents, Err, HaveFullPages, Held, Holdings, IsIndexed, IsLeastFreePlace, IsStore, List, None, Ok, OnErr, OnOk, Result, Some, Store, [], ap, arith, below_or_past, cases_eq, ext_get_or, false, gave_up_oldest, get_or, get_or-pages_of, get_or-set_other, get_or-set_same, get_or_past, held_or_not, inl, inr, is_some, length, length-pages_of, length-set, lt-ltb, lt_from, nat_lt, oldest_of, page_of, page_of-held, page_of-other, pages_of, pages_same, pages_with, place_of, refl, second_false, set, store_pages, subst, sym, took_in, true, with_newest, wrote, ℕ, ◌<◌, ◌∙◌, ◌∷◌, ◌≡◌, ◌≤◌, ◌⊎◌}
use Rattle.bulk_store.proofs.Indexed.{free_place-within, place_of-first, place_of-newest, place_of-others, place_of-rest, rest_places, with_record-indexed, without_oldest-indexed}

-- a held record is one of the disk's, and its place one of the fast store's
pub held_within : {s : Contents} (r : ℕ) {p : ℕ} → IsStore s → place_of s.table.held r ≡ Some p → (p < length s.fast)
    × (r < length s.disk)
held_within {s} r {p} k is = (
  omega (arith, k.index.below r p is),
  elim (below_or_past r (length s.table.places)) [
    | inl lt ↦ omega arith
    | inr ge ↦ (let none = get_or_past s.table.places r None ge in let found = k.index.found r in cc)
  ],
)

-- where the pages of both drives have 1024 words, those of the store have
pub pages_full : {s : Contents} → IsStore s → HaveFullPages s.fast → HaveFullPages s.disk
    → HaveFullPages (pages_of s.fast s.disk s.table.held)
pages_full {s} k fast disk =
    let long = length-pages_of s.fast s.disk s.table.held in
    All-from_get_or (λ words. length words ≡ 1024) (pages_of s.fast s.disk s.table.held) []
    (λ r lt. (let inside : r < length s.disk = omega arith in
    ap length (get_or-pages_of s.fast s.disk s.table.held r inside) ∙ elim (held_or_not (place_of s.table.held r)) [
      | inl none ↦ ap length (page_of-other s.fast s.disk s.table.held r none)
          ∙ All-get_or (λ words. length words ≡ 1024) s.disk r [] inside disk
      | inr at ↦ ap length (page_of-held s.fast s.disk s.table.held r at.1)
          ∙ All-get_or (λ words. length words ≡ 1024) s.fast at.0 [] (held_within r k at.1).0 fast
    ]))

-- the page of a held record is written in its place
pub pages_held : {s : Contents} (r : ℕ) {p : ℕ} (words : List ℕ) → IsStore s → place_of s.table.held r ≡ Some p
    → pages_of (set s.fast p words) s.disk s.table.held ≡ set (pages_of s.fast s.disk s.table.held) r words
pages_held {s} r {p} words k is =
    let within = held_within r k is in
    pages_with s.fast s.disk s.table.held (set s.fast p words) s.disk s.table.held r words refl within.1
    (page_of-held (set s.fast p words) s.disk s.table.held r is ∙ get_or-set_same s.fast p words [] within.0)
    (λ u other. elim (held_or_not (place_of s.table.held u)) [
      | inl none ↦ page_of-other (set s.fast p words) s.disk s.table.held u none
          ∙ sym (page_of-other s.fast s.disk s.table.held u none)
      | inr at ↦ page_of-held (set s.fast p words) s.disk s.table.held u at.1 ∙ get_or-set_other s.fast p at.0 words []
          (λ e. other (k.index.apart u r p (cc) is)) ∙ sym (page_of-held s.fast s.disk s.table.held u at.1)
    ])

-- a record that isn't held comes in
pub pages_took_in : {s : Contents} (r : ℕ) (words : List ℕ) → IsStore s → place_of s.table.held r ≡ None
    → length s.table.held < s.table.room → r < length s.disk → pages_of (set s.fast s.table.free words) s.disk
    (with_newest s.table.held r s.table.free) ≡ set (pages_of s.fast s.disk s.table.held) r words
pages_took_in {s} r words k none room within =
    let now = with_newest s.table.held r s.table.free in
    let fast = set s.fast s.table.free words in
    let free : s.table.free < length s.fast = omega (arith, free_place-within k.index room) in
    pages_with s.fast s.disk s.table.held fast s.disk now r words refl within (page_of-held fast s.disk now r
    (place_of-newest s.table.held r none) ∙ get_or-set_same s.fast s.table.free words [] free) (λ u other.
    (let before = place_of-others s.table.held r s.table.free u other in elim (held_or_not (place_of s.table.held u)) [
      | inl out ↦ page_of-other fast s.disk now u (cc) ∙ sym (page_of-other s.fast s.disk s.table.held u out)
      | inr at ↦ page_of-held fast s.disk now u (cc) ∙ get_or-set_other s.fast s.table.free at.0 words []
          (λ e. k.index.free u (cc)) ∙ sym (page_of-held s.fast s.disk s.table.held u at.1)
    ]))

pub took_in-store : {s : Contents} (r : ℕ) (words : List ℕ) → IsStore s → place_of s.table.held r ≡ None
    → length s.table.held < s.table.room → r < length s.disk → IsStore (took_in s r words)
took_in-store {s} r words k none room within = assumption (
  with_record-indexed r k.index none (free_place-within k.index room) (omega (arith, within, k.records)),
  k.room ∙ sym (length-set s.fast s.table.free words),
  length-set s.table.places r (Some s.table.free) ∙ k.records,
)

-- the oldest gives way
pub pages_rest : (fast disk : List (List ℕ)) (h : Held) (held : List Held) → place_of held h.number ≡ None → h.number
    < length disk → pages_of fast (set disk h.number (get_or fast h.place [])) held ≡ pages_of fast disk (h ∷ held)
pages_rest fast disk h held none within =
    let page = get_or fast h.place [] in
    let now = set disk h.number page in
    pages_same fast disk (h ∷ held) fast now held (length-set disk h.number page) (λ u lt. elim (cases_eq u h.number) [
      | inl e ↦ rw e (page_of-other fast now held h.number none ∙ get_or-set_same disk h.number page [] within
          ∙ sym (page_of-held fast disk (h ∷ held) h.number (place_of-first h held)))
      | inr n ↦ (let before = place_of-rest h held u (λ e. n (sym e)) in elim (held_or_not (place_of held u)) [
        | inl out ↦ page_of-other fast now held u out ∙ get_or-set_other disk h.number u page [] n
            ∙ sym (page_of-other fast disk (h ∷ held) u (cc))
        | inr at ↦ page_of-held fast now held u at.1 ∙ sym (page_of-held fast disk (h ∷ held) u (cc))
      ])
    ])

-- what a step needs of the oldest
pub record IsOldest (s : Contents) : Type 0 where
  pub some : 0 < length s.table.held
  pub place : (oldest_of s.table.held).place < length s.fast
  pub page : (oldest_of s.table.held).number < length s.disk
  pub entry : (oldest_of s.table.held).number < length s.table.places
  pub pages : pages_of s.fast (gave_up_oldest s).disk (gave_up_oldest s).table.held
      ≡ pages_of s.fast s.disk s.table.held
  pub room : length (gave_up_oldest s).table.held < s.table.room
  pub others : (r : ℕ) → place_of s.table.held r ≡ None → place_of (gave_up_oldest s).table.held r ≡ None

pub oldest : {s : Contents} → IsStore s → length s.table.held ≡ s.table.room → IsOldest s
oldest {s} k full = go s.table.held k full
  where
    go : (held : List Held) → IsStore (record s { table = record s.table { held = held } }) → length held ≡ s.table.room
        → IsOldest (record s { table = record s.table { held = held } })
    go [] all is = absurd (omega arith)
    go (h ∷ held) all is = (let within = held_within h.number all (place_of-first h held) in
        record {
          some = omega arith;
          place = within.0;
          page = within.1;
          entry = omega arith;
          pages = pages_rest s.fast s.disk h held all.index.once.0 within.1;
          room = omega arith;
          others = λ r none. elim (held_or_not (place_of held r)) [
            | inl out ↦ out
            | inr at ↦ (let there = (rest_places h held r all.index.once at.1).1 in cc)
          ];
        })

pub gave_up-store : {s : Contents} → IsStore s → length s.table.held ≡ s.table.room → IsStore (gave_up_oldest s)
gave_up-store {s} k full =
    let o = oldest_of s.table.held in
    assumption (
      without_oldest-indexed k.index full k.some,
      length-set s.table.places o.number None ∙ k.records ∙ sym (length-set s.disk o.number (get_or s.fast o.place [])),
    )

-- there are never more held than places
pub held_few : {t : Holdings} → IsIndexed t → length t.held ≤ t.room
held_few {t} k = elim (cases_eq t.free t.used) [
  | inl e ↦ omega (arith, k.all_used e)
  | inr n ↦ omega arith
]

-- where no place is free, as many are held as there are places
pub full : (t : Holdings) → IsIndexed t → nat_lt (length t.held) t.room ≡ false → length t.held ≡ t.room
full t k none = elim (below_or_past (length t.held) t.room) [
  | inl lt ↦ (let free = lt-ltb (length t.held) t.room lt in cc)
  | inr ge ↦ omega (arith, held_few k)
]
