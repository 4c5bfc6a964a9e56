pub use Rattle.vtoc.proofs.Prelude.{All, All-from_get_or, All-get_or, Bool, Entry, IsLeastFree, IsLeastFreeEntry, IsMarked, IsSome, IsTrue, List, NamesNoRecord, None, Option, Slot, Some, [], ap, arith, below_or_past, blank, cases_eq, cond, count_by, entry_at, entry_of, ext_get_or, false, free_slot, fresh_entry, get_or, get_or-map, get_or-replicate, get_or-set_other, get_or-set_same, get_or_past, in_use, inl, inr, is_none, is_some, least_free, least_free_entry, length, length-map, length-replicate, length-set, map, map-set, no_records, none_there, not, prefix_len, record_at, records_in, refl, replicate, seen_as, set, set-get_or, slot_at, suc, sum_by-cons, sum_by-set, sym, table_of, true, uid_of, with_record, zero, ℕ, ◌+◌, ◌<◌, ◌^◌, ◌↔◌, ◌∙◌, ◌∷◌, ◌≡◌, ◌≤◌}

pub length_table : (slots : List Slot) → length (table_of slots) ≡ length slots
unfolding table_of
length_table slots = length-map slots entry_of

-- an entry is what its slot stands for
pub entry_is : (slots : List Slot) (e : ℕ) → entry_at (table_of slots) e ≡ entry_of (slot_at slots e)
unfolding table_of
entry_is slots e = elim (below_or_past e (length slots)) [
  | inl lt ↦ get_or-map entry_of slots e free_slot None lt
  | inr past ↦ (let long : length (map entry_of slots) ≤ e = omega (arith, length-map slots entry_of) in
      cc (get_or_past (map entry_of slots) e None long, get_or_past slots e free_slot past))
]

-- a write to a slot is one to its entry
pub table_with : (slots : List Slot) (e : ℕ) (slot : Slot) → table_of (set slots e slot)
    ≡ set (table_of slots) e (entry_of slot)
unfolding table_of
table_with slots e slot = map-set entry_of slots e slot

-- what the parts of an entry are by its slot
pub uid_seen : (uid : Option ℕ) (records : List (Option ℕ)) → uid_of (seen_as uid records) ≡ uid
uid_seen None records = refl
uid_seen (Some uid) records = refl

pub records_seen : (uid : Option ℕ) {records : List (Option ℕ)} → (uid ≡ None → records ≡ no_records)
    → records_in (seen_as uid records) ≡ records
records_seen None empty = sym (empty refl)
records_seen (Some uid) empty = refl

pub some_seen : (uid : Option ℕ) (records : List (Option ℕ)) → IsSome (seen_as uid records) → is_some uid ≡ true
some_seen None records h = cc
some_seen (Some uid) records h = refl

pub none_seen : (uid : Option ℕ) (records : List (Option ℕ)) → is_some uid ≡ false → seen_as uid records ≡ None
none_seen None records h = refl
none_seen (Some uid) records h = cc

pub is_none_seen : (uid : Option ℕ) (records : List (Option ℕ)) → is_some uid ≡ true → is_none (seen_as uid records)
    ≡ false
is_none_seen None records h = cc
is_none_seen (Some uid) records h = refl

pub is_some_seen : (uid : Option ℕ) (records : List (Option ℕ)) → is_some uid ≡ true → IsSome (seen_as uid records)
is_some_seen None records h = absurd (cc)
is_some_seen (Some uid) records h = refl

pub with_record_seen : (uid : Option ℕ) (records : List (Option ℕ)) (p : ℕ) (r : Option ℕ)
    → seen_as uid (set records p r) ≡ with_record (seen_as uid records) p r
with_record_seen None records p r = refl
with_record_seen (Some uid) records p r = refl

-- a bit says whether its slot has a uid
pub bit_is : {in_use_ : List Bool} {slots : List Slot} (e : ℕ) → IsMarked in_use_ slots → in_use in_use_ e
    ≡ is_some (slot_at slots e).uid
bit_is {slots} e h = ap (λ (fs : List Bool). in_use fs e) h.marks ∙ elim (below_or_past e (length slots)) [
  | inl lt ↦ get_or-map (λ (slot : Slot). is_some slot.uid) slots e free_slot false lt
  | inr past ↦ (let long : length (map (λ (slot : Slot). is_some slot.uid) slots) ≤ e =
      omega (arith, length-map slots (λ (slot : Slot). is_some slot.uid)) in
      cc (get_or_past (map (λ (slot : Slot). is_some slot.uid) slots) e false long, get_or_past slots e free_slot past))
]

pub length_bits : {flags : List Bool} {slots : List Slot} → IsMarked flags slots → length flags ≡ length slots
length_bits {slots} h = cc (length-map slots (λ (slot : Slot). is_some slot.uid))

-- where entry e stands in the slots of a table that is seen as `table`
pub record IsKept (slots : List Slot) (table : List (Option Entry)) (e : ℕ) : Type 0 where
  pub entry : entry_at table e ≡ entry_of (slot_at slots e)
  pub records : records_in (entry_at table e) ≡ (slot_at slots e).map
  pub uid : uid_of (entry_at table e) ≡ (slot_at slots e).uid

-- a used entry is one that the table has
pub used_inside : (table : List (Option Entry)) (e : ℕ) → IsSome (entry_at table e) → e < length table
used_inside [] e h = cc
used_inside (entry ∷ table) zero h = omega arith
used_inside (entry ∷ table) (suc e) h = let lt = used_inside table e h in omega (arith, lt)

module _ {flags : List Bool} {slots : List Slot} {table : List (Option Entry)} (h : IsMarked flags slots)
    (view : table_of slots ≡ table) where
  pub kept : (e : ℕ) → IsKept slots table e
  kept e =
      let entry : entry_at table e ≡ entry_of (slot_at slots e) =
      ap (λ (t : List (Option Entry)). entry_at t e) (sym view) ∙ entry_is slots e in
      record {
        entry = entry;
        records = cc (records_seen (slot_at slots e).uid (h.empty e));
        uid = cc (uid_seen (slot_at slots e).uid (slot_at slots e).map);
      }

  pub used_slot : (e : ℕ) → IsSome (entry_at table e) → e < length slots
  used_slot e used = omega (arith, used_inside table e used, ap length view, length_table slots)

  -- the slot of a used entry has a uid
  pub has_uid : (e : ℕ) → IsSome (entry_at table e) → is_some (slot_at slots e).uid ≡ true
  has_uid e used = some_seen (slot_at slots e).uid (slot_at slots e).map (rw (← (kept e).entry) used)

  pub used_bit : (e : ℕ) → IsSome (entry_at table e) → in_use flags e ≡ true
  used_bit e used = bit_is e h ∙ has_uid e used

-- the bits and the slots after slot e is written, with a bit that says whether it has a uid now
pub marked_with : {flags : List Bool} {slots : List Slot} (e : ℕ) (slot : Slot) → IsMarked flags slots
    → e < length slots → (slot.uid ≡ None → slot.map ≡ no_records) → length slot.map ≡ 256
    → IsMarked (set flags e (is_some slot.uid)) (set slots e slot)
marked_with {slots} e slot h lt empty long = record {
  short = rw (length-set slots e slot) h.short;
  marks = cc (map-set (λ (slot : Slot). is_some slot.uid) slots e slot);
  empty = λ k none. elim (cases_eq k e) [
    | inl same ↦ (let here : slot_at (set slots e slot) k ≡ slot =
        rw same (get_or-set_same slots e slot free_slot lt) in
        cc (empty (ap (λ (s : Slot). s.uid) (sym here) ∙ none)))
    | inr ne ↦ (let there = get_or-set_other slots e k slot free_slot ne in
        cc (h.empty k (ap (λ (s : Slot). s.uid) (sym there) ∙ none)))
  ];
  places = λ k. elim (cases_eq k e) [
    | inl same ↦ (let here : slot_at (set slots e slot) k ≡ slot =
        rw same (get_or-set_same slots e slot free_slot lt) in
        cc)
    | inr ne ↦ (let there : slot_at (set slots e slot) k ≡ slot_at slots k =
        get_or-set_other slots e k slot free_slot ne in
        cc (h.places k))
  ];
}

-- the bits are as before where the slot keeps its uid
pub marked_same : {flags : List Bool} {slots : List Slot} (e : ℕ) (slot : Slot)
    → IsMarked flags slots → e < length slots → (slot.uid ≡ None → slot.map ≡ no_records)
    → length slot.map ≡ 256 → is_some slot.uid ≡ in_use flags e → IsMarked flags (set slots e slot)
marked_same {flags} {slots} e slot h lt empty long same =
    let bits : set flags e (is_some slot.uid) ≡ flags = ap (λ (b : Bool). set flags e b) same
    ∙ set-get_or flags e false in
    rw bits at (marked_with e slot h lt empty long)

-- a file map of 256 places that names no record is the empty one
pub map_is_empty : {records : List (Option ℕ)} → length records ≡ 256 → ((p : ℕ) → get_or records p None ≡ None)
    → records ≡ no_records
unfolding no_records
map_is_empty {records} long none =
    ext_get_or None records (replicate 256 None) (long ∙ sym (length-replicate {A = Option ℕ} 256 None))
    (λ p lt. none p ∙ sym (get_or-replicate {A = Option ℕ} 256 p None None (omega (arith, long))))

pub no_record : (p : ℕ) → get_or no_records p None ≡ None
unfolding no_records
no_record p = blank 256 p

pub length_no_records : length no_records ≡ 256
unfolding no_records
length_no_records = length-replicate {A = Option ℕ} 256 None

-- the least place by the bits is the least by the entries
first_step : (uid : Option ℕ) (records : List (Option ℕ)) {a b : ℕ} → a ≡ b
    → cond (not (not (is_some uid))) (1 + a) 0 ≡ cond (not (is_none (seen_as uid records))) (1 + b) 0
first_step None records e = refl
first_step (Some uid) records e = cc

first_same : (slots : List Slot) → prefix_len (λ flag. not (not flag)) (map (λ (slot : Slot). is_some slot.uid) slots)
    ≡ prefix_len (λ entry. not (is_none entry)) (map entry_of slots)
first_same [] = refl
first_same (slot ∷ slots) = first_step slot.uid slot.map (first_same slots)

pub least_same : {flags : List Bool} {slots : List Slot} {table : List (Option Entry)} → IsMarked flags slots
    → table_of slots ≡ table → least_free flags ≡ least_free_entry table
unfolding table_of
least_same {flags} {slots} {table} h view =
    let first : prefix_len (λ flag. not (not flag)) flags ≡ prefix_len (λ entry. not (is_none entry)) table =
    ap (prefix_len (λ flag. not (not flag))) h.marks ∙ first_same slots
    ∙ ap (prefix_len (λ (entry : Option Entry). not (is_none entry))) view in
    rw (first, (length_bits h ∙ sym (length-map slots entry_of) ∙ ap length view)) refl

-- the counts are the same
count_step : (uid : Option ℕ) (records : List (Option ℕ)) → cond {A = ℕ} (is_some uid) 1 0
    ≡ cond {A = ℕ} (is_some (seen_as uid records)) 1 0
count_step None records = refl
count_step (Some uid) records = refl

count_slots : (slots : List Slot) → count_by (λ flag. flag) (map (λ (slot : Slot). is_some slot.uid) slots)
    ≡ count_by is_some (map entry_of slots)
count_slots [] = refl
count_slots (slot ∷ slots) =
    let a = sum_by-cons (λ flag. cond {A = ℕ} flag 1 0) (is_some slot.uid)
    (map (λ (slot : Slot). is_some slot.uid) slots) in
    let b = sum_by-cons (λ (entry : Option Entry). cond {A = ℕ} (is_some entry) 1 0) (entry_of slot)
    (map entry_of slots) in
    omega (arith, a, b, count_step slot.uid slot.map, count_slots slots)

pub count_same : {flags : List Bool} {slots : List Slot} {table : List (Option Entry)} → IsMarked flags slots
    → table_of slots ≡ table → count_by (λ flag. flag) flags ≡ count_by is_some table
unfolding table_of
count_same {slots} h view = cc (count_slots slots)

-- an entry that is taken counts for one more, and one that is freed for one less
pub count_taken : {table : List (Option Entry)} {e : ℕ} (uid : ℕ) → IsLeastFreeEntry table e
    → count_by is_some (set table e (fresh_entry uid)) ≡ count_by is_some table + 1
count_taken {table} {e} uid least =
    let step = sum_by-set (λ (entry : Option Entry). cond {A = ℕ} (is_some entry) 1 0) table e (fresh_entry uid) None
    least.within in
    let free : cond {A = ℕ} (is_some (entry_at table e)) 1 0 ≡ 0 = rw least.free refl in
    omega (arith, step, free)

weight_of_used : (entry : Option Entry) → IsSome entry → cond {A = ℕ} (is_some entry) 1 0 ≡ 1
weight_of_used None used = cc
weight_of_used (Some entry) used = refl

pub count_freed : (table : List (Option Entry)) (e : ℕ) → IsSome (entry_at table e)
    → count_by is_some (set table e None) + 1 ≡ count_by is_some table
count_freed table e used =
    let step = sum_by-set (λ (entry : Option Entry). cond {A = ℕ} (is_some entry) 1 0) table e None None
    (used_inside table e used) in
    omega (arith, step, weight_of_used (entry_at table e) used)

-- a table that is all free
table_free : (n : ℕ) → map entry_of (replicate n free_slot) ≡ replicate n None
table_free zero = refl
table_free (suc n) = cc (table_free n)

bits_free : (n : ℕ) → replicate n false ≡ map (λ (slot : Slot). is_some slot.uid) (replicate n free_slot)
bits_free zero = refl
bits_free (suc n) = cc (bits_free n)

free_at : (n e : ℕ) → slot_at (replicate n free_slot) e ≡ free_slot
free_at zero e = refl
free_at (suc n) zero = refl
free_at (suc n) (suc e) = free_at n e

pub table_new : {slots : List Slot} (n : ℕ) → slots ≡ replicate n free_slot → table_of slots ≡ replicate n None
unfolding table_of
table_new n is = cc (table_free n)

pub marked_new : (flags : List Bool) (slots : List Slot) (n : ℕ) → n < 2 ^ 32 → flags ≡ replicate n false → slots
    ≡ replicate n free_slot → IsMarked flags slots
marked_new flags slots n fits bits is = record {
  short = omega (arith, ap length is, length-replicate {A = Slot} n free_slot);
  marks = cc (bits_free n);
  empty = λ e _. ap (λ (s : Slot). s.map) (ap (λ (ss : List Slot). slot_at ss e) is ∙ free_at n e);
  places = λ e. ap (λ (s : Slot). length s.map) (ap (λ (ss : List Slot). slot_at ss e) is ∙ free_at n e)
      ∙ length_no_records;
}

-- a place of a used entry's map is written
used_uid : (uid : Option ℕ) (records : List (Option ℕ)) → is_some uid ≡ true → uid ≡ None → records ≡ no_records
used_uid None records used none = cc
used_uid (Some uid) records used none = cc

placed_in : (entry : Option Entry) (p : ℕ) (r : Option ℕ) → IsSome entry → p < length (records_in entry)
    → get_or (records_in (with_record entry p r)) p None ≡ r
placed_in None p r used lt = cc
placed_in (Some entry) p r used lt = get_or-set_same entry.records p r None lt

pub least_slot : {flags : List Bool} {slots : List Slot} {e : ℕ} → IsMarked flags slots → IsLeastFree flags e
    → e < length slots
least_slot {flags} {slots} h least = omega (arith, least.within, length_bits h)

module _ {flags : List Bool} {slots : List Slot} {table : List (Option Entry)} (h : IsMarked flags slots)
    (view : table_of slots ≡ table) where
  pub least_entry : {e : ℕ} → IsLeastFree flags e → IsLeastFreeEntry table e
  least_entry {e} least = record {
    within = omega (arith, least.within, length_bits h, length_table slots, ap length view);
    free = (kept h view e).entry ∙ none_seen (slot_at slots e).uid (slot_at slots e).map (cc (bit_is e h));
    before = λ k lt. ap is_none (kept h view k).entry
        ∙ is_none_seen (slot_at slots k).uid (slot_at slots k).map (sym (bit_is k h) ∙ least.before k lt);
  }

  pub all_used : All (λ flag. flag ≡ true) flags → All (λ entry. IsSome entry) table
  all_used all = All-from_get_or (λ entry. IsSome entry) table None (λ k lt. rw (kept h view k).entry
      (is_some_seen (slot_at slots k).uid (slot_at slots k).map (sym (bit_is k h) ∙ All-get_or
      (λ flag. flag ≡ true) flags k false (omega (arith, length_bits h, length_table slots, ap length view)) all)))

  pub put_marked : (e p : ℕ) (r : Option ℕ) → IsSome (entry_at table e)
      → IsMarked flags (set slots e (record { uid = (slot_at slots e).uid; map = set (slot_at slots e).map p r }))
  put_marked e p r used =
      let bit = sym (bit_is e h) in
      marked_same e _ h (used_slot h view e used) (used_uid (slot_at slots e).uid (set (slot_at slots e).map p r)
      (bit ∙ used_bit h view e used)) (cc (length-set (slot_at slots e).map p r, h.places e)) bit

  pub put_table : (e p : ℕ) (r : Option ℕ) → table_of (set slots e (record {
    uid = (slot_at slots e).uid;
    map = set (slot_at slots e).map p r;
  })) ≡ set table e (with_record (entry_at table e) p r)
  put_table e p r = table_with slots e _ ∙ ap (λ (t : List (Option Entry)). set t e (seen_as
      (slot_at slots e).uid (set (slot_at slots e).map p r))) view ∙ ap (λ (entry : Option Entry). set table e entry)
      (cc (with_record_seen (slot_at slots e).uid (slot_at slots e).map p r, (kept h view e).entry))

  pub put_placed : (e p : ℕ) {r : Option ℕ} → IsSome (entry_at table e) → p < 256
      → record_at (set table e (with_record (entry_at table e) p r)) e p ≡ r
  put_placed e p {r} used lt =
      let long : length (records_in (entry_at table e)) ≡ 256 = ap length (kept h view e).records ∙ h.places e in
      cc (
        get_or-set_same table e (with_record (entry_at table e) p r) None (used_inside table e used),
        placed_in (entry_at table e) p r used (omega (arith, long)),
      )

  -- the least free entry is allocated
  pub allocate_marked : {fs : List Bool} {e : ℕ} (uid : ℕ) → IsLeastFree flags e → fs ≡ set flags e true
      → IsMarked fs (set slots e (record { uid = Some uid; map = (slot_at slots e).map }))
  allocate_marked {e = e} uid least is = rw is (marked_with {flags = flags} {slots = slots} e _ h (least_slot h least)
      (λ none. used_uid (Some uid) (slot_at slots e).map refl none) (h.places e))

  pub allocate_table : {e : ℕ} (uid : ℕ) → IsLeastFree flags e
      → table_of (set slots e (record { uid = Some uid; map = (slot_at slots e).map })) ≡ set table e (fresh_entry uid)
  allocate_table {e} uid least =
      let none = none_there (slot_at slots e).uid (cc (bit_is e h)) in
      table_with slots e _ ∙ ap (λ (t : List (Option Entry)). set t e (seen_as (Some uid) (slot_at slots e).map)) view
      ∙ ap (λ (m : List (Option ℕ)). set table e (seen_as (Some uid) m)) (h.empty e none)

  -- a used entry whose map names no record is freed
  pub free_marked : {fs : List Bool} {e : ℕ} → IsSome (entry_at table e) → NamesNoRecord table e
      → fs ≡ set flags e false → IsMarked fs (set slots e (record { uid = None; map = (slot_at slots e).map }))
  free_marked {e = e} used none is =
      let records : records_in (entry_at table e) ≡ (slot_at slots e).map = (kept h view e).records in
      let empty : (slot_at slots e).map ≡ no_records = map_is_empty (h.places e) (λ p. cc (none.none p)) in
      rw is (marked_with e _ h (used_slot h view e used) (λ _. empty) (h.places e))

  pub free_table : (e : ℕ)
      → table_of (set slots e (record { uid = None; map = (slot_at slots e).map })) ≡ set table e None
  free_table e = table_with slots e _ ∙ ap (λ (t : List (Option Entry)). set t e None) view

  -- an entry that was just allocated names no record
  pub allocate_empty : {e : ℕ} (uid : ℕ) → IsLeastFree flags e → NamesNoRecord (set table e (fresh_entry uid)) e
  allocate_empty {e} uid least =
      let lt : e < length table = omega (arith, least.within, length_bits h, length_table slots, ap length view) in
      record { none = λ p. cc (get_or-set_same table e (fresh_entry uid) None lt, no_record p) }

  -- an entry names no record where its slot's map doesn't
  pub names_none : (e : ℕ) (x : Slot) (none : Bool) → x ≡ slot_at slots e
      → (IsTrue none ↔ ((p : ℕ) → get_or x.map p None ≡ None)) → (IsTrue none ↔ NamesNoRecord table e)
  names_none e x none slot is =
      let same : records_in (entry_at table e) ≡ x.map =
      (kept h view e).records ∙ ap (λ (s : Slot). s.map) (sym slot) in
      (λ t. record { none = λ p. cc (is.0 t p) }, λ n. is.1 (λ p. cc (n.none p)))
