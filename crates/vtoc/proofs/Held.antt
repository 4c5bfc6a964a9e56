-- A list of slots of which the first are held, and the rest are free.
pub use Rattle.vtoc.proofs.Prelude.{AreRoomy, List, None, Option, Slot, Some, [], ap, append_assoc, arith, below_or_past, common_steps, free_slot, get_or, get_or-append_right, get_or-replicate, get_or_append_left, get_or_past, get_or_read, inl, inr, is_some, length, length-append, length-replicate, length-set, length_push, no_records, refl, replicate, set, set-append_left, set-append_right, slot_at, slots_of, suc, sym, true, ℕ, ◌++◌, ◌+◌, ◌-◌, ◌<◌, ◌∙◌, ◌∷◌, ◌≡◌, ◌≤◌}

abbrev rest : ℕ → List Slot
rest count = replicate count free_slot

pub new_slots : {held : List Slot} (size : ℕ) → held ≡ [] → slots_of held size ≡ rest size
unfolding slots_of
new_slots size none =
    let all : size - 0 ≡ size = omega arith in
    rw (none, all) refl

pub length_slots : {held : List Slot} {size room : ℕ} → AreRoomy held size room → length (slots_of held size) ≡ size
unfolding slots_of
length_slots {held} {size} h =
    omega (
      arith,
      length-append held (rest (size - length held)),
      length-replicate {A = Slot} (size - length held) free_slot,
      h.within,
    )

pub size_slots : {held : List Slot} {size room : ℕ} {slots : List Slot} → AreRoomy held size room
    → slots_of held size ≡ slots → size ≡ length slots
size_slots {held} {size} {room} h view = cc (length_slots h)

pub slot_held : (held : List Slot) (size e : ℕ) → e < length held → slot_at (slots_of held size) e ≡ slot_at held e
unfolding slots_of
slot_held held size e lt = get_or_append_left held (rest (size - length held)) free_slot e lt

slot_rest : (count k : ℕ) → get_or (rest count) k free_slot ≡ free_slot
slot_rest count k = elim (below_or_past k count) [
  | inl lt ↦ get_or-replicate count k free_slot free_slot lt
  | inr past ↦ get_or_past (rest count) k free_slot (omega (arith, length-replicate {A = Slot} count free_slot, past))
]

pub slot_past : (held : List Slot) (size e : ℕ) → length held ≤ e → slot_at (slots_of held size) e ≡ free_slot
unfolding slots_of
slot_past held size e past = get_or-append_right held (rest (size - length held)) (length held) e free_slot refl past
    ∙ slot_rest (size - length held) (e - length held)

no_uid : (uid : Option ℕ) → uid ≡ None → is_some uid ≡ true → ⊥
no_uid None none used = cc
no_uid (Some uid) none used = cc

-- a slot with a uid is held
pub used_held : (held : List Slot) (size e : ℕ) (slots : List Slot) → slots_of held size ≡ slots
    → is_some (slot_at slots e).uid ≡ true → e < length held
used_held held size e slots view used = elim (below_or_past e (length held)) [
  | inl lt ↦ lt
  | inr past ↦ (let free : slot_at slots e ≡ free_slot = ap (λ (ss : List Slot). slot_at ss e) (sym view)
      ∙ slot_past held size e past in
      absurd (no_uid (slot_at slots e).uid (cc) used))
]

-- what a read of a held slot gives
pub held_read : (held : List Slot) (size e : ℕ) {slots : List Slot} {x : Slot} → slots_of held size ≡ slots
    → e < length held → x ≡ get_or held e x → x ≡ slot_at slots e
held_read held size e {x} view lt read = cc (get_or_read held e x lt read free_slot, slot_held held size e lt)

pub past_read : (held : List Slot) (size e : ℕ) {slots : List Slot} → slots_of held size ≡ slots → length held ≤ e
    → None ≡ (slot_at slots e).uid
past_read held size e view past = ap (λ (s : Slot). s.uid) (sym (slot_past held size e past))
    ∙ ap (λ (ss : List Slot). (slot_at ss e).uid) view

-- a held slot is written
pub set_held : (held : List Slot) (size e : ℕ) {slots : List Slot} {x y : Slot} → slots_of held size ≡ slots
    → e < length held → x ≡ y → slots_of (set held e x) size ≡ set slots e y
unfolding slots_of
set_held held size e {y} view lt same =
    rw (same, length-set held e y) (cc (set-append_left held (rest (size - length held)) e y lt))

pub roomy_set : {held : List Slot} {size room : ℕ} (e : ℕ) (x : Slot) → AreRoomy held size room
    → AreRoomy (set held e x) size room
roomy_set {held} e x h =
    let within = h.within in
    record { within = omega (arith, length-set held e x, within); roomy = h.roomy }

-- each slot before e has a uid, so e is at most the first that isn't held
pub at_end : (held : List Slot) (size : ℕ) {e : ℕ} {slots : List Slot} → slots_of held size ≡ slots → length held ≤ e
    → ((k : ℕ) → k < e → is_some (slot_at slots k).uid ≡ true) → e ≡ length held
at_end held size {e} {slots} view past before = elim (below_or_past (length held) e) [
  | inl lt ↦ absurd (omega (arith, used_held held size (length held) slots view (before (length held) lt)))
  | inr le ↦ omega (arith, le, past)
]

-- the slot after those held is given a uid
push_same : (held : List Slot) (size : ℕ) (y : Slot) → length held < size
    → slots_of (held ++ y ∷ []) size ≡ set (slots_of held size) (length held) y
unfolding slots_of
push_same held size y lt =
    let one : size - length held ≡ suc (size - (length held + 1)) = omega (arith, lt) in
    let none : length held - length held ≡ 0 = omega arith in
    rw (
      length_push held y,
      append_assoc held (y ∷ []) (rest (size - (length held + 1))),
      set-append_right held (rest (size - length held)) (length held) (length held) y refl (omega arith),
      none,
      one,
    ) refl

abbrev pub slot_with : Option ℕ → List (Option ℕ) → Slot
slot_with uid map = record { uid = uid; map = map }

slot_same : {uid uid' : Option ℕ} {map map' : List (Option ℕ)} → uid ≡ uid' → map ≡ map'
    → slot_with uid map ≡ slot_with uid' map'
slot_same same empty = rw (same, empty) refl

pub push_held : (held : List Slot) {next : List Slot} (size : ℕ) {e : ℕ} {slots : List Slot} (x : Slot) {uid : ℕ}
    → slots_of held size ≡ slots → e ≡ length held → e < size → next ≡ held ++ x ∷ [] → x.uid ≡ Some uid
    → x.map ≡ no_records → slots_of next size ≡ set slots e (record { uid = Some uid; map = (slot_at slots e).map })
push_held held size {e} {slots} x {uid} view end lt is named empty =
    let map : (slot_at slots e).map ≡ no_records = ap (λ (ss : List Slot). (slot_at ss e).map) (sym view)
    ∙ ap (λ (s : Slot). s.map) (slot_past held size e (omega (arith, end))) in
    let y : Slot = record { uid = Some uid; map = (slot_at slots e).map } in
    let same : x ≡ y = slot_same named (cc) in
    cc (push_same held size y (omega (arith, end, lt)))

pub roomy_push : {held next : List Slot} {size room room' e : ℕ} (x : Slot) → AreRoomy held size room
    → room' ≡ room → e ≡ length held → e < size → next ≡ held ++ x ∷ [] → AreRoomy next size room'
roomy_push {held} x h same end lt is =
    rw (is, same) (record { within = omega (arith, length_push held x, end, lt); roomy = h.roomy })
