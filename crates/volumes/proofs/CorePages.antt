-- What a list of pages in core holds, of which the first are held and the rest are zeros.
pub use Rattle.volumes.proofs.Prelude.{All-append, All-push, All-replicate, All-set, AreHeld, HaveFullPages, List, [], ap, append_assoc, arith, common_steps, drop-replicate, get_or, get_or-append_right, get_or-replicate, get_or_append_left, length, length-append, length-replicate, length-set, length_push, pages_of, refl, replicate, replicate_more, set, set-append_left, set-append_right, set_split, suc, sym, take-replicate, ℕ, ◌++◌, ◌+◌, ◌-◌, ◌<◌, ◌∙◌, ◌∷◌, ◌≡◌, ◌≤◌}

abbrev Pages : Type 0
Pages = List (List ℕ)

abbrev zeros : List ℕ
zeros = replicate 1024 0

zeros_full : length zeros ≡ 1024
zeros_full = length-replicate {A = ℕ} 1024 0

abbrev rest : ℕ → Pages
rest count = replicate count zeros

rest_full : (count : ℕ) → HaveFullPages (rest count)
rest_full count = All-replicate (λ words. length words ≡ 1024) count zeros zeros_full

pub length_pages : {held : Pages} {size room : ℕ} → AreHeld held size room → length (pages_of held size) ≡ size
unfolding pages_of
length_pages {held} {size} h =
    omega (
      arith,
      length-append held (rest (size - length held)),
      length-replicate {A = List ℕ} (size - length held) zeros,
      h.within,
    )

pub full_pages : {held : Pages} {size room : ℕ} → AreHeld held size room → HaveFullPages (pages_of held size)
unfolding pages_of
full_pages {held} {size} h = All-append (λ words. length words ≡ 1024) held (rest (size - length held)) h.full
    (rest_full (size - length held))

pub new_pages : {held : Pages} (size : ℕ) → held ≡ [] → pages_of held size ≡ rest size
unfolding pages_of
new_pages size none = let all : size - 0 ≡ size = omega arith in rw (none, all) refl

pub read_held : (held : Pages) (size r : ℕ) → r < length held → get_or (pages_of held size) r [] ≡ get_or held r []
unfolding pages_of
read_held held size r lt = get_or_append_left held (rest (size - length held)) [] r lt

pub read_past : (held : Pages) (size r : ℕ) → length held ≤ r → r < size → get_or (pages_of held size) r [] ≡ zeros
unfolding pages_of
read_past held size r past lt = get_or-append_right held (rest (size - length held)) (length held) r [] refl past
    ∙ get_or-replicate (size - length held) (r - length held) zeros [] (omega arith)

pub write_held : (held : Pages) (size r : ℕ) (words : List ℕ) → r < length held
    → pages_of (set held r words) size ≡ set (pages_of held size) r words
unfolding pages_of
write_held held size r words lt = rw (length-set held r words) (sym (set-append_left held (rest (size - length held)) r
    words lt))

set_rest : (count k : ℕ) (words : List ℕ) → k < count → set (rest count) k words ≡ rest k
    ++ words ∷ rest (count - suc k)
set_rest count k words lt =
    let long = length-replicate {A = List ℕ} count zeros in
    rw (
      set_split (rest count) k words (omega (arith, long)),
      take-replicate k count zeros (omega arith),
      drop-replicate (suc k) count zeros,
    ) refl

length_reached : (held : Pages) {r : ℕ} → length held ≤ r → length (held ++ rest (r - length held)) ≡ r
length_reached held {r} past =
    omega (arith, length-append held (rest (r - length held)), length-replicate {A = List ℕ} (r - length held) zeros)

pub write_past : (held : Pages) (size r : ℕ) (words : List ℕ) → length held ≤ r → r < size
    → pages_of ((held ++ rest (r - length held)) ++ words ∷ []) size ≡ set (pages_of held size) r words
unfolding pages_of
write_past held size r words past lt =
    let reach = length_reached held past in
    let long = length_push (held ++ rest (r - length held)) words ∙ ap (λ n. n + 1) reach in
    let left : size - length held - suc (r - length held) ≡ size - (r + 1) = omega arith in
    rw (
      long,
      append_assoc (held ++ rest (r - length held)) (words ∷ []) (rest (size - (r + 1))),
      append_assoc held (rest (r - length held)) (words ∷ rest (size - (r + 1))),
      set-append_right held (rest (size - length held)) (length held) r words refl past,
      set_rest (size - length held) (r - length held) words (omega arith),
      left,
    ) refl

pub written_held : {held : Pages} {size room : ℕ} (r : ℕ) (words : List ℕ) → AreHeld held size room
    → length words ≡ 1024 → AreHeld (set held r words) size room
written_held {held} r words h full =
    let within = h.within in
    record {
      within = omega (arith, length-set held r words, within);
      roomy = h.roomy;
      short = h.short;
      full = All-set (λ page. length page ≡ 1024) held r words full h.full;
    }

pub written_past : {held : Pages} {size room : ℕ} (r : ℕ) (words : List ℕ) → AreHeld held size room → length words
    ≡ 1024 → length held ≤ r → r < size → AreHeld ((held ++ rest (r - length held)) ++ words ∷ []) size room
written_past {held} r words h full past lt =
    record {
      within = omega (arith, length_push (held ++ rest (r - length held)) words, length_reached held past);
      roomy = h.roomy;
      short = h.short;
      full = All-push (λ page. length page ≡ 1024) (held ++ rest (r - length held)) words (All-append
          (λ page. length page ≡ 1024) held (rest (r - length held)) h.full (rest_full (r - length held))) full;
    }

pub new_full : {held : Pages} (size : ℕ) → held ≡ [] → HaveFullPages (pages_of held size)
new_full {held} size none = rw (new_pages size none) (rest_full size)

pub below_size : {held : Pages} {size room : ℕ} {pages : Pages} (r : ℕ) → AreHeld held size room
    → pages_of held size ≡ pages → r < length pages → r < size
below_size {held} {size} {room} r h view lt =
    let same = ap length view in
    omega (arith, length_pages h, same, lt)

pub reach_more : (old : Pages) {now next : Pages} (counter : ℕ) {words : List ℕ}
    → now ≡ old ++ rest (counter - length old)
    → length old ≤ counter → next ≡ now ++ words ∷ [] → words ≡ zeros → next ≡ old ++ rest (counter + 1 - length old)
reach_more old counter reached past is zero =
    let one : counter + 1 - length old ≡ counter - length old + 1 = omega arith in
    rw (
      is,
      zero,
      reached,
      one,
      append_assoc old (rest (counter - length old)) (zeros ∷ []),
      replicate_more (counter - length old) zeros,
    ) refl

-- a page that is held is written
pub write_held_page : (held : Pages) {pages : Pages} (size r : ℕ) {words from : List ℕ} → pages_of held size ≡ pages
    → r < length held → words ≡ from → pages_of (set held r words) size ≡ set pages r from
write_held_page held size r {from} view lt is =
    rw is (write_held held size r from lt) ∙ ap (λ (ps : Pages). set ps r from) view

-- a page past those held is written
pub write_past_page : (held : Pages) {now next pages : Pages} (size r : ℕ) {words from : List ℕ}
    → pages_of held size ≡ pages → length held ≤ r → r < size → now ≡ held ++ rest (r - length held)
    → next ≡ now ++ words ∷ [] → words ≡ from → pages_of next size ≡ set pages r from
write_past_page held size r {from} view past lt reach is same =
    rw (is, reach, same) (write_past held size r from past lt) ∙ ap (λ (ps : Pages). set ps r from) view

pub held_past_page : {held now next : Pages} {size room room' : ℕ} (r : ℕ) (words : List ℕ) → AreHeld held size room
    → room' ≡ room → length words ≡ 1024 → length held ≤ r → r < size → now ≡ held ++ rest (r - length held)
    → next ≡ now ++ words ∷ [] → AreHeld next size room'
held_past_page {held} {size} {room} r words h same full past lt reach is =
    rw (same, is, reach) (written_past r words h full past lt)
