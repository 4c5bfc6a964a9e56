pub use Rattle.bitmap.proofs.Prelude.{All, All-from_get_or, All-get_or, Bool, HasTwoLevels, IsFirstOff, IsLeastFree, List, None, Some, ap, arith, below_or_past, bit_at, bit_at-trailing_ones, bit_on, cases_eq, cond, count_by, count_by-le-length, count_with, count_without, eqb, eqb_tells, false, flag_within, flags_of, full_after, get_or, get_or_read, in_use, inl, inr, le-ltb, least_free, length, length-set, lt-ltb, not, prefix_len_is, refl, set, slice_index, sym, trailing_ones, true, w64, with_bit, without_bit, ℕ, ◌%◌, ◌*◌, ◌+◌, ◌-◌, ◌/◌, ◌<◌, ◌^◌, ◌∙◌, ◌≡◌, ◌≢◌, ◌≤◌}
pub use Rattle.bitmap.proofs.BitLemmas.{flag_at, flags_with_bit, flags_without_bit, length_flags, length_with_bit, length_without_bit, off_without_bit, off_word_has_room, on_in_full_word, on_with_bit, on_with_other, on_without_other, word_with_other, word_without_other}

-- a test for equality that fails, and one that holds
pub off_test : (a b : ℕ) → a ≢ b → eqb a b ≡ false
off_test a b ne = elim (eqb_tells a b) [ inl h ↦ absurd (ne h.1) | inr h ↦ h.0 ]

on_test : {a b : ℕ} → eqb a b ≡ true → a ≡ b
on_test {a} {b} on = elim (eqb_tells a b) [ inl h ↦ h.1 | inr h ↦ (let off = h.0 in cc) ]

-- the upper level where the lower one may have become full
length_full : (b : Bool) (full : List ℕ) (w : ℕ) → length (cond b (with_bit full w) full) ≡ length full
length_full true full w = length_with_bit full w
length_full false full w = refl

full_same : (b : Bool) (full : List ℕ) (w : ℕ) → bit_on full w ≡ false → w / 64 < length full
    → bit_on (cond b (with_bit full w) full) w ≡ b
full_same true full w off within = on_with_bit full w within
full_same false full w off within = off

full_other : (b : Bool) (full : List ℕ) (w k : ℕ) → w / 64 < length full → k ≢ w
    → bit_on (cond b (with_bit full w) full) k ≡ bit_on full k
full_other true full w k within ne = on_with_other full w k within ne
full_other false full w k within ne = refl

-- the two levels after bit r changes, and the bit of its word above
levels_after : {ws full now above : List ℕ} {size used count : ℕ} (r : ℕ) → HasTwoLevels ws full size used → r < size
    → length now ≡ length ws → length above ≡ length full → ((k : ℕ) → k ≢ r → bit_on now k ≡ bit_on ws k) → ((w : ℕ)
    → w ≢ r / 64 → bit_on above w ≡ bit_on full w) → ((w : ℕ) → w ≢ r / 64 → slice_index now w ≡ slice_index ws w)
    → bit_on above (r / 64) ≡ eqb (slice_index now (r / 64)) 18446744073709551615
    → count ≡ count_by (λ flag. flag) (flags_of now size) → HasTwoLevels now above size count
levels_after {ws} r h lt words_as_many full_as_many others full_others words here counted =
    let within : r / 64 < length ws = omega (arith, h.covers) in
    record {
      fits = h.fits;
      covers = rw words_as_many h.covers;
      short = rw words_as_many h.short;
      padding = λ k past inside. others k (omega arith) ∙ h.padding k past (rw (← words_as_many) inside);
      full_covers = rw (words_as_many, full_as_many) h.full_covers;
      full_short = rw full_as_many h.full_short;
      full_padding = λ w over inside. let past : length ws ≤ w = rw (← words_as_many) over in
          full_others w (omega arith) ∙ h.full_padding w past (rw (← full_as_many) inside);
      full_is = λ w inside. elim (cases_eq w (r / 64)) [
        | inl e ↦ rw e here
        | inr ne ↦ full_others w ne ∙ h.full_is w (rw (← words_as_many) inside)
            ∙ ap (λ x. eqb x 18446744073709551615) (sym (words w ne))
      ];
      counted = counted;
    }

-- the two levels after a free number is taken
pub levels_after_take : (ws full : List ℕ) (size used r : ℕ) → HasTwoLevels ws full size used → r < size → bit_on ws r
    ≡ false → HasTwoLevels (with_bit ws r) (full_after (with_bit ws r) full (r / 64)) size (used + 1)
levels_after_take ws full size used r h lt off =
    let within : r / 64 < length ws = omega (arith, h.covers) in
    let upper : r / 64 / 64 < length full = omega (arith, h.full_covers) in
    let now_full = eqb (slice_index (with_bit ws r) (r / 64)) 18446744073709551615 in
    let flags_within : r < length (flags_of ws size) = rw length_flags lt in
    levels_after r h lt (length_with_bit ws r) (length_full now_full full (r / 64)) (λ k ne. on_with_other ws
    r k within ne) (λ w ne. full_other now_full full (r / 64) w upper ne) (word_with_other ws r) (full_same now_full
    full (r / 64) (h.full_is (r / 64) within ∙ off_test _ _ (off_word_has_room ws r off)) upper) (cc (
      flags_with_bit ws size r lt within,
      count_with (flags_of ws size) r flags_within (flag_at ws size r false lt ∙ off),
    ))

-- the two levels after a number is given back
pub levels_after_give : {ws full : List ℕ} {size used : ℕ} (r : ℕ) → HasTwoLevels ws full size used → r < size
    → bit_on ws r ≡ true → HasTwoLevels (without_bit ws r) (without_bit full (r / 64)) size (used - 1)
levels_after_give {ws} {full} {size} {used} r h lt on =
    let within : r / 64 < length ws = omega (arith, h.covers) in
    let upper : r / 64 / 64 < length full = omega (arith, h.full_covers) in
    let is = ap (count_by (λ flag. flag)) (flags_without_bit ws size r lt within) in
    let fewer : count_by (λ flag. flag) (flags_of (without_bit ws r) size) + 1 ≡ used = ap (λ n. n + 1) is
    ∙ (count_without (flags_of ws size) r (flag_at ws size r false lt ∙ on)) ∙ sym h.counted in
    levels_after r
    h lt (length_without_bit ws r) (length_without_bit full (r / 64)) (λ k ne. on_without_other ws r k within ne)
    (λ w ne. on_without_other full (r / 64) w upper ne) (word_without_other ws r) (off_without_bit full (r / 64) upper
    ∙ sym (off_test _ _ (off_word_has_room (without_bit ws r) r (off_without_bit ws r within)))) (omega (arith, fewer))

-- bit t of word w
bit_in_word : (ws : List ℕ) {w t : ℕ} (r : ℕ) → r / 64 ≡ w → r % 64 ≡ t
    → bit_on ws r ≡ eqb (bit_at (slice_index ws w) t) 1
unfolding bit_on
bit_in_word ws r a b = rw (a, b) refl

-- in the first word that is not full, the first bit that is off is the first of all
pub first_in_word : (ws : List ℕ) (w : ℕ) → w < length ws → slice_index ws w ≢ 18446744073709551615
    → slice_index ws w < 2 ^ 64 → ((v : ℕ) → v < w → slice_index ws v ≡ 18446744073709551615)
    → IsFirstOff ws (64 * w + trailing_ones w64 (slice_index ws w))
first_in_word ws w inside room fits before =
    first_at (trailing_ones w64 (slice_index ws w)) (bit_at-trailing_ones w64 (slice_index ws w) (omega arith))
  where
    first_at : (t : ℕ) → (t < 64) × (bit_at (slice_index ws w) t ≡ 0)
        × ((i : ℕ) → i < t → bit_at (slice_index ws w) i ≡ 1) → IsFirstOff ws (64 * w + t)
    first_at t h = let below : t < 64 = h.0 in record {
      within = omega arith;
      off = let high : (64 * w + t) / 64 ≡ w = omega arith in let low : (64 * w + t) % 64 ≡ t = omega arith in
          bit_in_word ws (64 * w + t) high low ∙ rw h.1 refl;
      before = λ k lt. elim (cases_eq (k / 64) w) [
        | inl e ↦ (let low : k % 64 < t = omega arith in bit_in_word ws k e refl ∙ rw (h.2 (k % 64) low) refl)
        | inr ne ↦ (let under : k / 64 < w = omega arith in on_in_full_word ws k (before (k / 64) under))
      ];
    }

-- where no word has a bit off, every bit is on
pub all_on : (ws : List ℕ) → ((v : ℕ) → v < length ws → slice_index ws v ≡ 18446744073709551615) → (r : ℕ)
    → r < 64 * length ws → bit_on ws r ≡ true
all_on ws full r lt = let inside : r / 64 < length ws = omega arith in on_in_full_word ws r (full (r / 64) inside)

-- the least free number by the two levels: w is the first word with room
pub least_by_levels : (ws full : List ℕ) (size used w : ℕ) → HasTwoLevels ws full size used → IsFirstOff full w
    → slice_index ws w < 2 ^ 64 → IsLeastFree (flags_of ws size) (64 * w + trailing_ones w64 (slice_index ws w))
least_by_levels ws full size used w h first fits =
    in_flags (64 * w + trailing_ones w64 (slice_index ws w)) (first_in_word ws w inside room fits below)
  where
    inside : w < length ws
    inside = elim (below_or_past w (length ws)) [
      | inl lt ↦ lt
      | inr past ↦ absurd (cc (h.full_padding w past first.within, first.off))
    ]

    room : slice_index ws w ≢ 18446744073709551615
    room e = let test : bit_on full w ≡ true = h.full_is w inside ∙ rw e refl in let off = first.off in cc

    below : (v : ℕ) → v < w → slice_index ws v ≡ 18446744073709551615
    below v lt = on_test (sym (h.full_is v (omega (arith, inside))) ∙ first.before v lt)

    known : (r : ℕ) → IsFirstOff ws r → r < size
    known r is = elim (below_or_past r size) [
      | inl lt ↦ lt
      | inr past ↦ absurd (cc (h.padding r past is.within, is.off))
    ]

    in_flags : (r : ℕ) → IsFirstOff ws r → IsLeastFree (flags_of ws size) r
    in_flags r is = record {
      within = rw length_flags (known r is);
      free = flag_at ws size r false (known r is) ∙ is.off;
      before = λ k lt. flag_at ws size k false (omega (arith, known r is)) ∙ is.before k lt;
    }

-- where the upper level has no bit off, all numbers are in use
pub none_by_levels : {ws full : List ℕ} {size used : ℕ} → HasTwoLevels ws full size used
    → ((w : ℕ) → w < 64 * length full → bit_on full w ≡ true) → All (λ flag. flag ≡ true) (flags_of ws size)
none_by_levels {ws} {size} h on = All-from_get_or (λ flag. flag ≡ true) (flags_of ws size) false
    (λ r lt. let below : r < size = rw (← length_flags ws size) lt in
    let inside : r / 64 < length ws = omega (arith, h.covers) in
    let word = on_test (sym (h.full_is (r / 64) inside) ∙ on (r / 64) (omega (arith, h.full_covers))) in
    flag_at ws size r false below ∙ on_in_full_word ws r word)

-- the relation and the function say the same
pub least_is : {flags : List Bool} {r : ℕ} → IsLeastFree flags r → least_free flags ≡ Some r
least_is {flags} {r} h =
    let place = prefix_len_is (λ flag. not (not flag))
    flags r false (omega (arith, h.within)) (λ k lt. rw (h.before k lt) refl) (λ lt. rw h.free refl) in
    rw (place, lt-ltb r (length flags) h.within) refl

pub none_is : (flags : List Bool) → All (λ flag. flag ≡ true) flags → least_free flags ≡ None
none_is flags h =
    let place = prefix_len_is (λ flag. not (not flag)) flags (length flags) false (omega arith)
    (λ k lt. rw (All-get_or (λ flag. flag ≡ true) flags k false lt h) refl) (λ lt. absurd (omega arith)) in
    rw (place, le-ltb (length flags) (length flags) (omega arith)) refl

-- where number r stands in the two levels of a map that is seen as these flags
pub record IsPlaced (ws full : List ℕ) (size : ℕ) (flags : List Bool) (r : ℕ) : Type 0 where
  pub below : r < size
  pub word : r / 64 < length ws
  pub mark : r / 64 / 64 < length full
  pub is : bit_on ws r ≡ in_use flags r

pub placed : {ws full : List ℕ} {size used : ℕ} {flags : List Bool} {r : ℕ} → HasTwoLevels ws full size used
    → flags_of ws size ≡ flags → r < length flags → IsPlaced ws full size flags r
placed {ws} {size} {r} h view lt =
    let below : r < size = omega (arith, length_flags ws size, ap length view) in record {
      below = below;
      word = omega (arith, h.covers);
      mark = omega (arith, h.covers, h.full_covers);
      is = cc (flag_at ws size r false below);
    }

-- a number more is in use than before, and all are at most the size
pub room_for_one : {ws full : List ℕ} {size used : ℕ} {flags : List Bool} (r : ℕ) → HasTwoLevels ws full size used
    → flags_of ws size ≡ flags → r < length flags → in_use flags r ≡ false → used + 1 ≤ size
room_for_one {ws} {size} {used} {flags} r h view lt free =
    let most = count_by-le-length (λ flag. flag) (set flags r true) in
    let same = h.counted ∙ ap (count_by (λ flag. flag)) view in
    omega (arith, length_flags ws size, ap length view, count_with flags r lt free, most, length-set flags r true, same)

-- the answer of a search by the two levels, in the terms in which its steps give it
pub found_by_levels : (ws full fs : List ℕ) (size used w x t : ℕ) (flags : List Bool)
    → HasTwoLevels ws full size used → flags_of ws size ≡ flags → IsFirstOff fs w → fs ≡ full
    → w < length ws → x ≡ get_or ws w x → x < 2 ^ 64 → t ≡ trailing_ones w64 x → IsLeastFree flags (64 * w + t)
found_by_levels ws full fs size used w x t flags h view first same inside read fits ones =
    let word = get_or_read ws w x inside read 0 in
    rw (ones, word, ← view) (least_by_levels ws full size used w h (rw (← same) first) (rw (← word) fits))

pub none_found : {ws full fs : List ℕ} {size used : ℕ} {flags : List Bool} → HasTwoLevels ws full size used → flags_of
    ws size ≡ flags → fs ≡ full → ((w : ℕ) → w < 64 * length fs → bit_on fs w ≡ true) → All (λ flag. flag ≡ true) flags
none_found {ws} {full} {size} {used} h view same on = rw (← view) (none_by_levels h (rw (← same) on))

-- a word with a bit off in the upper level is there
pub first_inside : {ws full fs : List ℕ} {size used w : ℕ} → HasTwoLevels ws full size used → IsFirstOff fs w → fs
    ≡ full → w < length ws
first_inside {ws} {full} {w} h first same =
    elim (below_or_past w (length ws)) [
      | inl lt ↦ lt
      | inr past ↦ (let here : IsFirstOff full w = rw (← same) first in let on =
          h.full_padding w past here.within in let off = here.off in absurd (cc))
    ]
