-- Once every frame was visited no stored page is all zeros: such a page would be in a frame, and the pages that stayed
-- in theirs have a word other than 0.
use Rattle.machine.proofs.Prelude.{◌≡◌, ◌<◌, ◌≤◌, ◌+◌, ◌*◌, ℕ, Bool, true, false, get_or, length, List, refl, sym, ◌∙◌, arith, ◌/◌, ◌%◌, All, and_parts, get_or_past, length-replicate, AreZero, is_stored, is_zero_page, zero_words, HaveFullPages, is_stored_at, words_of_page, bindings, IsInFrame, place_of, IsHomeOf, is_filed, is_there, picture, Keeps, flat_of, home_in, is_active, State, active_place, frame_words, binding_is, none_some, active_at, AllVisited, HasNoZeros, words_of, get_or_default_zero, zeros_to, []}
use Rattle.machine.proofs.VisitNext.{bound_there}

-- ---- pages of 1024 words

abbrev IsFull : List ℕ → Type 0
IsFull words = length words ≡ 1024

few_words : (pages : List (List ℕ)) → All IsFull pages → (r : ℕ) → length (get_or pages r []) ≤ 1024
few_words pages full r = grind (arith, get_or_past)

full_disk : (disks : List (List (List ℕ))) → All HaveFullPages disks → (v : ℕ) → HaveFullPages (get_or disks v [])
full_disk disks full v = grind (arith, get_or_past)

-- ---- zeros

module _ (s : State) (k : Keeps s) where
  module _ (u p : ℕ) (stored : is_stored (flat_of s).stored u p ≡ true) where
    filed : is_filed s.store.accounts s.store.pages.vtocs u p ≡ true
    filed = cc (k.faithful.pages.stored u p)

    parts : (is_there s.store.accounts.nodes u ≡ true) × (is_stored_at s.store.pages (home_in s.store u) p ≡ true)
    unfolding is_filed
    parts = and_parts (is_there s.store.accounts.nodes u) (is_stored_at s.store.pages (home_in s.store u) p) filed

    home_is : IsHomeOf s.store.pages.vtocs u (home_in s.store u)
    home_is = record {
      used = k.store.counted.housed.homes u parts.0;
      only = λ other e. k.store.counted.housed.only other u e;
    }

    -- a page of zeros that is stored is in a frame
    in_frame : AreZero (words_of s u p) → IsInFrame (bindings s.store.pages.core) u p
    in_frame zeros = by (is_active s.store.ast u) refl
      where
        by : (b : Bool) → is_active s.store.ast u ≡ b → IsInFrame (bindings s.store.pages.core) u p
        by true active = (k.store.kept.paged.ties (place_of s.store.ast.entries u) u (home_in s.store u)
            (active_place s.store.ast u active).1 home_is).zeros p parts.1 zeros
        by false off = (k.store.kept.paged.rest u (home_in s.store u) (record {
          nowhere = λ place at. (let no : true ≡ false = sym (active_at s.store.ast place u at) ∙ off in cc);
        }) home_is).tie.zeros p parts.1 zeros

    -- the words of the flat store are the page's own
    word_at : (i : ℕ) → i < 1024 → (flat_of s).words u (1024 * p + i) ≡ get_or (words_of s u p) i 0
    unfolding picture
    word_at i lt =
        let page : (1024 * p + i) / 1024 ≡ p = omega (arith, lt) in
        let place : (1024 * p + i) % 1024 ≡ i = omega (arith, lt) in
        cc (k.faithful.pages.words u (1024 * p + i), parts.0, page, place)

    zeros_there : length (words_of s u p) ≤ 1024 → is_zero_page (flat_of s).words u p ≡ true → AreZero (words_of s u p)
    zeros_there size zeros i d lt = get_or_default_zero (words_of s u p) i d lt ∙ (sym (word_at i (omega arith))
        ∙ zero_words (flat_of s).words u p i zeros (omega arith))

    module _ (each : AllVisited s) where
      no_zeros : AreZero (words_of s u p) → ⊥
      no_zeros zeros = grind (arith, in_frame, binding_is, bound_there, none_some, zeros_to, frame_words)

      some_word : length (words_of s u p) ≤ 1024 → is_zero_page (flat_of s).words u p ≡ false
      some_word size = grind (arith, no_zeros, zeros_there)

  -- a page has at most 1024 words where it is, if the frames and the pages of the drives have as many
  page_size : All IsFull s.store.pages.frames → All HaveFullPages s.store.pages.disks → (u p : ℕ)
      → length (words_of s u p) ≤ 1024
  unfolding words_of_page
  page_size frames disks u p = grind (arith, length-replicate, few_words, full_disk)

  -- No stored page is all zeros.
  pub has_no_zeros : All IsFull s.store.pages.frames → All HaveFullPages s.store.pages.disks → AllVisited s
      → HasNoZeros s
  has_no_zeros frames disks each = record {
    pages = λ u p stored. no_zeros u p stored each;
    settled = record {
      quotas = k.conserved.total;
      within = k.conserved.within;
      words = λ u p stored. some_word u p stored each (page_size frames disks u p);
    };
  }
