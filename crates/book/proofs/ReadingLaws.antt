-- That each entry's text is read back as the entry, and that nothing else is read.
use Rattle.book.proofs.Prelude.{rules, ◌≡◌, ℕ, zero, suc, ◌+◌, ◌<◌, ◌≤◌, ◌^◌, ◌⊎◌, Bool, true, false, not, ◌&&◌, cond, eqb, List, [], ◌∷◌, ◌++◌, length, get_or, take, drop, drop-cons, add-one, Option, Some, None, refl, sym, ap, subst, ◌∙◌, arith, IfSome, inl, inr, codes, nat_lt, nat_le, ◌==◌, ◌/◌, ◌%◌, is_ascii_digit, decimal, AllByRecursion, slice_split, list_all, join_with_byte, before_first, after_first, position_or_len, option_map, option_and_then, bytes_eq, digits_value, nat_tests, decimal_digit, digits_decimal, decimal-digits_value, digits_value-decimal, decimal_nonempty, length-decimal-le, first_decimal, common_steps, append_assoc, take_all, join_with_byte-slice_split, split_at_first, take-suc, list_all-append, bytes_eq-Decides, IsNumeralModel, numerals_by_value, octal_number_push, octal_digits_all, length-octal_digits, octal_number_digits, octal_digits, octal_number, is_octal_digit, is_octal, octal_value, What, what, Entry, entry, Named, named, Reply, reply, counted_text, entry_text, number_text, what_text, bare_replies, bare_text, reply_text, is_space, is_dot, is_plain, is_number, number_of, number_or_none, word_of, both, dotted_of, named_reply, bare_reply, numbered_reply, status_reply, status_of, triple, reply_of, what_of, dropped_of, named_of, gone, back, filled, fill_of, fault_of, answered_of, do_of, of_one, of_two, of_three, plain_of, entry_of, entry_of_words, IsSmall, IsReply, IsWhat, IsEntry}
use Rattle.book.proofs.Words.{lacks, AllLack, words_of_join, before_dot, after_dot, dot_there, dot_within}

-- ---- numbers

own : IsNumeralModel (λ ds. list_all is_ascii_digit ds ≡ true) (digits_value 10)
own = numerals_by_value _ (search rules)

plain_by : (t : List ℕ) → 0 < length t → length t ≤ 10 → (48 < get_or t 0 0) ⊎ (length t ≡ 1) → is_plain t ≡ true
plain_by t some short (inl above) = grind (arith, nat_tests)
plain_by t some short (inr one) = grind (arith, nat_tests)

plain_decimal : (n : ℕ) → n < 2 ^ 32 → is_plain (decimal n) ≡ true
plain_decimal n h = plain_by (decimal n) (decimal_nonempty n (omega arith))
    (length-decimal-le 10 n (omega arith) (omega arith) (omega arith)) (by_zero (eqb n 0) refl)
  where
    by_zero : (z : Bool) → eqb n 0 ≡ z → (48 < get_or (decimal n) 0 0) ⊎ (length (decimal n) ≡ 1)
    by_zero true e = let none : n ≡ 0 = grind (arith, nat_tests) in
        inr (ap (λ (m : ℕ). length (decimal m)) none ∙ ap length (decimal_digit 0 (omega arith)))
    by_zero false e = let some : 0 < n = grind (arith, nat_tests) in inl (first_decimal n some (omega arith))

number_is : (t : List ℕ) (n : ℕ) → is_plain t ≡ true → list_all is_ascii_digit t ≡ true → digits_value 10 t ≡ n
    → n < 2 ^ 32 → number_of t ≡ Some n
unfolding number_of
number_is t n plain digits value small = grind (arith, nat_tests, common_steps, nat_lt)

number_again : (n : ℕ) → n < 2 ^ 32 → number_of (decimal n) ≡ Some n
number_again n h = number_is (decimal n) n (plain_decimal n h) (digits_decimal own n (omega arith))
    (digits_value-decimal own n (omega arith)) h

number_parts : (t : List ℕ) → is_number t ≡ true → decimal (digits_value 10 t) ≡ t
number_parts t h =
    let digits : list_all is_ascii_digit t ≡ true = grind (arith, nat_tests) in
    let plain : is_plain t ≡ true = grind (arith, nat_tests) in
    let some : 0 < length t = grind (arith, nat_tests) in
    let one : get_or t 0 0 ≡ 48 → length t ≡ 1 = λ zero. grind (arith, nat_tests) in
    let small : digits_value 10 t < 2 ^ 32 = grind (arith, nat_tests) in
    decimal-digits_value own t digits some one (omega arith)

number_only : (t : List ℕ) (n : ℕ) → number_of t ≡ Some n → decimal n ≡ t
unfolding number_of
number_only t n h = grind (arith, nat_tests, common_steps, number_parts)

-- what no byte of a kind passes, a text of such bytes lacks: digits are no space and no dot
all_lack : (kind p : ℕ → Bool) → ((b : ℕ) → kind b ≡ true → p b ≡ false) → (t : List ℕ) → list_all kind t ≡ true
    → lacks p t ≡ true
all_lack kind p h [] all = refl
all_lack kind p h (b ∷ bs) all = grind (arith, nat_tests, common_steps, all_lack kind p h bs (grind (arith, nat_tests)))

spaceless : (n : ℕ) → n < 2 ^ 32 → lacks is_space (decimal n) ≡ true
spaceless n h =
    all_lack is_ascii_digit is_space (λ b d. grind (arith, nat_tests)) (decimal n) (digits_decimal own n (omega arith))

dotless : (n : ℕ) → n < 2 ^ 32 → lacks is_dot (decimal n) ≡ true
dotless n h =
    all_lack is_ascii_digit is_dot (λ b d. grind (arith, nat_tests)) (decimal n) (digits_decimal own n (omega arith))

lacks-append : (p : ℕ → Bool) (xs ys : List ℕ) → lacks p xs ≡ true → lacks p ys ≡ true → lacks p (xs ++ ys) ≡ true
lacks-append p xs ys h g = list_all-append (λ b. not (p b)) xs ys ∙ rw h g

dotted_again : (k i : ℕ) → k < 2 ^ 32 → i < 2 ^ 32 → dotted_of (decimal k ++ (46 ∷ decimal i)) ≡ Some (k, i)
dotted_again k i hk hi = grind (arith, nat_tests, common_steps, before_dot, dotless, after_dot, number_again)

-- a word that equals another is the other
is_word : (w v : List ℕ) → bytes_eq w v ≡ true → w ≡ v
is_word w v h = (bytes_eq-Decides w v).0 h

no_dash : number_of (codes "-") ≡ None
unfolding number_of
no_dash = refl

optional_again : (f : Option ℕ) → IfSome f IsSmall → number_or_none (number_text f) ≡ Some f
unfolding number_text
optional_again None h = refl
optional_again (Some n) h = grind (arith, nat_tests, common_steps, number_again, is_word, no_dash)

-- what holds of what a test chooses
same : {A : Type 0} (w v : List ℕ) (x y : Option A) (P : Option A → Type 0) → (w ≡ v → P x) → P y
    → P (cond (bytes_eq w v) x y)
same w v x y P h g = grind (arith, nat_tests, common_steps, is_word)

-- what holds of each value that there may be
from_each : {A : Type 0} (o : Option A) (Q : A → Type 0) → ((a : A) → o ≡ Some a → Q a) → IfSome o Q
from_each None Q h = tt
from_each (Some a) Q h = h a refl

of_value : {A : Type 0} (o : Option A) (Q : A → Type 0) (a : A) → IfSome o Q → o ≡ Some a → Q a
of_value o Q a h e = let P : Option _ → Type 0 = λ x. IfSome x Q in subst P e h

mapped : {A B : Type 0} (o : Option A) (f : A → B) (Q : B → Type 0) → IfSome o (λ a. Q (f a))
    → IfSome (option_map f o) Q
mapped None f Q h = tt
mapped (Some a) f Q h = h

chained : {A B : Type 0} (o : Option A) (f : A → Option B) (Q : B → Type 0) → IfSome o (λ a. IfSome (f a) Q)
    → IfSome (option_and_then f o) Q
chained None f Q h = tt
chained (Some a) f Q h = h

both_each : {A B : Type 0} (a : Option A) (b : Option B) (Q : A × B → Type 0)
    → ((x : A) (y : B) → a ≡ Some x → b ≡ Some y → Q (x, y)) → IfSome (both a b) Q
both_each None b Q h = tt
both_each (Some x) None Q h = tt
both_each (Some x) (Some y) Q h = h x y refl refl

triple_each : {A B C : Type 0} (a : Option A) (b : Option B) (c : Option C) (Q : A × B × C → Type 0)
    → ((x : A) (y : B) (z : C) → a ≡ Some x → b ≡ Some y → c ≡ Some z → Q (x, y, z)) → IfSome (triple a b c) Q
triple_each None b c Q h = tt
triple_each (Some x) None c Q h = tt
triple_each (Some x) (Some y) None Q h = tt
triple_each (Some x) (Some y) (Some z) Q h = h x y z refl refl refl

-- ---- octal digits

word_again : (w : ℕ) → w < 2 ^ 36 → word_of (octal_digits 12 w) ≡ Some w
unfolding word_of octal_value is_octal
word_again w h = rw (length-octal_digits 12 w, octal_digits_all 12 w, octal_number_digits 12 w h) refl

-- octal digits are those of the number that they stand for
digits_again : (count : ℕ) (t : List ℕ) → length t ≡ count → list_all is_octal_digit t ≡ true
    → octal_digits count (octal_number t) ≡ t
unfolding octal_digits
digits_again zero [] len all = refl
digits_again zero (b ∷ bs) len all = absurd (omega arith)
digits_again (suc count) t len all =
    let whole : take count t ++ get_or t count 0 ∷ [] ≡ t = sym (take-suc t count 0 (omega arith))
    ∙ take_all (suc count) t (omega arith) in
    let tests = sym (list_all-push (take count t) (get_or t count 0)) ∙ ap (list_all is_octal_digit) whole ∙ all in
    let front : list_all is_octal_digit (take count t) ≡ true = grind (arith, nat_tests) in
    let digit : is_octal_digit (get_or t count 0) ≡ true = grind (arith, nat_tests) in
    let low : 48 ≤ get_or t count 0 = grind (arith, nat_tests) in
    let high : get_or t count 0 ≤ 55 = grind (arith, nat_tests) in
    let number = ap octal_number (sym whole) ∙ octal_number_push (take count t) (get_or t count 0) in
    let upper : octal_number t / 8 ≡ octal_number (take count t) = omega arith in
    let lower : 48 + octal_number t % 8 ≡ get_or t count 0 = omega arith in
    let short : length (take count t) ≡ count = grind (arith, common_steps) in
    rw (upper, lower) (ap (λ (x : List ℕ). x ++ get_or t count 0 ∷ []) (digits_again count (take count t) short front)
    ∙ whole)
  where
    list_all-push : (xs : List ℕ) (d : ℕ) → list_all is_octal_digit (xs ++ d ∷ [])
        ≡ (list_all is_octal_digit xs && is_octal_digit d)
    list_all-push xs d = list_all-append is_octal_digit xs (d ∷ []) ∙ grind (arith, nat_tests)

word_only : (t : List ℕ) (w : ℕ) → word_of t ≡ Some w → octal_digits 12 w ≡ t
unfolding word_of octal_value is_octal
word_only t w h = by_length (length t == 12) refl h
  where
    by_digits : (z : Bool) → length t ≡ 12 → ((nat_le 1 (length t) && nat_le (length t) 12)
        && list_all is_octal_digit t) ≡ z → cond z (Some (octal_number t)) None ≡ Some w → octal_digits 12 w ≡ t
    by_digits true len e is =
        let number : octal_number t ≡ w = cc in
        let all : list_all is_octal_digit t ≡ true = grind (arith, nat_tests) in
        subst (λ (n : ℕ). octal_digits 12 n ≡ t) number (digits_again 12 t len all)
    by_digits false len e is = cc

    by_length : (z : Bool) → (length t == 12) ≡ z → cond z
        (cond ((nat_le 1 (length t) && nat_le (length t) 12) && list_all is_octal_digit t) (Some (octal_number t))
        None) None ≡ Some w → octal_digits 12 w ≡ t
    by_length true e is = by_digits ((nat_le 1 (length t) && nat_le (length t) 12) && list_all is_octal_digit t)
        (grind (arith, nat_tests)) refl is
    by_length false e is = cc

-- ---- replies

-- one of one word has its text alone
abbrev reply_words : Reply → List (List ℕ)
reply_words (reply.Word w) = codes "word" ∷ octal_digits 12 w ∷ []
reply_words (reply.Made u) = codes "made" ∷ decimal u ∷ []
reply_words (reply.Known n) = codes "known" ∷ decimal n ∷ []
reply_words (reply.Over u) = codes "over" ∷ decimal u ∷ []
reply_words (reply.SegIs u l s) = codes "seg" ∷ decimal u ∷ codes "length" ∷ decimal l ∷ codes "stored" ∷ decimal s ∷ []
reply_words (reply.DirIs u q n) = codes "dir" ∷ decimal u ∷ codes "quota" ∷ decimal q ∷ codes "used" ∷ decimal n ∷ []
reply_words r = bare_text r ∷ []

join_reply : (x : List ℕ) (r : Reply) → join_with_byte 32 (x ∷ reply_words r) ≡ x ++ (32 ∷ reply_text r)
unfolding reply_text bare_text
join_reply x reply.Unknown = refl
join_reply x _ = refl

reply_lacks : (r : Reply) → IsReply r → AllLack is_space (reply_words r)
unfolding bare_text
reply_lacks (reply.Word w) h = grind (arith, nat_tests, common_steps, all_lack, octal_digits_all 12 w)
reply_lacks _ h = search (rules, spaceless)

reply_again : (r : Reply) → IsReply r → reply_of (reply_words r) ≡ Some r
unfolding reply_of named_reply bare_text
reply_again (reply.Word w) h = ap (option_map (λ n. reply.Word n)) (word_again w h)
reply_again (reply.Made u) h = rw (number_again u h) refl
reply_again (reply.Known n) h = rw (number_again n h) refl
reply_again (reply.Over u) h = rw (number_again u h) refl
reply_again (reply.SegIs u l s) h = rw (number_again u h.0, number_again l h.1, number_again s h.2) refl
reply_again (reply.DirIs u q n) h = rw (number_again u h.0, number_again q h.1, number_again n h.2) refl
reply_again _ h = refl

first_left : (rs : List Reply) (k : ℕ) (r : Reply) → k < length rs → r ≡ get_or rs k r → drop k rs ≡ r ∷ drop (k + 1) rs
first_left rs k r lt here = rw (add-one, drop-cons rs k r, ← here) refl

-- each reply of one word has its text alone
bare_words : AllByRecursion (λ r. reply_words r ≡ bare_text r ∷ []) bare_replies
unfolding bare_text
bare_words = search rules

worded_only : (rs : List Reply) (w : List ℕ) → AllByRecursion (λ r. reply_words r ≡ bare_text r ∷ []) rs
    → IfSome (named_reply rs w) (λ r. reply_words r ≡ w ∷ [])
unfolding named_reply
worded_only [] w h = tt
worded_only (r ∷ rs) w h = same w (bare_text r) _ _ (λ o. IfSome o (λ x. reply_words x ≡ w ∷ []))
    (λ e. h.0 ∙ ap (λ (x : List ℕ). x ∷ []) (sym e)) (worded_only rs w h.1)

bare_only : (w : List ℕ) → IfSome (bare_reply w) (λ r. reply_words r ≡ w ∷ [])
bare_only w = worded_only bare_replies w bare_words

-- the replies are gone through one after another
pub named_here : (rs : List Reply) (w : List ℕ) (k : ℕ) (r : Reply) (o : Option Reply) → k < length rs → r
    ≡ get_or rs k r → bytes_eq w (bare_text r) ≡ true → named_reply (drop k rs) w ≡ o → Some r ≡ o
unfolding named_reply
named_here rs w k r o lt here is h =
    sym (ap (λ (xs : List Reply). named_reply xs w) (first_left rs k r lt here) ∙ rw is refl) ∙ h

pub named_later : (rs : List Reply) (w : List ℕ) (k : ℕ) (r : Reply) (o : Option Reply) → k < length rs → r
    ≡ get_or rs k r
    → bytes_eq w (bare_text r) ≡ false → named_reply (drop k rs) w ≡ o → named_reply (drop (k + 1) rs) w ≡ o
unfolding named_reply
named_later rs w k r o lt here isnt h =
    sym (ap (λ (xs : List Reply). named_reply xs w) (first_left rs k r lt here) ∙ rw isnt refl) ∙ h

pub named_nowhere : (rs : List Reply) (w : List ℕ) (k : ℕ) (o : Option Reply) → length rs ≤ k
    → named_reply (drop k rs) w ≡ o → None ≡ o
unfolding named_reply
named_nowhere rs w k o ge h =
    let none : drop k rs ≡ [] = grind (arith, common_steps) in
    sym (ap (λ (xs : List Reply). named_reply xs w) none) ∙ h

two : {A : Type 0} {a b c d : A} → a ≡ b → c ≡ d → a ∷ c ∷ [] ≡ b ∷ d ∷ []
two e f = cc

numbered_only : (w a : List ℕ) (n : ℕ) → decimal n ≡ a → IfSome (numbered_reply w n) (λ r. reply_words r ≡ w ∷ a ∷ [])
numbered_only w a n f = same w (codes "made") _ _ (λ o. IfSome o (λ r. reply_words r ≡ w ∷ a ∷ [])) (λ e. two (sym e) f)
    (same w (codes "known") _ _ (λ o. IfSome o (λ r. reply_words r ≡ w ∷ a ∷ [])) (λ e. two (sym e) f)
    (same w (codes "over") _ _ (λ o. IfSome o (λ r. reply_words r ≡ w ∷ a ∷ [])) (λ e. two (sym e) f) (tt)))

six : {a₁ b₁ c₁ d₁ e₁ f₁ a₂ b₂ c₂ d₂ e₂ f₂ : List ℕ} → a₁ ≡ a₂ → b₁ ≡ b₂ → c₁ ≡ c₂ → d₁ ≡ d₂ → e₁ ≡ e₂ → f₁ ≡ f₂
    → a₁ ∷ b₁ ∷ c₁ ∷ d₁ ∷ e₁ ∷ f₁ ∷ [] ≡ a₂ ∷ b₂ ∷ c₂ ∷ d₂ ∷ e₂ ∷ f₂ ∷ []
six p₁ p₂ p₃ p₄ p₅ p₆ = cc

status_only : (w x y a b c : List ℕ) (u n m : ℕ) → decimal u ≡ a → decimal n ≡ b → decimal m ≡ c
    → IfSome (status_reply w x y u (n, m)) (λ r. reply_words r ≡ w ∷ a ∷ x ∷ b ∷ y ∷ c ∷ [])
status_only w x y a b c u n m e f g = by_seg (bytes_eq w (codes "seg")
    && (bytes_eq x (codes "length") && bytes_eq y (codes "stored"))) refl
  where
    by_dir : (z : Bool) → (bytes_eq w (codes "dir") && (bytes_eq x (codes "quota") && bytes_eq y (codes "used"))) ≡ z
        → IfSome (cond z (Some (reply.DirIs u n m)) None) (λ r. reply_words r ≡ w ∷ a ∷ x ∷ b ∷ y ∷ c ∷ [])
    by_dir true h =
        let w_is : w ≡ codes "dir" = is_word w (codes "dir") (grind (arith, nat_tests)) in
        let x_is : x ≡ codes "quota" = is_word x (codes "quota") (grind (arith, nat_tests)) in
        let y_is : y ≡ codes "used" = is_word y (codes "used") (grind (arith, nat_tests)) in
        six (sym w_is) e (sym x_is) f (sym y_is) g
    by_dir false h = tt

    by_seg : (z : Bool) → (bytes_eq w (codes "seg") && (bytes_eq x (codes "length") && bytes_eq y (codes "stored"))) ≡ z
        → IfSome (cond z (Some (reply.SegIs u n m)) (cond
        (bytes_eq w (codes "dir") && (bytes_eq x (codes "quota") && bytes_eq y (codes "used")))
        (Some (reply.DirIs u n m)) None)) (λ r. reply_words r ≡ w ∷ a ∷ x ∷ b ∷ y ∷ c ∷ [])
    by_seg true h =
        let w_is : w ≡ codes "seg" = is_word w (codes "seg") (grind (arith, nat_tests)) in
        let x_is : x ≡ codes "length" = is_word x (codes "length") (grind (arith, nat_tests)) in
        let y_is : y ≡ codes "stored" = is_word y (codes "stored") (grind (arith, nat_tests)) in
        six (sym w_is) e (sym x_is) f (sym y_is) g
    by_seg false h = by_dir (bytes_eq w (codes "dir") && (bytes_eq x (codes "quota") && bytes_eq y (codes "used"))) refl

status_of_only : (w a x b y c : List ℕ) → IfSome (status_of w x y (triple (number_of a) (number_of b) (number_of c)))
    (λ r. reply_words r ≡ w ∷ a ∷ x ∷ b ∷ y ∷ c ∷ [])
status_of_only w a x b y c = grind (arith, nat_tests, common_steps, triple_each, number_only, status_only)

pair_only : (w a : List ℕ) → IfSome (cond (bytes_eq w (codes "word")) (option_map (λ n. reply.Word n) (word_of a))
    (option_and_then (numbered_reply w) (number_of a))) (λ r. reply_words r ≡ w ∷ a ∷ [])
pair_only w a = same w (codes "word") _ _ (λ o. IfSome o (λ r. reply_words r ≡ w ∷ a ∷ []))
    (λ e. mapped (word_of a) (λ n. reply.Word n) (λ r. reply_words r ≡ w ∷ a ∷ [])
    (from_each (word_of a) (λ n. reply_words (reply.Word n) ≡ w ∷ a ∷ []) (λ n f. two (sym e) (word_only a n f))))
    (chained (number_of a) (numbered_reply w) (λ r. reply_words r ≡ w ∷ a ∷ [])
    (from_each (number_of a) (λ n. IfSome (numbered_reply w n) (λ r. reply_words r ≡ w ∷ a ∷ []))
    (λ n f. numbered_only w a n (number_only a n f))))

reply_only : (ws : List (List ℕ)) → IfSome (reply_of ws) (λ r. reply_words r ≡ ws)
unfolding reply_of
reply_only [] = tt
reply_only (w ∷ []) = bare_only w
reply_only (w ∷ a ∷ []) = pair_only w a
reply_only (w ∷ a ∷ x ∷ b ∷ y ∷ c ∷ []) = status_of_only w a x b y c
reply_only _ = tt

-- ---- entries

abbrev what_words : What → List (List ℕ)
what_words what.All = codes "all" ∷ []
what_words (what.Page f) = codes "page" ∷ decimal f ∷ []
what_words (what.Seg u) = codes "seg" ∷ decimal u ∷ []

abbrev entry_words : Entry → List (List ℕ)
entry_words (entry.Do k i c f r) = codes "do" ∷ (decimal k ++ (46 ∷ decimal i)) ∷ decimal c ∷ number_text f
    ∷ reply_words r
entry_words (entry.Release u p) = codes "release" ∷ decimal u ∷ decimal p ∷ []
entry_words (entry.Fault k) = codes "fault" ∷ number_text k ∷ []
entry_words (entry.Online c) = codes "online" ∷ decimal c ∷ []
entry_words (entry.Load c k) = codes "load" ∷ decimal c ∷ decimal k ∷ []
entry_words (entry.Leave c) = codes "leave" ∷ decimal c ∷ []
entry_words (entry.Activate u) = codes "activate" ∷ decimal u ∷ []
entry_words (entry.Deactivate u) = codes "deactivate" ∷ decimal u ∷ []
entry_words (entry.Start f u p) = codes "start" ∷ decimal f ∷ decimal u ∷ decimal p ∷ []
entry_words (entry.Lose f) = codes "lose" ∷ decimal f ∷ []
entry_words (entry.Here f u p) = codes "in" ∷ decimal f ∷ decimal u ∷ decimal p ∷ []
entry_words (entry.Connect k n u) = codes "connect" ∷ decimal k ∷ decimal n ∷ decimal u ∷ []
entry_words (entry.Moved k u w) = codes "moved" ∷ decimal k ∷ decimal u ∷ decimal w ∷ []
entry_words (entry.Take f) = codes "take" ∷ decimal f ∷ []
entry_words (entry.Cut k n) = codes "cut" ∷ decimal k ∷ decimal n ∷ []
entry_words (entry.Signal c w) = codes "signal" ∷ decimal c ∷ what_words w
entry_words (entry.Clear c w) = codes "clear" ∷ decimal c ∷ what_words w
entry_words (entry.FillSeg c n) = codes "fill" ∷ decimal c ∷ codes "seg" ∷ decimal n ∷ []
entry_words (entry.FillPage c f) = codes "fill" ∷ decimal c ∷ codes "page" ∷ decimal f ∷ []
entry_words (entry.GonePage f) = codes "gone" ∷ codes "page" ∷ decimal f ∷ []
entry_words (entry.BackPage f) = codes "back" ∷ codes "page" ∷ decimal f ∷ []
entry_words (entry.GoneSeg k n) = codes "gone" ∷ codes "seg" ∷ decimal k ∷ decimal n ∷ []
entry_words (entry.BackSeg k n) = codes "back" ∷ codes "seg" ∷ decimal k ∷ decimal n ∷ []

join_what : (x : List ℕ) (w : What) → join_with_byte 32 (x ∷ what_words w) ≡ x ++ (32 ∷ what_text w)
unfolding what_text
join_what x what.All = refl
join_what x _ = refl

-- the words of an entry, with a space between each two, are its text
entry_text_is : (e : Entry) → entry_text e ≡ join_with_byte 32 (entry_words e)
unfolding entry_text counted_text
entry_text_is (entry.Do k i c f r) = grind (arith, nat_tests, common_steps, append_assoc, join_reply)
entry_text_is (entry.Signal c w) = ap (λ (t : List ℕ). codes "signal " ++ t) (sym (join_what (decimal c) w))
entry_text_is (entry.Clear c w) = ap (λ (t : List ℕ). codes "clear " ++ t) (sym (join_what (decimal c) w))
entry_text_is _ = refl

optional_lacks : (f : Option ℕ) → IfSome f IsSmall → lacks is_space (number_text f) ≡ true
unfolding number_text
optional_lacks None h = refl
optional_lacks (Some n) h = spaceless n h

what_lacks : (w : What) → IsWhat w → AllLack is_space (what_words w)
what_lacks what.All h = (refl, tt)
what_lacks (what.Page f) h = (refl, (spaceless f h, tt))
what_lacks (what.Seg u) h = (refl, (spaceless u h, tt))

entry_lacks : (e : Entry) → IsEntry e → AllLack is_space (entry_words e)
entry_lacks (entry.Do k i c f r) h =
    grind (arith, nat_tests, common_steps, lacks-append, spaceless, optional_lacks, reply_lacks)
entry_lacks (entry.Signal c w) h = (refl, (spaceless c h.0, what_lacks w h.1))
entry_lacks (entry.Clear c w) h = (refl, (spaceless c h.0, what_lacks w h.1))
entry_lacks (entry.Fault k) h = (refl, (optional_lacks k h, tt))
entry_lacks _ h = search (rules, spaceless)

what_again : (w : What) → IsWhat w → what_of (what_words w) ≡ Some w
what_again what.All h = refl
what_again (what.Page f) h = rw (number_again f h) refl
what_again (what.Seg u) h = rw (number_again u h) refl

-- the words of an entry are read as the entry
entry_again : (e : Entry) → IsEntry e → entry_of_words (entry_words e) ≡ Some e
unfolding entry_of
entry_again (entry.Do k i c f r) h =
    grind (arith, nat_tests, common_steps, dotted_again, number_again, optional_again, reply_again)
entry_again (entry.Signal c w) h = rw (number_again c h.0, what_again w h.1) refl
entry_again (entry.Clear c w) h = rw (number_again c h.0, what_again w h.1) refl
entry_again (entry.Fault k) h = rw (optional_again k h) refl
entry_again (entry.Release u p) h = rw (number_again u h.0, number_again p h.1) refl
entry_again (entry.Load c k) h = rw (number_again c h.0, number_again k h.1) refl
entry_again (entry.Start f u p) h = rw (number_again f h.0, number_again u h.1, number_again p h.2) refl
entry_again (entry.Here f u p) h = rw (number_again f h.0, number_again u h.1, number_again p h.2) refl
entry_again (entry.Connect k n u) h = rw (number_again k h.0, number_again n h.1, number_again u h.2) refl
entry_again (entry.Moved k u w) h = rw (number_again k h.0, number_again u h.1, number_again w h.2) refl
entry_again (entry.Cut k n) h = rw (number_again k h.0, number_again n h.1) refl
entry_again (entry.FillSeg c n) h = rw (number_again c h.0, number_again n h.1) refl
entry_again (entry.FillPage c f) h = rw (number_again c h.0, number_again f h.1) refl
entry_again (entry.GoneSeg k n) h = rw (number_again k h.0, number_again n h.1) refl
entry_again (entry.BackSeg k n) h = rw (number_again k h.0, number_again n h.1) refl
entry_again _ h = rw number_again refl

three : {A : Type 0} {a b c d e f : A} → a ≡ b → c ≡ d → e ≡ f → a ∷ c ∷ e ∷ [] ≡ b ∷ d ∷ f ∷ []
three p q r = cc

four : {A : Type 0} {a b c d e f g h : A} → a ≡ b → c ≡ d → e ≡ f → g ≡ h → a ∷ c ∷ e ∷ g ∷ [] ≡ b ∷ d ∷ f ∷ h ∷ []
four p q r t = cc

one_only : (w a : List ℕ) (n : ℕ) → decimal n ≡ a → IfSome (of_one w n) (λ x. entry_words x ≡ w ∷ a ∷ [])
one_only w a n f =
    let P : Option Entry → Type 0 = λ o. IfSome o (λ x. entry_words x ≡ w ∷ a ∷ []) in
    same w (codes "online") _ _ P (λ e. two (sym e) f) (same w (codes "leave") _ _ P (λ e. two (sym e) f)
    (same w (codes "activate") _ _ P (λ e. two (sym e) f) (same w (codes "deactivate") _ _ P (λ e. two (sym e) f)
    (same w (codes "lose") _ _ P (λ e. two (sym e) f) (same w (codes "take") _ _ P (λ e. two (sym e) f) tt)))))

two_only : (w a b : List ℕ) (n m : ℕ) → decimal n ≡ a → decimal m ≡ b
    → IfSome (of_two w (n, m)) (λ x. entry_words x ≡ w ∷ a ∷ b ∷ [])
two_only w a b n m f g =
    let P : Option Entry → Type 0 = λ o. IfSome o (λ x. entry_words x ≡ w ∷ a ∷ b ∷ []) in
    same w (codes "load") _ _ P (λ e. three (sym e) f g) (same w (codes "release") _ _ P (λ e. three (sym e) f g)
    (same w (codes "cut") _ _ P (λ e. three (sym e) f g) tt))

three_only : (w a b c : List ℕ) (n m l : ℕ) → decimal n ≡ a → decimal m ≡ b → decimal l ≡ c
    → IfSome (of_three w (n, m, l)) (λ x. entry_words x ≡ w ∷ a ∷ b ∷ c ∷ [])
three_only w a b c n m l f g h =
    let P : Option Entry → Type 0 = λ o. IfSome o (λ x. entry_words x ≡ w ∷ a ∷ b ∷ c ∷ []) in
    same w (codes "in") _ _ P (λ e. four (sym e) f g h) (same w (codes "start") _ _ P (λ e. four (sym e) f g h)
    (same w (codes "connect") _ _ P (λ e. four (sym e) f g h) (same w (codes "moved") _ _ P (λ e. four (sym e) f g h)
    tt)))

plain_only : (w : List ℕ) (fields : List (List ℕ)) → IfSome (plain_of w fields) (λ x. entry_words x ≡ w ∷ fields)
plain_only w [] = tt
plain_only w (a ∷ []) = chained (number_of a) (of_one w) (λ x. entry_words x ≡ w ∷ a ∷ [])
    (from_each (number_of a) (λ n. IfSome (of_one w n) (λ x. entry_words x ≡ w ∷ a ∷ []))
    (λ n f. one_only w a n (number_only a n f)))
plain_only w (a ∷ b ∷ []) =
    chained (both (number_of a) (number_of b)) (of_two w) (λ x. entry_words x ≡ w ∷ a ∷ b ∷ [])
    (both_each (number_of a) (number_of b) (λ x. IfSome (of_two w x) (λ x. entry_words x ≡ w ∷ a ∷ b ∷ []))
    (λ n m f g. two_only w a b n m (number_only a n f) (number_only b m g)))
plain_only w (a ∷ b ∷ c ∷ []) =
    chained (triple (number_of a) (number_of b) (number_of c)) (of_three w) (λ x. entry_words x ≡ w ∷ a ∷ b ∷ c ∷ [])
    (triple_each (number_of a) (number_of b) (number_of c)
    (λ x. IfSome (of_three w x) (λ x. entry_words x ≡ w ∷ a ∷ b ∷ c ∷ []))
    (λ n m l f g h. three_only w a b c n m l (number_only a n f) (number_only b m g) (number_only c l h)))
plain_only w (a ∷ b ∷ c ∷ d ∷ fields) = tt

optional_only : (t : List ℕ) → IfSome (number_or_none t) (λ f. number_text f ≡ t)
unfolding number_text
optional_only t = same t (codes "-") _ _ (λ o. IfSome o (λ f. number_text f ≡ t)) (λ e. sym e)
    (mapped (number_of t) (λ n. Some n) (λ f. number_text f ≡ t)
    (from_each (number_of t) (λ n. decimal n ≡ t) (λ n f. number_only t n f)))

fault_only : (fields : List (List ℕ)) → IfSome (fault_of fields) (λ x. entry_words x ≡ codes "fault" ∷ fields)
fault_only [] = tt
fault_only (a ∷ []) = mapped (number_or_none a) (λ k. entry.Fault k) (λ x. entry_words x ≡ codes "fault" ∷ a ∷ [])
    (from_each (number_or_none a) (λ k. codes "fault" ∷ number_text k ∷ [] ≡ codes "fault" ∷ a ∷ [])
    (λ k f. two refl (of_value (number_or_none a) (λ g. number_text g ≡ a) k (optional_only a) f)))
fault_only (a ∷ b ∷ fields) = tt

what_only : (fields : List (List ℕ)) → IfSome (what_of fields) (λ w. what_words w ≡ fields)
what_only [] = tt
what_only (a ∷ []) = same a (codes "all") _ _ (λ o. IfSome o (λ w. what_words w ≡ a ∷ []))
    (λ e. ap (λ (x : List ℕ). x ∷ []) (sym e)) tt
what_only (a ∷ b ∷ []) = same a (codes "page") _ _ (λ o. IfSome o (λ w. what_words w ≡ a ∷ b ∷ []))
    (λ e. mapped (number_of b) (λ n. what.Page n) (λ w. what_words w ≡ a ∷ b ∷ [])
    (from_each (number_of b) (λ n. codes "page" ∷ decimal n ∷ [] ≡ a ∷ b ∷ [])
    (λ n f. two (sym e) (number_only b n f))))
    (same a (codes "seg") _ _ (λ o. IfSome o (λ w. what_words w ≡ a ∷ b ∷ []))
    (λ e. mapped (number_of b) (λ n. what.Seg n) (λ w. what_words w ≡ a ∷ b ∷ [])
    (from_each (number_of b) (λ n. codes "seg" ∷ decimal n ∷ [] ≡ a ∷ b ∷ []) (λ n f. two (sym e) (number_only b n f))))
    tt)
what_only (a ∷ b ∷ c ∷ fields) = tt

dropped_only : (fields : List (List ℕ)) → IfSome (dropped_of fields) (λ x. decimal x.0 ∷ what_words x.1 ≡ fields)
dropped_only [] = tt
dropped_only (c ∷ fields) = both_each (number_of c) (what_of fields) (λ x. decimal x.0 ∷ what_words x.1 ≡ c ∷ fields)
    (λ n w f g. cons (number_only c n f) (of_value (what_of fields) (λ v. what_words v ≡ fields) w (what_only fields)
    g))
  where
    cons : {x y : List ℕ} {xs ys : List (List ℕ)} → x ≡ y → xs ≡ ys → x ∷ xs ≡ y ∷ ys
    cons p q = cc

abbrev named_words : Named → List (List ℕ)
named_words (named.Page f) = codes "page" ∷ decimal f ∷ []
named_words (named.Seg k n) = codes "seg" ∷ decimal k ∷ decimal n ∷ []

named_only : (fields : List (List ℕ)) → IfSome (named_of fields) (λ x. named_words x ≡ fields)
named_only [] = tt
named_only (a ∷ b ∷ []) = same a (codes "page") _ _ (λ o. IfSome o (λ x. named_words x ≡ a ∷ b ∷ []))
    (λ e. mapped (number_of b) (λ n. named.Page n) (λ x. named_words x ≡ a ∷ b ∷ [])
    (from_each (number_of b) (λ n. codes "page" ∷ decimal n ∷ [] ≡ a ∷ b ∷ [])
    (λ n f. two (sym e) (number_only b n f))))
    tt
named_only (a ∷ b ∷ c ∷ []) = same a (codes "seg") _ _ (λ o. IfSome o (λ x. named_words x ≡ a ∷ b ∷ c ∷ []))
    (λ e. mapped (both (number_of b) (number_of c)) (λ x. named.Seg x.0 x.1) (λ x. named_words x ≡ a ∷ b ∷ c ∷ [])
    (both_each (number_of b) (number_of c) (λ x. codes "seg" ∷ decimal x.0 ∷ decimal x.1 ∷ [] ≡ a ∷ b ∷ c ∷ [])
    (λ n m f g. three (sym e) (number_only b n f) (number_only c m g))))
    tt
named_only _ = tt

gone_words : (x : Named) → entry_words (gone x) ≡ codes "gone" ∷ named_words x
gone_words (named.Page f) = refl
gone_words (named.Seg k n) = refl

back_words : (x : Named) → entry_words (back x) ≡ codes "back" ∷ named_words x
back_words (named.Page f) = refl
back_words (named.Seg k n) = refl

filled_only : (a b c : List ℕ) (n m : ℕ) → decimal n ≡ a → decimal m ≡ c
    → IfSome (filled b (n, m)) (λ x. entry_words x ≡ codes "fill" ∷ a ∷ b ∷ c ∷ [])
filled_only a b c n m f g = same b (codes "seg") _ _ (λ o. IfSome o
    (λ x. entry_words x ≡ codes "fill" ∷ a ∷ b ∷ c ∷ []))
    (λ e. four refl f (sym e) g)
    (same b (codes "page") _ _ (λ o. IfSome o (λ x. entry_words x ≡ codes "fill" ∷ a ∷ b ∷ c ∷ []))
    (λ e. four refl f (sym e) g)
    (tt))

fill_only : (fields : List (List ℕ)) → IfSome (fill_of fields) (λ x. entry_words x ≡ codes "fill" ∷ fields)
fill_only [] = tt
fill_only (a ∷ b ∷ c ∷ []) = chained (both (number_of a) (number_of c)) (filled b)
    (λ x. entry_words x ≡ codes "fill" ∷ a ∷ b ∷ c ∷ [])
    (both_each (number_of a) (number_of c) (λ x. IfSome (filled b x)
    (λ y. entry_words y ≡ codes "fill" ∷ a ∷ b ∷ c ∷ []))
    (λ n m f g. filled_only a b c n m (number_only a n f) (number_only c m g)))
fill_only _ = tt

-- a text with a dot between two numbers
dotted_only : (t : List ℕ) (k i : ℕ) → dotted_of t ≡ Some (k, i) → decimal k ++ (46 ∷ decimal i) ≡ t
dotted_only t k i h = of_value (dotted_of t) (λ x. decimal x.0 ++ (46 ∷ decimal x.1) ≡ t) (k, i)
    (both_each (number_of (before_first is_dot t)) (number_of (after_first is_dot t))
    (λ x. decimal x.0 ++ (46 ∷ decimal x.1) ≡ t) (λ n m f g. around n m f g (dot_within t m g))) h
  where
    around : (n m : ℕ) → number_of (before_first is_dot t) ≡ Some n → number_of (after_first is_dot t) ≡ Some m
        → position_or_len is_dot t < length t → decimal n ++ (46 ∷ decimal m) ≡ t
    around n m f g lt =
        let dot : get_or t (position_or_len is_dot t) 0 ≡ 46 = dot_there t lt in
        let front : decimal n ≡ before_first is_dot t = number_only (before_first is_dot t) n f in
        let behind : decimal m ≡ after_first is_dot t = number_only (after_first is_dot t) m g in
        rw (front, behind) (ap (λ (b : ℕ). before_first is_dot t ++ (b ∷ after_first is_dot t)) (sym dot)
        ∙ sym (split_at_first is_dot t 0 lt))

do_only : (fields : List (List ℕ)) → IfSome (do_of fields) (λ x. entry_words x ≡ codes "do" ∷ fields)
do_only [] = tt
do_only (a ∷ []) = tt
do_only (a ∷ b ∷ []) = tt
do_only (a ∷ b ∷ c ∷ fields) = by_parts (both (dotted_of a) (both (number_of b) (number_or_none c))) (reply_of fields)
    parts (reply_only fields)
  where
    parts : IfSome (both (dotted_of a) (both (number_of b) (number_or_none c)))
        (λ x. (decimal x.0.0 ++ (46 ∷ decimal x.0.1) ≡ a) × (decimal x.1.0 ≡ b) × (number_text x.1.1 ≡ c))
    parts = both_each (dotted_of a) (both (number_of b) (number_or_none c))
        (λ x. (decimal x.0.0 ++ (46 ∷ decimal x.0.1) ≡ a) × (decimal x.1.0 ≡ b) × (number_text x.1.1 ≡ c))
        (λ x y f g. let rest = of_value (both (number_of b) (number_or_none c))
        (λ z. (decimal z.0 ≡ b) × (number_text z.1 ≡ c)) y
        (both_each (number_of b) (number_or_none c) (λ z. (decimal z.0 ≡ b) × (number_text z.1 ≡ c))
        (λ n m e d. (number_only b n e, of_value (number_or_none c) (λ q. number_text q ≡ c) m (optional_only c) d))) g
        in
        (dotted_only a x.0 x.1 f, rest.0, rest.1))

    cons : {w x y : List ℕ} {p q r : List ℕ} {xs ys : List (List ℕ)} → w ≡ p → x ≡ q → y ≡ r → xs ≡ ys
        → codes "do" ∷ w ∷ x ∷ y ∷ xs ≡ codes "do" ∷ p ∷ q ∷ r ∷ ys
    cons e f g h = cc

    by_parts : (o : Option ((ℕ × ℕ) × (ℕ × Option ℕ))) (r : Option Reply)
        → IfSome o (λ x. (decimal x.0.0 ++ (46 ∷ decimal x.0.1) ≡ a) × (decimal x.1.0 ≡ b) × (number_text x.1.1 ≡ c))
        → IfSome r (λ r. reply_words r ≡ fields) → IfSome (answered_of o r)
        (λ x. entry_words x ≡ codes "do" ∷ a ∷ b ∷ c ∷ fields)
    by_parts None r h g = tt
    by_parts (Some x) None h g = tt
    by_parts (Some x) (Some r) h g = cons h.0 h.1 h.2 g

entry_only : (w : List ℕ) (fields : List (List ℕ)) → IfSome (entry_of w fields) (λ x. entry_words x ≡ w ∷ fields)
unfolding entry_of
entry_only w fields = same w (codes "do") _ _ P (λ e. led (codes "do") e (do_of fields) (do_only fields))
    (same w (codes "fill") _ _ P (λ e. led (codes "fill") e (fill_of fields) (fill_only fields))
    (same w (codes "signal") _ _ P (λ e. led (codes "signal") e
    (option_map (λ x. entry.Signal x.0 x.1) (dropped_of fields))
    (mapped (dropped_of fields) (λ x. entry.Signal x.0 x.1) (λ y. entry_words y ≡ codes "signal" ∷ fields)
    (behind (codes "signal") (dropped_of fields) (λ x. decimal x.0 ∷ what_words x.1) (dropped_only fields))))
    (same w (codes "clear") _ _ P (λ e. led (codes "clear") e
    (option_map (λ x. entry.Clear x.0 x.1) (dropped_of fields))
    (mapped (dropped_of fields) (λ x. entry.Clear x.0 x.1) (λ y. entry_words y ≡ codes "clear" ∷ fields)
    (behind (codes "clear") (dropped_of fields) (λ x. decimal x.0 ∷ what_words x.1) (dropped_only fields))))
    (same w (codes "gone") _ _ P (λ e. led (codes "gone") e (option_map gone (named_of fields))
    (mapped (named_of fields) gone (λ y. entry_words y ≡ codes "gone" ∷ fields)
    (through gone (codes "gone") gone_words)))
    (same w (codes "back") _ _ P (λ e. led (codes "back") e (option_map back (named_of fields))
    (mapped (named_of fields) back (λ y. entry_words y ≡ codes "back" ∷ fields)
    (through back (codes "back") back_words)))
    (same w (codes "fault") _ _ P (λ e. led (codes "fault") e (fault_of fields) (fault_only fields))
    (plain_only w fields)))))))
  where
    P : Option Entry → Type 0
    P o = IfSome o (λ x. entry_words x ≡ w ∷ fields)

    led : (v : List ℕ) → w ≡ v → (o : Option Entry) → IfSome o (λ x. entry_words x ≡ v ∷ fields) → P o
    led v e o h = subst (λ (x : List ℕ). IfSome o (λ y. entry_words y ≡ x ∷ fields)) (sym e) h

    behind : {A : Type 0} (v : List ℕ) (o : Option A) (f : A → List (List ℕ)) → IfSome o (λ x. f x ≡ fields)
        → IfSome o (λ x. v ∷ f x ≡ v ∷ fields)
    behind v None f h = tt
    behind v (Some x) f h = ap (λ (t : List (List ℕ)). v ∷ t) h

    through : (f : Named → Entry) (v : List ℕ) → ((x : Named) → entry_words (f x) ≡ v ∷ named_words x)
        → IfSome (named_of fields) (λ x. entry_words (f x) ≡ v ∷ fields)
    through f v is = from_each (named_of fields) (λ x. entry_words (f x) ≡ v ∷ fields)
        (λ x e. is x ∙ ap (λ (t : List (List ℕ)). v ∷ t)
        (of_value (named_of fields) (λ y. named_words y ≡ fields) x (named_only fields) e))

-- ---- lines

words_only : (ws : List (List ℕ)) → IfSome (entry_of_words ws) (λ x. entry_words x ≡ ws)
words_only [] = tt
words_only (w ∷ fields) = entry_only w fields

-- what is read of the words of a line has the line as its text
pub read_only : (line : List ℕ) (ws : List (List ℕ)) (o : Option Entry) → ws ≡ slice_split is_space line → o
    ≡ entry_of_words ws → IfSome o (λ e. entry_text e ≡ line)
read_only line ws o cut read = from_each o (λ e. entry_text e ≡ line) (λ e is.
    entry_text_is e ∙ ap (join_with_byte 32) (of_value (entry_of_words ws) (λ x. entry_words x ≡ ws) e (words_only ws)
    (sym read ∙ is) ∙ cut) ∙ join_with_byte-slice_split 32 line)

-- an entry has 1 to 10 words
pub record HasWords (ws : List (List ℕ)) : Type 0 where
  pub some : 0 < length ws
  pub few : length ws ≤ 10

reply_has : (r : Reply) → length (reply_words r) ≤ 6
reply_has reply.Unknown = omega arith
reply_has _ = omega arith

what_has : (w : What) → length (what_words w) ≤ 2
what_has what.All = omega arith
what_has _ = omega arith

entry_has : (e : Entry) → HasWords (entry_words e)
entry_has (entry.Do k i c f r) = record { some = omega arith; few = omega (arith, reply_has r) }
entry_has (entry.Signal c w) = record { some = omega arith; few = omega (arith, what_has w) }
entry_has (entry.Clear c w) = record { some = omega arith; few = omega (arith, what_has w) }
entry_has _ = record { some = omega arith; few = omega arith }

words_again : (line : List ℕ) (e : Entry) → IsEntry e → entry_text e ≡ line → slice_split is_space line ≡ entry_words e
words_again line e h text = ap (slice_split is_space) (sym text ∙ entry_text_is e)
    ∙ words_of_join (entry_words e) (entry_has e).some (entry_lacks e h)

-- an entry is read back from its text
pub read_again : (line : List ℕ) (ws : List (List ℕ)) (e : Entry) → ws ≡ slice_split is_space line → IsEntry e
    → entry_text e ≡ line → entry_of_words ws ≡ Some e
read_again line ws e cut h text = ap entry_of_words (cut ∙ words_again line e h text) ∙ entry_again e h

-- a line of more words than 10 is no entry's
pub read_none : (line : List ℕ) (e : Entry) → 10 < length (slice_split is_space line) → IsEntry e → entry_text e ≡ line
    → ⊥
read_none line e many h text = let few = (entry_has e).few in let words =
    ap length (words_again line e h text) in omega (arith, few, words)
