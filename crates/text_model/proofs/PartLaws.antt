-- How a reader passes the lines before the one that parts a text (own).
use Rattle.text_model.proofs.Prelude.{◌≡◌, ℕ, ◌+◌, ◌-◌, ◌<◌, ◌≤◌, Bool, true, false, List, [], ◌∷◌, ◌++◌, length, refl, sym, ap, ◌∙◌, arith, take, drop, append-nil, list_any, common_steps, append_assoc, length-append, drop-drop, take-add, Closes, lines_of, IsAtLine, first_after, lines_after, lines_before}
use Rattle.text_model.proofs.LineSteps.{all_left, lines_nil}

-- a line that was read at a place, in the bytes from there on
abbrev pub Here : List ℕ → ℕ → List ℕ
Here bytes at = take (length bytes - at) (drop at bytes)

module _ (test : List ℕ → Bool) where
  before_other : (line : List ℕ) (lines : List (List ℕ)) → test line ≡ false
      → lines_before test (line ∷ lines) ≡ line ∷ lines_before test lines
  unfolding lines_before
  before_other line lines e = rw e refl

  before_ends : (line : List ℕ) (lines : List (List ℕ)) → test line ≡ true → lines_before test (line ∷ lines) ≡ []
  unfolding lines_before
  before_ends line lines e = rw e refl

  after_other : (line : List ℕ) (lines : List (List ℕ)) → test line ≡ false
      → lines_after test (line ∷ lines) ≡ lines_after test lines
  unfolding lines_after
  after_other line lines e = rw e refl

  after_ends : (line : List ℕ) (lines : List (List ℕ)) → test line ≡ true → lines_after test (line ∷ lines) ≡ lines
  unfolding lines_after
  after_ends line lines e = rw e refl

  before_nil : lines_before test [] ≡ []
  unfolding lines_before
  before_nil = refl

  after_nil : lines_after test [] ≡ []
  unfolding lines_after
  after_nil = refl

  found_other : (line : List ℕ) (lines : List (List ℕ)) → test line ≡ false
      → list_any test (line ∷ lines) ≡ list_any test lines
  found_other line lines e = rw e refl

  found_here : (line : List ℕ) (lines : List (List ℕ)) → test line ≡ true → list_any test (line ∷ lines) ≡ true
  found_here line lines e = rw e refl

  pub at_start : (bytes : List ℕ) → IsAtLine test bytes 0 1
  at_start bytes = record {
    before = [];
    passed = record { lines = refl; front = refl; rest = refl; found = refl; closed = λ lt rest. refl };
    count = refl;
  }

  module _ (bytes line rest : List ℕ) (at number : ℕ) (lt : at < length bytes)
      (cut : lines_of (Here bytes at) ≡ line ∷ lines_of rest)
      (is : IsAtLine test bytes at number)
    where
      here : lines_of (drop at bytes) ≡ line ∷ lines_of rest
      here = sym (ap lines_of (all_left bytes at)) ∙ cut

      pub lines_here : lines_of bytes ≡ is.before ++ line ∷ lines_of rest
      lines_here = is.passed.lines ∙ ap (λ (t : List (List ℕ)). is.before ++ t) here

      pub stop_before : test line ≡ true → lines_of (take at bytes) ≡ lines_before test (lines_of bytes)
      stop_before stop =
          let whole : take at bytes ++ [] ≡ take at bytes = append-nil (take at bytes) in
          sym (ap lines_of whole) ∙ is.passed.closed lt [] ∙ ap (λ (t : List (List ℕ)). is.before ++ t) lines_nil
          ∙ sym
          (is.passed.front ∙ ap (λ (t : List (List ℕ)). is.before ++ lines_before test t) here
          ∙ ap (λ (t : List (List ℕ)). is.before ++ t) (before_ends line (lines_of rest) stop))

      pub stop_after : test line ≡ true → lines_of rest ≡ lines_after test (lines_of bytes)
      stop_after stop = sym (is.passed.rest ∙ ap (lines_after test) here ∙ after_ends line (lines_of rest) stop)

      pub stop_found : test line ≡ true → true ≡ list_any test (lines_of bytes)
      stop_found stop = sym (is.passed.found ∙ ap (list_any test) here ∙ found_here line (lines_of rest) stop)

      pub stop_first : test line ≡ true → number + 1 ≡ first_after test (lines_of bytes)
      stop_first stop =
          let left = ap length (sym (stop_after stop)) in
          omega (arith, ap length lines_here ∙ length-append is.before (line ∷ lines_of rest), left, is.count)

      module _ (left : rest ≡ drop (length (Here bytes at) - length rest) (Here bytes at))
          (fewer : length rest < length (Here bytes at))
          (closes : 0 < length rest → Closes (take (length (Here bytes at) - length rest) (Here bytes at)) line)
        where
          size : length (Here bytes at) ≡ length bytes - at
          size = ap length (all_left bytes at) ∙ grind (arith, common_steps)

          place : at + (length (Here bytes at) - length rest) ≡ length bytes - length rest
          place = omega (arith, size, fewer, lt)

          rest_there : drop (length bytes - length rest) bytes ≡ rest
          rest_there =
              ap (λ (n : ℕ). drop n bytes) (sym place)
              ∙ sym (drop-drop (length (Here bytes at) - length rest) at bytes)
              ∙ ap (drop (length (Here bytes at) - length rest)) (sym (all_left bytes at))
              ∙ sym left

          front_there : take (length bytes - length rest) bytes ≡ take at bytes
              ++ take (length (Here bytes at) - length rest) (Here bytes at)
          front_there =
              ap (λ (n : ℕ). take n bytes) (sym place)
              ∙ take-add at (length (Here bytes at) - length rest) bytes
              ∙ ap (λ (t : List ℕ). take at bytes ++ take (length (Here bytes at) - length rest) t)
              (sym (all_left bytes at))

          closed_there : length bytes - length rest < length bytes → (more : List ℕ)
              → lines_of (take (length bytes - length rest) bytes ++ more) ≡ (is.before ++ line ∷ []) ++ lines_of more
          closed_there some more =
              let front : List ℕ = take (length (Here bytes at) - length rest) (Here bytes at) in
              ap (λ (t : List ℕ). lines_of (t ++ more)) front_there
              ∙ ap lines_of (append_assoc (take at bytes) front more)
              ∙ is.passed.closed lt (front ++ more)
              ∙ ap (λ (t : List (List ℕ)). is.before ++ t) (closes (omega arith) more)
              ∙ sym (append_assoc is.before (line ∷ []) (lines_of more))

          pub line_passed : test line ≡ false → IsAtLine test bytes (length bytes - length rest) (number + 1)
          line_passed other = record {
            before = is.before ++ line ∷ [];
            passed = record {
              lines = lines_here ∙ sym (append_assoc is.before (line ∷ []) (lines_of rest))
                  ∙ ap (λ (t : List ℕ). (is.before ++ line ∷ []) ++ lines_of t) (sym rest_there);
              front = is.passed.front ∙ ap (λ (t : List (List ℕ)). is.before ++ lines_before test t) here
                  ∙ ap (λ (t : List (List ℕ)). is.before ++ t) (before_other line (lines_of rest) other)
                  ∙ sym (append_assoc is.before (line ∷ []) (lines_before test (lines_of rest)))
                  ∙ ap (λ (t : List ℕ). (is.before ++ line ∷ []) ++ lines_before test (lines_of t)) (sym rest_there);
              rest = is.passed.rest ∙ ap (lines_after test) here ∙ after_other line (lines_of rest) other
                  ∙ ap (λ (t : List ℕ). lines_after test (lines_of t)) (sym rest_there);
              found = is.passed.found ∙ ap (list_any test) here ∙ found_other line (lines_of rest) other
                  ∙ ap (λ (t : List ℕ). list_any test (lines_of t)) (sym rest_there);
              closed = closed_there;
            };
            count = omega (arith, length-append is.before (line ∷ []), is.count);
          }

  -- ---- the end

  module _ (bytes : List ℕ) (at number : ℕ) (ge : length bytes ≤ at) (is : IsAtLine test bytes at number) where
    none : lines_of (drop at bytes) ≡ []
    none = let nothing : drop at bytes ≡ [] = grind (arith, common_steps) in ap lines_of nothing ∙ lines_nil

    pub end_before : lines_of bytes ≡ lines_before test (lines_of bytes)
    end_before =
        is.passed.lines ∙ ap (λ (t : List (List ℕ)). is.before ++ t) none
        ∙ sym (is.passed.front ∙ ap (λ (t : List (List ℕ)). is.before ++ lines_before test t) none
        ∙ ap (λ (t : List (List ℕ)). is.before ++ t) before_nil)

    pub end_after : lines_of [] ≡ lines_after test (lines_of bytes)
    end_after = lines_nil ∙ sym (is.passed.rest ∙ ap (lines_after test) none ∙ after_nil)

    pub end_found : false ≡ list_any test (lines_of bytes)
    end_found = sym (is.passed.found ∙ ap (list_any test) none)

    pub end_first : number ≡ first_after test (lines_of bytes)
    end_first =
        let whole : length (lines_of bytes) ≡ length is.before =
        ap length (is.passed.lines ∙ ap (λ (t : List (List ℕ)). is.before ++ t) none ∙ append-nil is.before) in
        let left : length (lines_after test (lines_of bytes)) ≡ 0 = ap length (sym end_after ∙ lines_nil) in
        omega (arith, whole, left, is.count)
