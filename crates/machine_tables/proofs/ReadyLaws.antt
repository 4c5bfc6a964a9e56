-- How the ready list grows by the processes that the initializer makes ready.
use Rattle.machine_tables.proofs.Prelude.{◌≡◌, ◌+◌, ◌<◌, ◌≤◌, ℕ, suc, List, [], ◌∷◌, ◌++◌, length, sym, ap, ◌∙◌, arith, append_assoc, length-append, range, Queue, with_last, range_end, range_length}

-- the list with so many released
abbrev pub released : Queue → ℕ → Queue
released q n = record q { waiting = q.waiting ++ range 1 n }

pub one_released : (n : ℕ) (q before after : Queue) → before ≡ released q n → after ≡ with_last before (n + 1) → after
    ≡ released q (n + 1)
one_released n q before after e f =
    let s : suc n ≡ n + 1 = omega arith in
    let z : 1 + n ≡ n + 1 = omega arith in
    let more : range 1 n ++ (n + 1) ∷ [] ≡ range 1 (n + 1) = sym (cc (range_end 1 n)) ∙ ap (range 1) s in
    let items = append_assoc q.waiting (range 1 n) ((n + 1) ∷ []) ∙ ap (λ (zs : List ℕ). q.waiting ++ zs) more in
    f ∙ ap (λ (x : Queue). with_last x (n + 1)) e ∙ (λ i. record q { waiting = items i })

pub room_left : (q t : Queue) (n count : ℕ) → t ≡ released q n → n < count → length q.waiting + count ≤ q.room
    → length t.waiting < t.room
room_left q t n count e lt room =
    let items : length t.waiting ≡ length q.waiting + length (range 1 n) =
    ap (λ (x : Queue). length x.waiting) e ∙ length-append q.waiting (range 1 n) in
    let many : length (range 1 n) ≡ n = range_length 1 n in
    let same : t.room ≡ q.room = ap (λ (x : Queue). x.room) e in
    omega arith

-- so many can be released where their list has room
pub room_for : (n room count : ℕ) (xs : List ℕ) → range 1 count ≡ xs → n + length xs ≤ room → n + count ≤ room
room_for n room count xs e le = omega (arith, sym (range_length 1 count) ∙ ap length e)

-- ---- all processes are ready at first

abbrev pub first_of : ℕ → ℕ → Queue
first_of n count = record { waiting = range 0 n; room = count }

pub ready_room : (q : Queue) (n count : ℕ) → q ≡ first_of n count → n < count → length q.waiting < q.room
ready_room q n count e lt = grind (arith, range_length)

pub one_ready : (before after : Queue) (n count : ℕ) → before ≡ first_of n count → after ≡ with_last before n
    → after ≡ first_of (n + 1) count
one_ready before after n count e f =
    let s : suc n ≡ n + 1 = omega arith in
    let z : 0 + n ≡ n = omega arith in
    let more : range 0 n ++ n ∷ [] ≡ range 0 (n + 1) = sym (cc (range_end 0 n)) ∙ ap (range 0) s in
    f ∙ ap (λ (x : Queue). with_last x n) e ∙ (λ i. record { waiting = more i; room = count })
