-- A day is a script. (own)
use Rattle.make_work.proofs.Prelude.{◌≡◌, ℕ, suc, zero, ◌+◌, ◌<◌, ◌≤◌, ◌*◌, Bool, true, not, List, [], ◌∷◌, ◌++◌, refl, arith, codes, sum_by, Ok, nat_tests, and_parts, and_from, sum_by-append, sum_by-cons, list_all, drawn_below, is_label, is_label_byte, is_name, is_name_byte, default_project, IsPlan, are_apart, ends_once, is_command, is_end, is_path, is_process, is_volume, is_who, weight, weight_of, script_of, Plan, script_text, Command, command, counter, numbered, day_of, initializer, made, own, reference_count, shared, user, user_name, users, reference_at, references, second, third, state_at}
use Rattle.make_work.proofs.Drawing.{of_each}

-- ---- what holds of each reference

is_reference : (x : ℕ) → is_command 2 (reference_at x) ≡ true
unfolding is_command
is_reference x =
    let seven = drawn_below 7 (second x) (omega arith) in
    let shared_place = drawn_below 16384 (second x) (omega arith) in
    let own_place = drawn_below 65536 (second x) (omega arith) in
    let word = drawn_below 511 (third x) (omega arith) in
    let own_word = drawn_below 8 (third x) (omega arith) in
    of_each (λ c. is_command 2 c ≡ true) x (grind (arith, nat_tests)) (grind (arith, nat_tests))
    (grind (arith, nat_tests)) (grind (arith, nat_tests)) (grind (arith, nat_tests))

abbrev goes_on : Command → Bool
goes_on c = not (is_end c)

reference_goes_on : (x : ℕ) → goes_on (reference_at x) ≡ true
reference_goes_on x = of_each (λ c. goes_on c ≡ true) x refl refl refl refl refl

reference_weighs_one : (x : ℕ) → weight (reference_at x) ≡ 1
reference_weighs_one x = of_each (λ c. weight c ≡ 1) x refl refl refl refl refl

-- ---- all references

all_append : (p : Command → Bool) (xs ys : List Command) → list_all p xs ≡ true → list_all p ys ≡ true
    → list_all p (xs ++ ys) ≡ true
all_append p [] ys h k = k
all_append p (x ∷ xs) ys h k = let parts = and_parts (p x) (list_all p xs) h in and_from (p x) (list_all p (xs ++ ys))
    parts.0 (all_append p xs ys parts.1 k)

all_references : (p : Command → Bool) → ((x : ℕ) → p (reference_at x) ≡ true) → (n x : ℕ) → list_all p (references n x)
    ≡ true
unfolding references
all_references p each zero x = refl
all_references p each (suc n) x = all_append p (references n x) (reference_at (state_at n x) ∷ [])
    (all_references p each n x) (and_from (p (reference_at (state_at n x))) true (each (state_at n x)) refl)

ends_after : (cs : List Command) → list_all goes_on cs ≡ true → ends_once (cs ++ command.End ∷ []) ≡ true
unfolding ends_once
ends_after [] h = refl
ends_after (c ∷ []) h = let parts = and_parts (goes_on c) true h in and_from (goes_on c) true parts.0 refl
ends_after (c ∷ d ∷ cs) h = let parts = and_parts (goes_on c) (list_all goes_on (d ∷ cs)) h in and_from (goes_on c)
    (ends_once ((d ∷ cs) ++ command.End ∷ [])) parts.0 (ends_after (d ∷ cs) parts.1)

end_is : list_all (is_command 2) (command.End ∷ []) ≡ true
unfolding is_command
end_is = refl

weigh_as_many : (n x : ℕ) → sum_by weight (references n x) ≡ n
unfolding references
weigh_as_many zero x = refl
weigh_as_many (suc n) x =
    let parts = sum_by-append weight (references n x) (reference_at (state_at n x) ∷ []) in
    let one : sum_by weight (reference_at (state_at n x) ∷ []) ≡ weight (reference_at (state_at n x)) =
    omega (arith, sum_by-cons weight (reference_at (state_at n x)) []) in
    omega (arith, reference_weighs_one (state_at n x), weigh_as_many n x)

-- ---- the users

initiates : (path : List (List ℕ)) → is_path path ≡ true → is_command 2 (command.Initiate path) ≡ true
unfolding is_command
initiates path h = h

has_counter : is_path counter ≡ true
unfolding is_path is_name
has_counter = refl

has_shared : is_path shared ≡ true
unfolding is_path is_name
has_shared = refl

name_digit : (j : ℕ) → j < 10 → is_name_byte (48 + j) ≡ true
name_digit j few = grind (arith, nat_tests)

label_digit : (j : ℕ) → j < 10 → is_label_byte (48 + j) ≡ true
label_digit j few = grind (arith, nat_tests)

has_own : (j : ℕ) → j < 10 → is_path (own j) ≡ true
unfolding is_path is_name
has_own j few = rw (name_digit j few) refl

has_user : (j : ℕ) → j < 10 → is_label (numbered (codes "User") j) ≡ true
unfolding is_label
has_user j few = rw (label_digit j few) refl

user_is : (j x : ℕ) → j < 10 → is_process 2 (user j x) ≡ true
unfolding is_label is_process user
user_is j x few =
    let refs = references reference_count x in
    let rest : list_all (is_command 2) (refs ++ command.End ∷ []) ≡ true =
    all_append (is_command 2) refs (command.End ∷ [])
    (all_references (is_command 2) is_reference reference_count x) end_is in
    let third_is : list_all (is_command 2) (command.Initiate (own j) ∷ (refs ++ command.End ∷ [])) ≡ true =
    and_from (is_command 2 (command.Initiate (own j))) (list_all (is_command 2) (refs ++ command.End ∷ []))
    (initiates (own j) (has_own j few)) rest in
    let second_is : list_all (is_command 2) (command.Initiate shared ∷ command.Initiate (own j)
    ∷ (refs ++ command.End ∷ [])) ≡ true = and_from (is_command 2 (command.Initiate shared)) _
    (initiates shared has_shared) third_is in
    let all : list_all (is_command 2) (command.Initiate counter ∷ command.Initiate shared ∷ command.Initiate (own j)
    ∷ (refs ++ command.End ∷ [])) ≡ true = and_from (is_command 2 (command.Initiate counter)) _
    (initiates counter has_counter) second_is in
    let ends : ends_once (command.Initiate counter ∷ command.Initiate shared ∷ command.Initiate (own j)
    ∷ (refs ++ command.End ∷ [])) ≡ true = ends_after
    (command.Initiate counter ∷ command.Initiate shared ∷ command.Initiate (own j) ∷ refs)
    (all_references goes_on reference_goes_on reference_count x) in
    let who : is_who (user_name j) ≡ true = and_from (is_label (numbered (codes "User") j)) (is_label default_project)
    (has_user j few) refl in
    and_from (is_who (user_name j)) _ who (and_from _ _ all ends)

user_weighs : (j x : ℕ) → weight_of (user j x) ≡ 2000
unfolding weight_of user
user_weighs j x =
    let refs = references reference_count x in
    let front = command.Initiate counter ∷ command.Initiate shared ∷ command.Initiate (own j) ∷ [] in
    let more = sum_by-append weight refs (command.End ∷ []) in
    omega (arith, sum_by-append weight front (refs ++ command.End ∷ []), more, weigh_as_many reference_count x)

-- ---- the day

initializer_is : is_process 2 initializer ≡ true
unfolding is_process is_command is_path is_name is_label ends_once
initializer_is = refl

initializer_weighs : weight_of initializer ≡ 17
unfolding weight_of
initializer_weighs = refl

users_are : (count j x : ℕ) → j + count ≤ 10 → list_all (is_process 2) (users j count x) ≡ true
users_are zero j x few = refl
users_are (suc count) j x few = and_from (is_process 2 (user j x)) _ (user_is j x (omega arith))
    (users_are count (j + 1) (state_at reference_count x) (omega arith))

users_weigh : (count j x : ℕ) → sum_by weight_of (users j count x) ≡ 2000 * count
users_weigh zero j x = refl
users_weigh (suc count) j x = omega (
  arith,
  sum_by-cons weight_of (user j x) (users (j + 1) count (state_at reference_count x)),
  user_weighs j x,
  users_weigh count (j + 1) (state_at reference_count x),
)

pub is_day : (n : ℕ) → IsPlan (day_of n)
unfolding day_of is_volume is_name are_apart
is_day n = record {
  processors = (omega arith, omega arith);
  frames = (omega arith, omega arith);
  pools = (omega arith, omega arith, omega arith, omega arith, omega arith);
  quota = omega arith;
  some = omega arith;
  few = omega arith;
  volumes = refl;
  names = refl;
  records = omega arith;
  bulks = refl;
  apart = refl;
  fails = refl;
  most = omega arith;
  processes = omega arith;
  each = and_from (is_process 2 initializer) _ initializer_is (users_are 4 1 n (omega arith));
  first = λ h. refl;
  commands = omega (arith, sum_by-cons weight_of initializer (users 1 4 n), initializer_weighs, users_weigh 4 1 n);
}

-- a text that is that of a day is a script
pub accepted : {text : List ℕ} (n : ℕ) → ((p : Plan) → IsPlan p → script_of (script_text p) ≡ Ok p) → text ≡ made n
    → script_of text ≡ Ok (day_of n)
unfolding made
accepted n again e = cc (again (day_of n) (is_day n))
