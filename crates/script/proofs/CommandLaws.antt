-- What a line says as a command is in its ranges (own).
use Rattle.script.proofs.Prelude.{common_steps, ◌≡◌, ℕ, zero, suc, ◌+◌, ◌-◌, ◌*◌, ◌^◌, ◌<◌, ◌≤◌, Bool, true, false, ◌&&◌, nat_le, nat_lt, cond, eqb, List, [], ◌∷◌, length, fold, Option, Some, None, Result, Ok, Err, codes, ℤ, pos, neg_ℤ, refl, sym, subst, arith, nat_tests, bytes_eq-Decides, unsigned_abs, list_all, bytes_eq, Row, octal_below, octal_bound_more, is_octal, is_octal_digit, octal_number, octal_value, path_alone, path_and_number, place_in, place_and_word, mkdir_of, mkseg_of, initiate_of, terminate_of, read_of, write_of, add_of, await_of, acl_of, length_of, truncate_of, delete_of, move_of, status_of, end_of, other_command_of, reference_or, command_of, path_of, is_command, is_end, is_from, is_path, is_place, is_row, is_word, ◌>>=◌, found_or, number_in, word_in, row_in, path_in, number_from, volume_in, amount_in, Command, VolumeLine, Cause, and_from, and_parts, cause}
use Rattle.script.proofs.PathLaws.{path_only}
use Rattle.script.proofs.PrincipalLaws.{row_read}

-- ---- a rule that holds of what is read

pub record Keeps {A : Type 0} (P : A → Type 0) (r : Result A Cause) : Type 0 where
  pub kept : (x : A) → r ≡ Ok x → P x

keeps_ok : {A : Type 0} {P : A → Type 0} {x : A} → P x → Keeps P (Ok x)
keeps_ok {x = x} h = record { kept = λ y e. let same : x ≡ y = cc in rw same at h }

keeps_err : {A : Type 0} {P : A → Type 0} {e : Cause} → Keeps P (Err e)
keeps_err = record { kept = λ y z. absurd (cc) }

then_keeps : {A B : Type 0} {Q : A → Type 0} {P : B → Type 0} {r : Result A Cause} {f : A → Result B Cause} → Keeps Q r
    → ((x : A) → Q x → Keeps P (f x)) → Keeps P (r >>= f)
then_keeps {r = Ok x} h k = k x (h.kept x refl)
then_keeps {r = Err e} h k = keeps_err

any_keeps : {A B : Type 0} {P : B → Type 0} (r : Result A Cause) {f : A → Result B Cause} → ((x : A) → Keeps P (f x))
    → Keeps P (r >>= f)
any_keeps (Ok x) k = k x
any_keeps (Err e) k = keeps_err

found_keeps : {A : Type 0} {P : A → Type 0} (why : Cause) (o : Option A) → ((x : A) → o ≡ Some x → P x)
    → Keeps P (found_or why o)
found_keeps why None h = keeps_err
found_keeps why (Some x) h = keeps_ok (h x refl)

either_keeps : {A : Type 0} {P : A → Type 0} (b : Bool) {r s : Result A Cause} → Keeps P r → Keeps P s
    → Keeps P (cond b r s)
either_keeps true h k = h
either_keeps false h k = k

-- ---- values

abbrev From : ℕ → ℕ → ℕ → Type 0
From low high n = is_from low high n ≡ true

number_keeps : (low high : ℕ) (text : List ℕ) → Keeps (From low high) (number_in low high text)
unfolding number_in
number_keeps low high text = grind (arith, nat_tests, common_steps, keeps_ok, keeps_err)

up_to_most : (most n : ℕ) → is_from 0 most n ≡ true → nat_le n most ≡ true
up_to_most most n h = (and_parts (nat_le 0 n) (nat_le n most) h).1

abbrev IsAPath : List (List ℕ) → Type 0
IsAPath p = is_path p ≡ true

path_keeps : (text : List ℕ) → Keeps IsAPath (path_in text)
path_keeps text = found_keeps cause.Path (path_of text) (λ p e. (path_only text p e).1)

-- digits stand for a number below the power of 8 of their count
below_power : (ds : List ℕ) (n i k : ℕ) → list_all is_octal_digit ds ≡ true → n < 8 ^ i → i + length ds ≡ k
    → fold (λ number digit. number * 8 + (digit - 48)) n ds < 8 ^ k
below_power [] n i k h l e = let same : i ≡ k = omega arith in subst (λ j. n < 8 ^ j) same l
below_power (d ∷ ds) n i k h l e =
    let digit : d - 48 < 8 = grind (arith, nat_tests) in
    let more = octal_bound_more i n (d - 48) l digit in
    below_power ds (n * 8 + (d - 48)) (i + 1) k (grind (arith, nat_tests)) (omega arith) (omega arith)

abbrev IsAWord : ℕ → Type 0
IsAWord w = is_word w ≡ true

word_fits : (text : List ℕ) (w : ℕ) → octal_value text ≡ Some w → is_word w ≡ true
unfolding octal_value octal_number is_octal
word_fits text w e = test (is_octal text) refl e
  where
    test : (b : Bool) → is_octal text ≡ b → cond b (Some (octal_number text)) None ≡ Some w → is_word w ≡ true
    test true h e =
        let same : octal_number text ≡ w = cc in
        let short : length text ≤ 12 = grind (arith, nat_tests) in
        let fits : octal_number text < 2 ^ 36 = octal_below (length text) (octal_number text) short
        (below_power text 0 0 (length text) (grind (arith, nat_tests)) (omega arith) (omega arith)) in
        subst IsAWord same (grind (arith, nat_tests))
    test false h e = absurd (cc)

word_keeps : (text : List ℕ) → Keeps IsAWord (word_in text)
word_keeps text = found_keeps cause.Number (octal_value text) (word_fits text)

abbrev IsARow : Row → Type 0
IsARow r = is_row r ≡ true

row_keeps : (text : List ℕ) → Keeps IsARow (row_in text)
row_keeps text = found_keeps cause.Name _ (λ r e. row_read text r (sym e))

-- the number of a volume is below how many there are
volume_below : (n : ℕ) (vs : List VolumeLine) (name : List ℕ) (k : ℕ) → number_from n vs name ≡ Some k
    → k < n + length vs
unfolding number_from
volume_below n [] name k e = absurd (cc)
volume_below n (v ∷ vs) name k e = grind (arith, nat_tests, common_steps, volume_below (n + 1) vs name k)

abbrev Below : ℕ → ℕ → Type 0
Below volumes n = nat_lt n volumes ≡ true

volume_keeps : (vs : List VolumeLine) (text : List ℕ) → Keeps (Below (length vs)) (volume_in vs text)
unfolding volume_in
volume_keeps vs text = any_keeps _ (λ name. found_keeps cause.Unknown (number_from 0 vs name)
    (λ n e. let below = volume_below 0 vs name n e in grind (arith, nat_tests)))

abbrev IsAnAmount : ℤ → Type 0
IsAnAmount a = is_from 1 16384 (unsigned_abs a) ≡ true

amount_keeps : (text : List ℕ) → Keeps IsAnAmount (amount_in text)
unfolding amount_in
amount_keeps [] = keeps_err
amount_keeps (sign ∷ digits) = either_keeps (eqb sign 43) (then_keeps (number_keeps 1 16384 digits) (λ n h. keeps_ok h))
    (either_keeps (eqb sign 45) (then_keeps (number_keeps 1 16384 digits) (λ n h. keeps_ok (minus n h))) keeps_err)
  where
    minus : (n : ℕ) → is_from 1 16384 n ≡ true → is_from 1 16384 (unsigned_abs (neg_ℤ (pos n))) ≡ true
    minus zero h = h
    minus (suc n) h = h

-- ---- parts of lines

path_alone_keeps : (fields : List (List ℕ)) → Keeps IsAPath (path_alone fields)
unfolding path_alone
path_alone_keeps fields = any_keeps _ (λ f. path_keeps f)

record IsPathAndNumber (low high : ℕ) (p : List (List ℕ) × ℕ) : Type 0 where
  path : is_path p.0 ≡ true
  number : is_from low high p.1 ≡ true

path_and_number_keeps : (low high : ℕ) (fields : List (List ℕ))
    → Keeps (IsPathAndNumber low high) (path_and_number low high fields)
unfolding path_and_number
path_and_number_keeps low high fields = any_keeps _ (λ f. then_keeps (path_keeps f.0) (λ path p.
    then_keeps (number_keeps low high f.1) (λ n h. keeps_ok (record { path = p; number = h }))))

abbrev IsAPlace : ℕ × ℕ → Type 0
IsAPlace p = is_place p.0 p.1 ≡ true

place_keeps : (number offset : List ℕ) → Keeps IsAPlace (place_in number offset)
unfolding place_in
place_keeps number offset = then_keeps (number_keeps 0 255 number) (λ n h.
    then_keeps (number_keeps 0 999999 offset) (λ o k.
    keeps_ok (and_from (nat_le n 255) (nat_le o 999999) (up_to_most 255 n h) (up_to_most 999999 o k))))

abbrev IsPlaceAndWord : ℕ × ℕ × ℕ → Type 0
IsPlaceAndWord p = (is_place p.0 p.1 && is_word p.2) ≡ true

place_and_word_keeps : (fields : List (List ℕ)) → Keeps IsPlaceAndWord (place_and_word fields)
unfolding place_and_word
place_and_word_keeps fields = any_keeps _ (λ f. then_keeps (place_keeps f.0 f.1) (λ p h.
    then_keeps (word_keeps f.2) (λ w k. keeps_ok (and_from (is_place p.0 p.1) (is_word w) h k))))

-- ---- commands

-- a command in its ranges, and not the end
pub record Goes (volumes : ℕ) (c : Command) : Type 0 where
  pub range : is_command volumes c ≡ true
  pub going : is_end c ≡ false

goes : {volumes : ℕ} {c : Command} → is_command volumes c ≡ true → is_end c ≡ false → Keeps (Goes volumes) (Ok c)
goes range going = keeps_ok (record { range = range; going = going })

no_end : {volumes : ℕ} (b : Bool) (r : Result Command Cause) → b ≡ false
    → Keeps (Goes volumes) (cond b r (Err cause.Order))
no_end true r h = absurd (cc)
no_end false r h = keeps_err

other_keeps : (volumes : ℕ) (word : List ℕ) (fields : List (List ℕ)) → bytes_eq word (codes "end") ≡ false
    → Keeps (Goes volumes) (other_command_of word fields)
unfolding other_command_of acl_of length_of truncate_of move_of status_of is_command
other_keeps volumes word fields h = either_keeps (bytes_eq word (codes "acl"))
    (any_keeps _ (λ f. then_keeps (path_keeps f.0) (λ path p.
    then_keeps (row_keeps f.1) (λ row r. any_keeps _ (λ mode. goes (and_from (is_path path) (is_row row) p r) refl)))))
    (either_keeps (bytes_eq word (codes "length")) (then_keeps (path_and_number_keeps 1 256 fields) (λ p n.
    goes (and_from (is_path p.0) (is_from 1 256 p.1) n.path n.number) refl))
    (either_keeps (bytes_eq word (codes "truncate")) (then_keeps (path_and_number_keeps 0 262144 fields) (λ p n.
    goes (and_from (is_path p.0) (nat_le p.1 262144) n.path (up_to_most 262144 p.1 n.number)) refl))
    (either_keeps (bytes_eq word (codes "move"))
    (any_keeps _ (λ f. then_keeps (path_keeps f.0) (λ path p. then_keeps (amount_keeps f.1) (λ amount a.
    goes (and_from (is_path path) (is_from 1 16384 (unsigned_abs amount)) p a) refl))))
    (either_keeps (bytes_eq word (codes "status")) (then_keeps (path_alone_keeps fields) (λ path p. goes p refl))
    (no_end _ _ h)))))

reference_keeps : (volumes : ℕ) (word : List ℕ) (fields : List (List ℕ)) → bytes_eq word (codes "end") ≡ false
    → Keeps (Goes volumes) (reference_or word fields)
unfolding reference_or read_of write_of add_of await_of is_command
reference_keeps volumes word fields h =
    either_keeps (bytes_eq word (codes "read"))
    (any_keeps _ (λ f. then_keeps (place_keeps f.0 f.1) (λ p n. goes n refl)))
    (either_keeps (bytes_eq word (codes "write")) (then_keeps (place_and_word_keeps fields) (λ p n. goes n refl))
    (either_keeps (bytes_eq word (codes "add")) (then_keeps (place_and_word_keeps fields) (λ p n. goes n refl))
    (either_keeps (bytes_eq word (codes "await"))
    (any_keeps _ (λ f. then_keeps (place_keeps f.0 f.1) (λ p h. then_keeps (word_keeps f.2) (λ w k.
    then_keeps (number_keeps 1 100000 f.3) (λ tries n. goes (and_from (is_place p.0 p.1)
    (is_word w && is_from 1 100000 tries) h (and_from (is_word w) (is_from 1 100000 tries) k n)) refl)))))
    (other_keeps volumes word fields h))))

-- any line but that of the end
pub command_keeps : (vs : List VolumeLine) (word : List ℕ) (fields : List (List ℕ))
    → bytes_eq word (codes "end") ≡ false → Keeps (Goes (length vs)) (command_of vs word fields)
unfolding command_of mkdir_of mkseg_of initiate_of terminate_of delete_of is_command
command_keeps vs word fields h = either_keeps (bytes_eq word (codes "mkdir"))
    (any_keeps _ (λ f. then_keeps (path_keeps f.0) (λ path p.
    then_keeps (volume_keeps vs f.1) (λ volume v. goes (and_from (is_path path) (nat_lt volume (length vs)) p v)
    refl))))
    (either_keeps (bytes_eq word (codes "mkseg"))
    (any_keeps _ (λ f. then_keeps (path_keeps f.0) (λ path p. then_keeps (number_keeps 1 256 f.1) (λ pages n.
    then_keeps (volume_keeps vs f.2) (λ volume v. goes (and_from (is_path path)
    (is_from 1 256 pages && nat_lt volume (length vs)) p
    (and_from (is_from 1 256 pages) (nat_lt volume (length vs)) n v)) refl)))))
    (either_keeps (bytes_eq word (codes "initiate")) (then_keeps (path_alone_keeps fields) (λ path p. goes p refl))
    (either_keeps (bytes_eq word (codes "terminate"))
    (any_keeps _ (λ f. then_keeps (number_keeps 0 255 f) (λ number n. goes (up_to_most 255 number n) refl)))
    (either_keeps (bytes_eq word (codes "delete")) (then_keeps (path_alone_keeps fields) (λ path p. goes p refl))
    (reference_keeps (length vs) word fields h)))))

-- the end alone has its word
pub end_again : (vs : List VolumeLine) (word : List ℕ) (fields : List (List ℕ)) → bytes_eq word (codes "end") ≡ true
    → command_of vs word fields ≡ end_of fields
unfolding command_of reference_or other_command_of
end_again vs word fields h = rw ((bytes_eq-Decides word (codes "end")).0 h) refl
