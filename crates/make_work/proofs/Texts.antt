-- The text of a day is its lines. (own)
use Rattle.make_work.proofs.Prelude.{◌≡◌, ℕ, suc, zero, ◌+◌, ◌<◌, true, false, List, [], ◌∷◌, ◌++◌, refl, ap, ◌∙◌, append_assoc, codes, Result, Ok, Err, OnOk, flat_map-append, decimal, digits, decimal_digit, who_text, row_text, begin_text, commands_text, ended, head_text, machine_text, print_text, process_text, processes_text, quota_text, script_text, volume_text, arguments_text, command_text, mode_text, path_fields_text, reference_text, sign_text, word_text, command, VolumeLine, day_of, initializer, made, reference_count, user, users, lines_of, opening_text, user_text, users_text, reference_at, references, state_at}
use Rattle.make_work.proofs.Drawing.{names_no_volume}

-- the lines of references are the same over any volumes
same_lines : (volumes : List VolumeLine) (n x : ℕ) → commands_text volumes (references n x) ≡ lines_of (references n x)
unfolding commands_text references
same_lines volumes zero x = refl
same_lines volumes (suc n) x = cc (
  flat_map-append (λ c. ended (command_text volumes c)) (references n x) (reference_at (state_at n x) ∷ []),
  same_lines volumes n x,
  names_no_volume volumes (state_at n x),
  flat_map-append (λ c. ended (command_text [] c)) (references n x) (reference_at (state_at n x) ∷ []),
)

-- the lines of a user's commands after the first three
rest_lines : (volumes : List VolumeLine) (n x : ℕ) → commands_text volumes (references n x ++ command.End ∷ [])
    ≡ lines_of (references n x) ++ codes "end\n"
unfolding commands_text command_text word_text arguments_text path_fields_text reference_text
rest_lines volumes n x = cc (
  flat_map-append (λ c. ended (command_text volumes c)) (references n x) (command.End ∷ []),
  same_lines volumes n x,
)

pub user_lines : (volumes : List VolumeLine) (j x : ℕ) → process_text volumes false (user j x) ≡ user_text j x
unfolding process_text user user_text commands_text command_text word_text arguments_text path_fields_text begin_text
    who_text
user_lines volumes j x = cc (rest_lines volumes reference_count x)

pub users_lines : (volumes : List VolumeLine) (j count x : ℕ) → processes_text volumes false (users j count x)
    ≡ users_text j count x
unfolding processes_text
users_lines volumes j zero x = refl
users_lines volumes j (suc count) x = cc (
  user_lines volumes j x,
  users_lines volumes (j + 1) count (state_at reference_count x),
)

-- what stands before the users
abbrev pub front : List ℕ
front = codes "machine 4 64 12 1 3 1\nquota 4000\nvolume alpha 4096 64\nvolume beta 4096 64\nprint short\n"
    ++ codes "initializer\nmkdir >a alpha\nmove >a +1000\nmkdir >b beta\nmove >b +1000\n"
    ++ codes "mkseg >a>shared 16 alpha\nacl >a>shared * rw\nmkseg >counter 1 beta\nacl >counter * rw\n"
    ++ codes "mkseg >b>own1 64 beta\nacl >b>own1 * rw\nmkseg >b>own2 64 beta\nacl >b>own2 * rw\n"
    ++ codes "mkseg >b>own3 64 beta\nacl >b>own3 * rw\nmkseg >b>own4 64 beta\nacl >b>own4 * rw\nend\n"

abbrev pub volumes : List VolumeLine
volumes = record { name = codes "alpha"; records = 4096; entries = 64 }
    ∷ record { name = codes "beta"; records = 4096; entries = 64 } ∷ []

front_is : (n : ℕ) → head_text (day_of n) ++ process_text volumes true initializer ≡ front
unfolding head_text machine_text quota_text volume_text print_text process_text begin_text commands_text command_text
    word_text arguments_text path_fields_text reference_text mode_text sign_text row_text day_of digits
front_is n = refl

-- the whole script
pub day_lines : (n : ℕ) → front ++ users_text 1 4 n ≡ made n
unfolding made script_text processes_text day_of
day_lines n = cc (
  front_is n,
  users_lines volumes 1 4 n,
  append_assoc (head_text (day_of n))
      (process_text volumes true initializer) (processes_text volumes false (users 1 4 n)),
)

-- the lines of user j, whose number is written in decimal
pub user_written : (before : List ℕ) {opened referred bytes : List ℕ} (j x : ℕ) → j < 10
    → opened ≡ before ++ (codes "process User" ++ (decimal j
    ++ (codes "\ninitiate >counter\ninitiate >a>shared\ninitiate >b>own" ++ (decimal j ++ codes "\n"))))
    → referred ≡ opened ++ lines_of (references reference_count x) → bytes ≡ referred ++ codes "end\n" → bytes ≡ before
    ++ user_text j x
unfolding user_text
user_written before {opened} j x few o r b =
    let digit : decimal j ≡ (48 + j) ∷ [] = decimal_digit j few in
    let all : opened ≡ before ++ opening_text j = o ∙ ap (λ (d : List ℕ). before ++ (codes "process User"
    ++ (d ++ (codes "\ninitiate >counter\ninitiate >a>shared\ninitiate >b>own" ++ (d ++ codes "\n"))))) digit in
    cc (
      append_assoc (before ++ opening_text j) (lines_of (references reference_count x)) (codes "end\n"),
      append_assoc before (opening_text j) (lines_of (references reference_count x) ++ codes "end\n"),
    )

-- the front and the users' lines are the whole script
pub day_written : {fronted bytes : List ℕ} (n : ℕ) → fronted ≡ front → bytes ≡ fronted ++ users_text 1 4 n → bytes
    ≡ made n
day_written n f b = cc (day_lines n)

-- what follows from a fact of an Ok holds where the other does
pub if_ok : {T E : Type 0} (r : Result T E) {P Q : Type 0} → OnOk r P → (P → Q) → OnOk r Q
if_ok (Ok t) h f = f h
if_ok (Err e) h f = tt
