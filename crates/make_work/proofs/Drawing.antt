-- Of references and their lines. (own)
use Rattle.make_work.proofs.Prelude.{◌≡◌, ℕ, ◌+◌, true, false, nat_lt, if◌then◌else◌, List, [], ◌++◌, refl, sym, ap, ◌∙◌, add-one, append_assoc, append-nil, codes, flat_map_more, commands_text, ended, arguments_text, command_text, Command, command, VolumeLine, drawn, lines_of, kind_of, reference_at, references, second, third, state_after, state_at}

-- the lines so far, and the line of one reference more
pub line_more : (bs : List ℕ) (i x : ℕ) → ((bs ++ lines_of (references i x))
    ++ command_text [] (reference_at (state_at i x))) ++ codes "\n" ≡ bs ++ lines_of (references (i + 1) x)
unfolding commands_text references
line_more bs i x =
    let front : ((bs ++ lines_of (references i x)) ++ command_text [] (reference_at (state_at i x))) ++ codes "\n"
    ≡ (bs ++ lines_of (references i x)) ++ ended (command_text [] (reference_at (state_at i x))) =
    append_assoc (bs ++ lines_of (references i x)) (command_text [] (reference_at (state_at i x))) (codes "\n") in
    let more = flat_map_more (λ c. ended (command_text [] c)) bs (references i x) (reference_at (state_at i x)) in
    let next = ap (λ n. bs ++ lines_of (references n x)) (sym (add-one i)) in
    cc

pub lines_none : {bs : List ℕ} (x : ℕ) → bs ≡ bs ++ lines_of (references 0 x)
unfolding commands_text references
lines_none {bs} x = sym (append-nil bs)

-- one reference more was drawn, and its line written
pub line_written : (before bs line whole : List ℕ) (i x s : ℕ) (r : Command) → bs ≡ before ++ lines_of (references i x)
    → s ≡ state_at i x → r ≡ reference_at s
    → line ≡ bs ++ command_text [] r → whole ≡ line ++ codes "\n" → whole ≡ before ++ lines_of (references (i + 1) x)
line_written before bs line whole i x s r e at is l w =
    let reference : r ≡ reference_at (state_at i x) = is ∙ ap reference_at at in
    cc (line_more before i x)

pub state_none : {x : ℕ} → x ≡ state_at 0 x
unfolding state_at
state_none = refl

pub state_more : (i x s t : ℕ) → s ≡ state_at i x → t ≡ state_after s → t ≡ state_at (i + 1) x
unfolding state_at
state_more i x s t at next = next ∙ ap state_after at ∙ ap (λ n. state_at n x) (sym (add-one i))

-- what holds of each of the five kinds of references holds of each reference
pub of_each : (P : Command → Type 0) (x : ℕ) → P (command.Add 0 0 (1 + drawn 7 (second x)))
    → P (command.Read 1 (drawn 16384 (second x)))
    → P (command.Write 1 (drawn 16384 (second x)) (1 + drawn 511 (third x)))
    → P (command.Write 2 (drawn 65536 (second x)) (drawn 8 (third x)))
    → P (command.Read 2 (drawn 65536 (second x))) → P (reference_at x)
unfolding reference_at
of_each P x add read write_shared write_own read_own =
    elim (nat_lt (kind_of x) 2) as (λ b. P (if b then command.Add 0 0 (1 + drawn 7 (second x))
    else if nat_lt (kind_of x) 4 then command.Read 1 (drawn 16384 (second x))
    else if nat_lt (kind_of x) 5 then command.Write 1 (drawn 16384 (second x)) (1 + drawn 511 (third x))
    else if nat_lt (kind_of x) 7 then command.Write 2 (drawn 65536 (second x)) (drawn 8 (third x))
    else command.Read 2 (drawn 65536 (second x)))) [
      | true ↦ add
      | false ↦ elim (nat_lt (kind_of x) 4) as (λ b. P (if b then command.Read 1 (drawn 16384 (second x))
          else if nat_lt (kind_of x) 5 then command.Write 1 (drawn 16384 (second x)) (1 + drawn 511 (third x))
          else if nat_lt (kind_of x) 7 then command.Write 2 (drawn 65536 (second x)) (drawn 8 (third x))
          else command.Read 2 (drawn 65536 (second x)))) [
            | true ↦ read
            | false ↦ elim (nat_lt (kind_of x) 5) as (λ b. P
                (if b then command.Write 1 (drawn 16384 (second x)) (1 + drawn 511 (third x))
                else if nat_lt (kind_of x) 7 then command.Write 2 (drawn 65536 (second x)) (drawn 8 (third x))
                else command.Read 2 (drawn 65536 (second x)))) [
                  | true ↦ write_shared
                  | false ↦ elim (nat_lt (kind_of x) 7) as (λ b. P
                      (if b then command.Write 2 (drawn 65536 (second x)) (drawn 8 (third x))
                      else command.Read 2 (drawn 65536 (second x)))) [ true ↦ write_own | false ↦ read_own ]
                ]
          ]
    ]

-- what holds of each reference holds of the lines of all
pub names_no_volume : (volumes : List VolumeLine) (x : ℕ) → command_text volumes (reference_at x)
    ≡ command_text [] (reference_at x)
unfolding command_text arguments_text
names_no_volume volumes x = of_each (λ c. command_text volumes c ≡ command_text [] c) x refl refl refl refl refl
