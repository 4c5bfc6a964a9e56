-- Laws of reading line by line (own).
use Rattle.script.proofs.Prelude.{arith, common_steps, nat_tests, ◌≡◌, ℕ, ◌+◌, List, [], ◌∷◌, length, fold, Result, Ok, Err, refl, sym, ap, ◌∙◌, DraftPlan, blank, lines_of, finished, numbered, script_of, text_after, whole_or_missing, after_number, Plan, Cause, Refusal, no_lines}

-- a line after so many others
line_read : (n : ℕ) (d : DraftPlan) (line : List ℕ) → numbered (Ok (n, d)) line ≡ after_number n (text_after d line)
unfolding numbered
line_read n d line = refl

refused_stays : (e : Refusal) (lines : List (List ℕ)) → fold numbered (Err e) lines ≡ Err e
unfolding numbered
refused_stays e [] = refl
refused_stays e (line ∷ lines) = refused_stays e lines

-- the lines of some bytes, from line n on
abbrev pub from_line : ℕ → DraftPlan → List (List ℕ) → Result (ℕ × DraftPlan) Refusal
from_line n d lines = fold numbered (Ok (n, d)) lines

first_of : (n : ℕ) (d : DraftPlan) (bytes line rest : List ℕ) → lines_of bytes ≡ line ∷ lines_of rest
    → from_line n d (lines_of bytes) ≡ fold numbered (after_number n (text_after d line)) (lines_of rest)
first_of n d bytes line rest e = ap (λ ls. fold numbered (Ok (n, d)) ls) e
    ∙ ap (λ r. fold numbered r (lines_of rest)) (line_read n d line)

pub line_kept : (n : ℕ) (d new : DraftPlan) (bytes line rest : List ℕ) (all : Result (ℕ × DraftPlan) Refusal)
    → lines_of bytes ≡ line ∷ lines_of rest → text_after d line ≡ Ok new → fold numbered (Ok (n, d)) (lines_of bytes)
    ≡ all → fold numbered (Ok (n + 1, new)) (lines_of rest) ≡ all
line_kept n d new bytes line rest all e kept h =
    sym (first_of n d bytes line rest e ∙ ap (λ r. fold numbered (after_number n r) (lines_of rest)) kept) ∙ h

pub line_refused : (n : ℕ) (d : DraftPlan) (why : Cause) (bytes line rest : List ℕ)
    (all : Result (ℕ × DraftPlan) Refusal) → lines_of bytes ≡ line ∷ lines_of rest → text_after d line ≡ Err why
    → fold numbered (Ok (n, d)) (lines_of bytes) ≡ all → all ≡ Err (record { line = n; cause = why })
line_refused n d why bytes line rest all e refused h =
    grind (arith, nat_tests, common_steps, first_of n d bytes line rest e, refused_stays)

pub lines_end : (n : ℕ) (d : DraftPlan) (bytes : List ℕ) (all : Result (ℕ × DraftPlan) Refusal) → length bytes ≡ 0
    → fold numbered (Ok (n, d)) (lines_of bytes) ≡ all → all ≡ Ok (n, d)
lines_end n d bytes all end h = sym h ∙ ap (λ ls. fold numbered (Ok (n, d)) ls) (no_lines bytes end)

-- what reading line by line goes by
pub ruleset lines_read = (line_kept, line_refused, lines_end)

pub script_refused : (e : Refusal) (bytes : List ℕ) → fold numbered (Ok (1, blank)) (lines_of bytes) ≡ Err e
    → script_of bytes ≡ Err e
unfolding script_of finished
script_refused e bytes h = ap finished h

-- where no line is refused, what is left to say is whether a line is missing
pub script_ended : (n : ℕ) (base d : DraftPlan) (bytes : List ℕ) (r : Result Plan Refusal) → base ≡ blank
    → fold numbered (Ok (1, base)) (lines_of bytes) ≡ Ok (n, d) → r ≡ whole_or_missing n d → script_of bytes ≡ r
unfolding script_of finished
script_ended n base d bytes r b h e =
    ap (λ (s : DraftPlan). finished (fold numbered (Ok (1, s)) (lines_of bytes))) (sym b) ∙ ap finished h ∙ sym e
