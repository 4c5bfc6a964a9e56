-- A text of lines takes a draft to another (own).
use Rattle.script.proofs.Prelude.{arith, common_steps, nat_tests, ◌≡◌, ℕ, ◌+◌, false, List, [], ◌∷◌, ◌++◌, fold, Result, Ok, refl, ap, ◌∙◌, append_assoc, DraftPlan, lines_of, finished, is_comment, line_after, numbered, text_after, line_at, Plan, ended, Refusal}
use Rattle.script.proofs.FieldTexts.{HasFields, line_first}

-- the script of a text from its line of that number on, after a draft
abbrev pub read_from : ℕ → DraftPlan → List ℕ → Result Plan Refusal
read_from n d text = finished (fold numbered (Ok (n, d)) (lines_of text))

-- a text of lines takes one draft to another, whatever follows it
pub record Reaches (d : DraftPlan) (text : List ℕ) (e : DraftPlan) : Type 0 where
  pub reads : (n : ℕ) (rest : List ℕ) → (m : ℕ) × (read_from n d (text ++ rest) ≡ read_from m e rest)

pub reaches_nothing : {d : DraftPlan} → Reaches d [] d
reaches_nothing = record { reads = λ n rest. (n, refl) }

pub reaches_both : {d e f : DraftPlan} {xs ys : List ℕ} → Reaches d xs e → Reaches e ys f → Reaches d (xs ++ ys) f
reaches_both {d} {xs = xs} {ys = ys} x y = record {
  reads = λ n rest.
      let p = x.reads n (ys ++ rest) in
      let q = y.reads p.0 rest in (q.0, ap (read_from n d) (append_assoc xs ys rest) ∙ p.1 ∙ q.1);
}

line_read : (n : ℕ) (d e : DraftPlan) (line word : List ℕ) (fields : List (List ℕ)) → HasFields line (word ∷ fields)
    → is_comment word ≡ false → line_at d.stage d word fields ≡ Ok e → numbered (Ok (n, d)) line ≡ Ok (n + 1, e)
unfolding numbered text_after line_after
line_read n d e line word fields h comment at = rw (h.printable, h.split, comment, at) refl

line_step : (n : ℕ) (d e : DraftPlan) (line word : List ℕ) (fields : List (List ℕ)) (rest : List ℕ)
    → HasFields line (word ∷ fields) → is_comment word ≡ false → line_at d.stage d word fields ≡ Ok e
    → read_from n d (line ++ (10 ∷ rest)) ≡ read_from (n + 1) e rest
line_step n d e line word fields rest h comment at = grind (arith, nat_tests, common_steps, line_first, line_read)

-- one line
pub reaches_line : {d e : DraftPlan} {line word : List ℕ} {fields : List (List ℕ)} → HasFields line (word ∷ fields)
    → is_comment word ≡ false → line_at d.stage d word fields ≡ Ok e → Reaches d (ended line) e
reaches_line {d} {e} {line} {word} {fields} h comment at = record {
  reads = λ n rest. (
    n + 1,
    ap (read_from n d) (append_assoc line (10 ∷ []) rest) ∙ line_step n d e line word fields rest h comment at,
  );
}
