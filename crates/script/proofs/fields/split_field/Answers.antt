use Rattle.script.proofs.Prelude.{◌∷◌, ◌∙◌, List, ap, arith, sym, ℕ, field_last, fields_nil}
use Rattle.script.proofs.fields.split_field.Goals as goal

pub returns-clause-some : goal.returns-clause-some
returns-clause-some c = λ pos.
    let line = c.skip_spaces-line.result.now in
    sym c.skip_spaces-line.ensures.fields ∙ field_last line pos (λ k h. c.loop-i.invariant k (omega arith))
    ∙ ap (λ (t : List (List ℕ)). line ∷ t) (sym fields_nil)
