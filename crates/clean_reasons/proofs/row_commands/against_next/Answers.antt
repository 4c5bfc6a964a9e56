use Rattle.clean_reasons.proofs.Prelude.{ℕ, sym, ap, ◌∙◌, command_at}
use Rattle.clean_reasons.proofs.row_commands.against_next.Goals as goal

pub returns-in_default : goal.returns-in_default
returns-in_default c = λ s shown.
    c.against_no_command.ensures c.args.script.now s c.args.frame
    (ap (λ (x : ℕ). command_at c.args.script.now c.args.answer.process x)
    (sym (c.place.ensures c.args.script.now s shown))
    ∙ c.in_default.ensures.none)
