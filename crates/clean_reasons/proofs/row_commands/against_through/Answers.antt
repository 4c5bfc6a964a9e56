use Rattle.clean_reasons.proofs.Prelude.{sym, ◌∙◌, HoldsBoth, seat_at}
use Rattle.clean_reasons.proofs.row_commands.against_through.Goals as goal

pub returns-then-is_word_or_done : goal.returns-then-is_word_or_done
returns-then-is_word_or_done c = λ p s shown next.
    let both : HoldsBoth (seat_at c.args.custody.now.seats c.args.answer.cpu) c.args.reference.now.number c.args.frame =
    c.in_default.ensures in record {
      segment = both.segment;
      page = both.page;
      bound = c.in_default-against_page.ensures p s shown next;
      answered = sym c.is_word_or_done.ensures ∙ c.if-is_word_or_done.true;
    }
