use Rattle.clean_reasons.proofs.Prelude.{sym, ◌∙◌, custody_of, seat_at, MayTakeSeg, IsOfCut}
use Rattle.clean_reasons.proofs.RowLaws.{and_some}
use Rattle.clean_reasons.proofs.row_seats.against_fill_seg.Goals as goal

pub returns : goal.returns
returns c = λ s.
    and_some (MayTakeSeg (custody_of c.args.custody.now) (seat_at c.args.custody.now.seats c.args.cpu) c.args.number)
    (seat_at c.args.custody.now.seats c.args.cpu).process c.in-Some.process (sym c.process_of.ensures ∙ c.in-Some.is)
    (record {
      current = c.in_default-against_current.ensures s;
      new = sym c.holds_seg.ensures ∙ c.if-holds_seg.false;
    })

pub returns-in-Some-against_current : goal.returns-in-Some-against_current
returns-in-Some-against_current c = λ s. let h = c.in-Some-against_current.ensures s in record {
  about = and_some (λ k. IsOfCut k c.args.number c.in-Some-against_current.reason)
      (seat_at c.args.custody.now.seats c.args.cpu).process c.in-Some.process
      (sym c.process_of.ensures ∙ c.in-Some.is) h.0;
  said = h.1;
}
