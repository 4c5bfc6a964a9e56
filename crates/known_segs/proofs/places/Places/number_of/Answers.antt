use Rattle.known_segs.proofs.Prelude.{arith, sym, ◌∙◌}
use Rattle.known_segs.proofs.PlaceLaws.{number_is, size_is}
use Rattle.known_segs.proofs.places.Places.number_of.Goals as goal

pub returns-in_err-number-clause-number : goal.returns-in_err-number-clause-number
returns-in_err-number-clause-number c = rw c.from_residual.ensures (number_is _ c.self.view_is
    c.deref.ensures.value (sym c.in_err-number.was ∙ c.place_of.ensures.number))

pub returns-in_err-number-clause-size : goal.returns-in_err-number-clause-size
returns-in_err-number-clause-size c = size_is _ _ c.self.view_is (omega arith)

pub returns-clause-number : goal.returns-clause-number
returns-clause-number c = number_is _ c.self.view_is c.deref.ensures.value
    (sym c.in_ok-number.was ∙ c.place_of.ensures.number)

pub returns-clause-size : goal.returns-clause-size
returns-clause-size c = size_is _ _ c.self.view_is (omega arith)
