use Rattle.clean_reasons.proofs.Prelude.{sym, ◌∙◌, rules}
use Rattle.clean_reasons.proofs.row_seats.against_load.Goals as goal

pub returns-in-None : goal.returns-in-None
returns-in-None c = λ s. record {
  online = sym c.is_online.ensures ∙ (search rules);
  empty = sym c.process_of.ensures ∙ c.in_default.is;
  front = c.in-None.ensures s;
}

pub returns-in-Some-against_front : goal.returns-in-Some-against_front
returns-in-Some-against_front c = λ s. let h = c.in-Some-against_front.ensures s in record { about = h.0; said = h.1 }
