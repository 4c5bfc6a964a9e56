use Rattle.clean_reasons.proofs.row_descriptors.against_cut.Goals as goal

pub returns-in-Some : goal.returns-in-Some
returns-in-Some c = λ s. let h = c.in-Some.ensures s in record { about = h.0; said = h.1 }
