use Rattle.clean_reasons.proofs.row_signals.against_names.Goals as goal

pub returns-in-Some-against_descriptors : goal.returns-in-Some-against_descriptors
returns-in-Some-against_descriptors c =
    λ s d. let h = c.in-Some-against_descriptors.ensures s in record { about = h.0; said = h.1 }
