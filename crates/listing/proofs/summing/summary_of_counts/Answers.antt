use Rattle.listing.proofs.Prelude.{ap, sym, ◌∙◌, List, length, VolumeLine, uses_of}
use Rattle.listing.proofs.CountLaws.{summary_whole}
use Rattle.listing.proofs.summing.summary_of_counts.Goals as goal

pub returns : goal.returns
returns c = λ s same counts uses.
    let given = uses ∙ ap (λ (xs : List VolumeLine). uses_of s (length xs)) (sym c.volumes.ensures) in
    summary_whole c.args.script.now s (c.in_ok-accounts.ensures s same counts)
    (cc (c.in_ok-volumes.ensures s given)) c.new.ensures
