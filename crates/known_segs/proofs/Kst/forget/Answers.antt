use Rattle.known_segs.proofs.Prelude.{◌∙◌, length-set}
use Rattle.known_segs.proofs.Numbers.{once_forgotten, within_since_some}
use Rattle.known_segs.proofs.Kst.forget.Goals as goal

pub invariant_of-self : goal.invariant_of-self
invariant_of-self c = rw c.clear.ensures (
  length-set _ _ _ ∙ c.self.invariant.0,
  once_forgotten c.self.inside.places c.args.n c.self.invariant.1
      (within_since_some _ _ (rw c.self.view_is c.requires.known)),
)

pub returns-clause-once : goal.returns-clause-once
returns-clause-once c = (invariant_of-self c).1
