use Rattle.core_map.proofs.Frames.{ap, is_taken, kept_by, seen_referred, started_page, tied_same, ◌∙◌}
use Rattle.core_map.proofs.CoreMap.mark.Goals as goal

pub invariant_of-self : goal.invariant_of-self
invariant_of-self c = tied_same c.args.f _ c.self.invariant c.index.ensures
    (ap is_taken c.referred.ensures ∙ (seen_referred _ c.args.wrote).taken)

pub returns-clause-started : goal.returns-clause-started
returns-clause-started c = rw (← c.self.view_is) (kept_by started_page _ c.args.f _ c.index.ensures
    (ap started_page c.referred.ensures ∙ (seen_referred _ _).started))
