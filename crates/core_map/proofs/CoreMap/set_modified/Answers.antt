use Rattle.core_map.proofs.Frames.{ap, is_taken, kept_by, seen_modified, started_page, tied_same, ◌∙◌}
use Rattle.core_map.proofs.CoreMap.set_modified.Goals as goal

pub invariant_of-self : goal.invariant_of-self
invariant_of-self c = tied_same c.args.f _ c.self.invariant c.index.ensures
    (ap is_taken c.modified_as.ensures ∙ (seen_modified _ _).taken)

pub returns-clause-started : goal.returns-clause-started
returns-clause-started c = rw (← c.self.view_is) (kept_by started_page _ c.args.f _ c.index.ensures
    (ap started_page c.modified_as.ensures ∙ (seen_modified _ _).started))
