use Rattle.seg_control.proofs.Cutting.{may_again, trailers_back}
use Rattle.seg_control.proofs.segs.Segs.trailers.Goals as goal

pub returns-clause-again : goal.returns-clause-again
returns-clause-again g c = λ aste. rw (← c.self.view_is) (may_again aste c.self.invariant.kept.linked)

pub returns-clause-back : goal.returns-clause-back
returns-clause-back g c = rw (← c.self.view_is) (λ aste pages modes lt long. trailers_back c.self.inside.links aste
    pages modes lt long)
