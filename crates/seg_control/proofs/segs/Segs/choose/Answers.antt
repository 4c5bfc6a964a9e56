use Rattle.seg_control.proofs.Resting.{kept_rest, words_rest}
use Rattle.seg_control.proofs.segs.Segs.choose.Goals as goal

pub invariant_of-self : goal.invariant_of-self
invariant_of-self g c =
    kept_rest c.choose.new.self c.self.invariant (cc) c.choose.ensures.bindings c.choose.ensures.reads
    c.choose.ensures.ties

pub returns-clause-words : goal.returns-clause-words
returns-clause-words g c =
    rw (← c.self.view_is) (words_rest g.D.Drive.pages c.self.inside.pages c.choose.new.self c.self.inside.moving (cc)
    c.choose.ensures.bindings (cc))
