use Rattle.seg_control.proofs.Prelude.{Plain, ap, rules, volumes_of}
use Rattle.seg_control.proofs.Resting.{kept_rest, plain_rest, volumes_rest, words_rest}
use Rattle.seg_control.proofs.segs.Segs.word.Goals as goal

pub invariant_of-self : goal.invariant_of-self
invariant_of-self g c =
    kept_rest c.word.new.self c.self.invariant (ap volumes_of c.word.ensures.marks) c.word.ensures.bindings
    c.word.ensures.reads c.word.ensures.ties

pub returns : goal.returns
returns g c =
    let marks = plain_rest g.D.Drive.pages c.self.inside.pages c.word.new.self c.self.inside.moving
    (ap volumes_of c.word.ensures.marks) c.word.ensures.marks in
    let words = words_rest g.D.Drive.pages c.self.inside.pages c.word.new.self c.self.inside.moving
    (ap volumes_of c.word.ensures.marks) c.word.ensures.bindings (ap (λ (s : Plain). s.frames) c.word.ensures.marks) in
    let volumes = volumes_rest c.self.inside.pages c.word.new.self c.self.inside.moving c.word.ensures.volumes in
    rw (← c.self.view_is) (search rules)
