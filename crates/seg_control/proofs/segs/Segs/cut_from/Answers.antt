use Rattle.seg_control.proofs.Frames.{ap, bound_once, bound_to, rules, volumes_of}
use Rattle.seg_control.proofs.Resting.{kept_rest, plain_rest, volumes_rest, words_put}
use Rattle.seg_control.proofs.segs.Segs.cut_from.Goals as goal

pub invariant_of-self : goal.invariant_of-self
invariant_of-self g c =
    kept_rest c.cut_from.new.self c.self.invariant (ap volumes_of c.cut_from.ensures.cut) c.cut_from.ensures.bindings
    c.cut_from.ensures.reads c.cut_from.ensures.ties

pub returns : goal.returns
returns g c =
    let bound = rw (← c.self.view_is) at c.requires.bound in
    let cut = plain_rest g.D.Drive.pages c.self.inside.pages c.cut_from.new.self c.self.inside.moving
    (ap volumes_of c.cut_from.ensures.cut) c.cut_from.ensures.cut in
    let words = words_put g.D.Drive.pages c.self.inside.pages c.cut_from.new.self c.self.inside.moving _ _ c.args.f _
    (ap volumes_of c.cut_from.ensures.cut) c.cut_from.ensures.bindings
    (bound_to c.self.inside.pages.core c.args.f bound) (c.cut_from.ensures.words
    (bound_once c.self.invariant.kept bound)) in
    let volumes = volumes_rest c.self.inside.pages c.cut_from.new.self c.self.inside.moving
    c.cut_from.ensures.volumes in
    rw (← c.self.view_is) (search rules)
