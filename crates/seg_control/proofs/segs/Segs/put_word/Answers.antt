use Rattle.seg_control.proofs.Frames.{ap, bound_once, bound_to, rules, volumes_of}
use Rattle.seg_control.proofs.Resting.{kept_rest, plain_rest, volumes_rest, words_put}
use Rattle.seg_control.proofs.segs.Segs.put_word.Goals as goal

pub invariant_of-self : goal.invariant_of-self
invariant_of-self g c =
    kept_rest c.put_word.new.self c.self.invariant (ap volumes_of c.put_word.ensures.word) c.put_word.ensures.bindings
    c.put_word.ensures.reads c.put_word.ensures.ties

pub returns : goal.returns
returns g c =
    let bound = rw (← c.self.view_is) at c.requires.bound in
    let word = plain_rest g.D.Drive.pages c.self.inside.pages c.put_word.new.self c.self.inside.moving
    (ap volumes_of c.put_word.ensures.word) c.put_word.ensures.word in
    let words = words_put g.D.Drive.pages c.self.inside.pages c.put_word.new.self c.self.inside.moving _ _ c.args.f _
    (ap volumes_of c.put_word.ensures.word) c.put_word.ensures.bindings
    (bound_to c.self.inside.pages.core c.args.f bound) (c.put_word.ensures.words
    (bound_once c.self.invariant.kept bound)) in
    let volumes = volumes_rest c.self.inside.pages c.put_word.new.self c.self.inside.moving
    c.put_word.ensures.volumes in
    rw (← c.self.view_is) (search rules)
