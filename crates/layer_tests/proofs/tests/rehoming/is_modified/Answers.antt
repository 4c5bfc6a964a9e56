use Rattle.layer_tests.proofs.Prelude.{ap, frame_of, sym, ◌∙◌}
use Rattle.layer_tests.proofs.tests.rehoming.is_modified.Goals as goal

pub modified-requires : goal.modified-requires
modified-requires g c =
    rw c.frames.ensures.core (c.frames.ensures.named c.args.uid c.args.p c.in-Here.f c.args.t.now c.requires
    (ap frame_of (sym c.get.ensures ∙ c.in-Here.is))).bound
