use Rattle.custody.proofs.Prelude.{rules}
use Rattle.custody.proofs.BootLaws.{frames_made}
use Rattle.custody.proofs.frames.Frames.new.Goals as goal

pub invariant_of-result : goal.invariant_of-result
invariant_of-result c = frames_made c.args.frames c.in_ok-uses.uses.items c.new.result c.new-2.result c.new-3.result
    (search rules) c.new.ensures c.new-2.ensures c.new-3.ensures c.requires
