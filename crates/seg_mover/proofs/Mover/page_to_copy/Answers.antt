use Rattle.seg_mover.proofs.Choosing.{first_here, first_past, first_skip, map_at, rules}
use Rattle.seg_mover.proofs.Mover.page_to_copy.Goals as goal

pub returns-then-is_to_copy : goal.returns-then-is_to_copy
returns-then-is_to_copy g c =
    cc (first_here (map_at c.args.v.now c.args.self.now.from) c.args.skip.now c.loop-p.p (search rules) (search rules))

pub loop-p-preserved : goal.loop-p-preserved
loop-p-preserved g c =
    cc (first_skip (map_at c.args.v.now c.args.self.now.from) c.args.skip.now c.loop-p.p (search rules) (search rules))

pub returns : goal.returns
returns g c = cc (first_past (map_at c.args.v.now c.args.self.now.from) c.args.skip.now c.loop-p.p (search rules))
