use Rattle.seg_mover.proofs.Prelude.{arith, flag_within, records_at, rules}
use Rattle.seg_mover.proofs.record_of.Goals as goal

pub prove-unreachable-requires : goal.prove-unreachable-requires
prove-unreachable-requires g c =
    let within = flag_within (records_at c.args.v.now c.args.home.0) c.in-Some.r
    (c.requires.kept.used c.args.p c.in-Some.r (search rules)) in
    omega arith
