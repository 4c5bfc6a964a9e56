use Rattle.seg_control.proofs.Chains.{active_from, is_some, one_more, rules, true, ◌≡◌}
use Rattle.seg_control.proofs.activating.first_inactive.Goals as goal

pub loop-i-preserved : goal.loop-i-preserved
loop-i-preserved c =
    let some : is_some c.search.result ≡ true = search rules in
    record {
      before = one_more c.args.ast.now.entries c.args.chain.now c.loop-i.i c.loop-i.invariant.before
          (active_from c.search.result c.args.ast.now.entries _ c.search.ensures.only some);
    }
