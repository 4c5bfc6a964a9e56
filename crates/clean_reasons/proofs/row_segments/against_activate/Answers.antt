use Rattle.clean_reasons.proofs.Prelude.{◌≡◌, true, sym, ◌∙◌, arith, rules, IfSome, is_some, active_at, node_in}
use Rattle.clean_reasons.proofs.RowLaws.{activates, full, if_none, if_some, in_pool}
use Rattle.clean_reasons.proofs.row_segments.against_activate.Goals.{in-Some-superior+else-not-is_active, in_default-superior}
use Rattle.clean_reasons.proofs.row_segments.against_activate.Goals as goal

pub returns-then-in_pool-places : goal.returns-then-in_pool-places
returns-then-in_pool-places c = λ s shown nodes. record {
  about = record {
    pool = in_pool (node_in s.nodes c.args.uid) c.pool.result c.in-Some.pool (c.pool.ensures c.args.script.now s shown)
        c.in-Some.is;
    size = c.pool_size-places.ensures;
  };
  said = full s c.args.custody.now c.in-Some.pool c.pool_size-places.result nodes
      (omega (arith, c.if-in_pool-places.true, c.in_pool.ensures));
}

pub returns : goal.returns
returns c = λ s shown nodes.
    let above : IfSome c.superior.result (λ v. is_some (active_at c.args.custody.now.active v) ≡ true) =
    elim c.match-superior.branch [
      | in-Some-superior+else-not-is_active w ↦ if_some (λ v. is_some (active_at c.args.custody.now.active v) ≡ true)
          c.superior.result w.in-Some-superior.superior w.in-Some-superior.is
          (sym w.is_active-in-Some-superior.ensures ∙ (search rules))
      | in_default-superior w ↦ if_none (λ v. is_some (active_at c.args.custody.now.active v) ≡ true) c.superior.result
          w.in_default-superior.is
    ] in
    activates c.args.script.now s c.args.custody.now c.args.uid c.in-Some.pool c.superior.result c.pool.result
    (c.superior.ensures c.args.script.now s shown) (c.pool.ensures c.args.script.now s shown) c.in-Some.is nodes
    (sym c.is_active.ensures ∙ c.if-is_active.false) above
    (omega (arith, c.in_pool.ensures, c.pool_size-places.ensures, c.if-in_pool-places.false))
