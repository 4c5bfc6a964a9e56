use Rattle.std.proofs.lemmas.Grind.{common_steps}
use Rattle.custody.proofs.Prelude.{nat_tests, length, drop, sym, ◌∙◌, refl, arith, set-get_or}
use Rattle.custody.proofs.RowLaws.{all_warned, cut_back, none_warned, one_passed, one_warned}
use Rattle.custody.proofs.rows.warn_others.Goals as goal
use Rattle.custody.proofs.rows.warn_others.Goals.{then-cpu-but, else-cpu-but}

pub loop-cpu-init : goal.loop-cpu-init
loop-cpu-init c = none_warned c.args.but c.args.what c.args.seats.now.items c.deref_mut-seat-items.result.now
    c.deref_mut-seat-items.ensures.value

pub loop-cpu-preserved : goal.loop-cpu-preserved
loop-cpu-preserved c = grind (arith, nat_tests, common_steps, one_warned, one_passed, set-get_or)

pub returns : goal.returns
returns c =
    let is = all_warned c.args.but c.args.what c.loop-cpu.cpu c.args.seats.now.items c.loop-cpu.seat-items
    (let a = c.loop-cpu-test.false in let b = c.loop-cpu.auto.seat-items in omega (arith, a, b)) c.loop-cpu.invariant in
    cut_back c.args.seats.now.len c.args.seats.now.len c.loop-cpu.seat-items
    (drop (length c.loop-cpu.seat-items) c.args.seats.now.items) _ _ refl refl
    (c.args.seats.now.ok.0 ∙ sym c.loop-cpu.invariant.size) refl ∙ is
