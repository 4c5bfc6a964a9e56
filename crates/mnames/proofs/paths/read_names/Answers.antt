use Rattle.mnames.proofs.Prelude.{◌<◌, ◌≤◌, length, arith, nat_tests}
use Rattle.mnames.proofs.PathGrammar.{read_more, read_full, read_stuck}
use Rattle.mnames.proofs.paths.read_names.Goals as goal

pub returns-then-is_full-clause-err : goal.returns-then-is_full-clause-err
returns-then-is_full-clause-err c =
    let full : 9 ≤ length c.loop-after.names.items = grind (arith, nat_tests) in
    rw c.bad_path.ensures (read_full c.args.text.now c.loop-after.names.items c.loop-after.rest.now c.in-Some.after.now
    c.in-Some.field-0-0.now c.loop-after.invariant c.in-Some.ensures.cases.0 full)

pub loop-after-preserved : goal.loop-after-preserved
loop-after-preserved c =
    let room : length c.loop-after.names.items < 9 = grind (arith, nat_tests) in
    rw c.push.ensures.items
    (read_more c.args.text.now c.loop-after.names.items c.loop-after.rest.now c.in-Some.after.now c.in-Ok.behind.now
    c.in-Ok.name c.in-Some.field-0-0.now c.loop-after.invariant c.in-Some.ensures.cases.0 room c.in-Ok.ensures.name
    c.in-Ok.ensures.parts c.in-Ok.ensures.sign)

pub returns-in-Err-clause-err : goal.returns-in-Err-clause-err
returns-in-Err-clause-err c =
    let room : length c.loop-after.names.items < 9 = grind (arith, nat_tests) in
    rw c.bad_path-in-Err.ensures (read_stuck c.args.text.now c.loop-after.names.items c.loop-after.rest.now
    c.in-Some.after.now
    c.in-Some.field-0-0.now c.in-Err.length c.loop-after.invariant c.in-Some.ensures.cases.0 room c.requires.more
    c.in-Err.ensures.stuck)
