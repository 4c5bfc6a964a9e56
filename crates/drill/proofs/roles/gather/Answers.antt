use Rattle.drill.proofs.Rows.{arith, done_push, length, rules, vec_len, ◌+◌, ◌≡◌}
use Rattle.drill.proofs.roles.gather.Goals as goal

pub loop-role-preserved : goal.loop-role-preserved
loop-role-preserved c =
    let rest = c.pop.new.self in
    let row = c.loop-role.row in
    let size = c.args.size in
    let less : vec_len rest + 1 ≡ vec_len c.loop-role.roles = search rules in
    let count : length rest.items + 1 + length row.items ≡ size.cpus =
    omega (arith, rest.ok.0, row.ok.0, c.loop-role.invariant.1, less) in
    let step = done_push c.args.pages.now size.seed size.adds size.cpus c.loop-role.roles.items rest.items c.pop.result
    c.in-Some.role c.in-Works.worker row.items c.push_reserved.new.self.items
    c.pop.ensures.items c.in-Some.is c.in-Works.is c.loop-role.invariant.0 c.loop-role.invariant.3
    c.loop-role.invariant.4 c.push_reserved.ensures.items count
    in
    let sum = c.plus-sum.ensures in
    let own = c.unmade.ensures in
    let before = c.loop-role.invariant.5 in
    let more = step.3 in
    let touches = c.loop-role.invariant.6 in
    let few = c.loop-role.invariant.7 in
    let made = step.4 in
    let done = step.5 in
    let adds = c.requires.size.2 in
    let longer : vec_len c.push_reserved.new.self ≡ vec_len row + 1 = search rules in (
      step.0,
      search rules,
      search rules,
      step.1,
      step.2,
      omega (arith, sum, own, before, more),
      omega (arith, touches, made),
      omega (arith, few, done, adds, longer),
    )
