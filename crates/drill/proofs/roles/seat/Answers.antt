use Rattle.drill.proofs.Prelude.{ap, arith, first_count, first_passes, length, rules, sym, vec_len, ◌+◌, ◌∙◌, ◌≡◌}
use Rattle.drill.proofs.Rows.{fresh_push}
use Rattle.drill.proofs.roles.seat.Goals as goal

pub loop-pass-init : goal.loop-pass-init
loop-pass-init c =
    let pages = c.args.pages.now in
    let count = c.args.passes.ok.0 ∙ ap (λ l. length l) c.requires.passes ∙ first_count pages pages.cpus in
    let none = c.in_ok-roles.ensures.len in
    let room = c.in_ok-roles.ensures.capacity in
    let len = c.len.ensures in (
      search rules,
      omega (arith, count, none),
      omega (arith, count, room, len),
      c.requires.passes ∙ ap (first_passes pages) (sym count),
      c.requires.passes_of,
    )

pub loop-pass-preserved : goal.loop-pass-preserved
loop-pass-preserved c =
    let before = c.loop-pass.passes in
    let roles = c.loop-pass.roles in
    let n = vec_len before in
    let count : n + length roles.items ≡ c.args.pages.now.cpus = omega (arith, roles.ok.0, c.loop-pass.invariant.1) in
    let less : n ≡ vec_len c.pop.new.self + 1 = search rules in
    let step = fresh_push c.args.pages.now roles.items c.push_reserved.new.self.items before.items c.pop.new.self.items
    c.pop.result c.in-Some.pass n (vec_len c.pop.new.self) (vec_len c.pop.new.self)
    c.pop.ensures.items c.in-Some.is c.loop-pass.invariant.3 c.loop-pass.invariant.4 c.loop-pass.invariant.0
    (search rules) less (search rules) count in
    (step.0, search rules, search rules, step.1, step.2)
