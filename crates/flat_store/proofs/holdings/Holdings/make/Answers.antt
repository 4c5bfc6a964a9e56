use Rattle.std.proofs.lemmas.Grind.{common_steps}
use Rattle.flat_store.proofs.Prelude.{arith, nat_tests, ◌≡◌, Ok, refl, Node, quota_in, as_term, node_at, after_make, parts_are}
use Rattle.flat_store.proofs.MakeLaws.{make_asked}
use Rattle.laws.proofs.Bools.{not_both}
use Rattle.flat_store.proofs.holdings.Holdings.make.Goals as goal

pub returns-in_default : goal.returns-in_default
unfolding after_make
returns-in_default c = λ p s h few effect. rw c.in_default.ensures.root h

pub returns-in-Err : goal.returns-in-Err
unfolding after_make
returns-in-Err c = grind (arith, nat_tests, common_steps, parts_are _ _ _ c.in-Some.ensures.parts)

pub returns-then-is_directory : goal.returns-then-is_directory
unfolding after_make
returns-then-is_directory c = λ p s h few effect.
    let holds = rw (← c.self.view_is) at h in
    let d : Node = as_term (quota_in c.self.inside.accounts.nodes) c.in-Ok.node.now in
    let found : node_at s.nodes c.in-Some.above.now ≡ Ok d = rw holds.nodes c.in-Ok.ensures.ok in
    let asked = make_asked p s c.args.path.now c.in-Some.above.now c.in-Some.name.now c.args.volume c.args.dir
    c.in-Some.ensures.parts d found effect in
    rw (parts_are _ _ _ c.in-Some.ensures.parts, found, ← c.copied.ensures)
    (c.add.ensures p s d h refl few (rw c.copied.ensures asked.1))

pub returns-else-is_directory : goal.returns-else-is_directory
returns-else-is_directory c = λ p s h few effect.
    let holds = rw (← c.self.view_is) at h in
    let d : Node = as_term (quota_in c.self.inside.accounts.nodes) c.in-Ok.node.now in
    absurd (not_both (make_asked p s c.args.path.now c.in-Some.above.now c.in-Some.name.now c.args.volume c.args.dir
    c.in-Some.ensures.parts d (rw holds.nodes c.in-Ok.ensures.ok) effect).0 c.if-is_directory.false)
