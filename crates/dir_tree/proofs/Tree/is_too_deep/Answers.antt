use Rattle.dir_tree.proofs.Prelude.{◌≡◌, length, nat_le, ap, ◌∙◌, above, shapes, above_any}
use Rattle.dir_tree.proofs.Tree.is_too_deep.Goals as goal

pub returns-then-dir : goal.returns-then-dir
returns-then-dir c =
    let depth : c.len.result ≡ length (above (shapes c.args.self.now.nodes) c.args.superior) = c.len.ensures.value
    ∙ ap length (c.superiors.ensures.above (λ _. 0) ∙ above_any (λ _. 0) c.args.self.now.nodes c.args.superior) in
    rw c.if-dir.true (ap (nat_le 8) depth)
