use Rattle.dir_tree.proofs.Prelude.{◌≡◌, List, false, eqb, not, refl, sym, ap, ◌∙◌, false_from_ne_true, both_ways, Term, above, Branches, has_inferior, shape, shapes, filter_map_same, above_left}
use Rattle.dir_tree.proofs.QuotaLemmas.{inferior_any}
use Rattle.dir_tree.proofs.Tree.remove.Goals as goal

pub detach-requires-clause-leaf : goal.detach-requires-clause-leaf
detach-requires-clause-leaf c = sym (inferior_any (λ _. 0) c.args.self.now.nodes c.args.uid)
    ∙ false_from_ne_true _ (λ is. both_ways false refl ((c.in_ok-may_remove.ensures (λ _. 0)).1 is))

pub returns-clause-rest : goal.returns-clause-rest
returns-clause-rest c u ne =
    let leaf : has_inferior (shapes c.args.self.now.nodes) c.args.uid ≡ false =
    sym (inferior_any (λ _. 0) c.args.self.now.nodes c.args.uid)
    ∙ false_from_ne_true _ (λ is. both_ways false refl ((c.in_ok-may_remove.ensures (λ _. 0)).1 is)) in
    ap (λ (t : Branches). above (shapes t.nodes) u) c.detach.ensures.tree
    ∙ ap (λ (ns : List Term). above ns u) (filter_map_same (λ n. not (eqb n.uid c.args.uid)) shape
    c.args.self.now.nodes) ∙ above_left c.args.uid (shapes c.args.self.now.nodes) leaf u ne
