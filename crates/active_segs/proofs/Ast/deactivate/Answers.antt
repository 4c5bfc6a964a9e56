use Rattle.active_segs.proofs.Prelude.{ActiveSegs, Entry, HasNoInferior, List, Option, ap, is_some, subst, superior_in, sym, uid_in}
use Rattle.active_segs.proofs.AstLemmas.{IsSuperiorPlace, kept_deactivated, may_forget, superior_of_active, used_entry}
use Rattle.active_segs.proofs.Ast.deactivate.Goals as goal

pub forget-requires : goal.forget-requires
forget-requires c =
    let xs : List (Option Entry) = c.self.inside.entries.items in
    let at = used_entry c.self.view_is c.requires.place c.index.ensures c.in-Some.is in
    let above : IsSuperiorPlace xs c.in-Some.entry.superior _ =
    superior_of_active _ _ c.args.place c.in-Some.entry c.self.invariant.indexed c.self.invariant.tree at.is in
    let placed : IsSuperiorPlace xs c.in-Some.entry.superior c.place_of_superior-above.result =
    subst (IsSuperiorPlace xs c.in-Some.entry.superior) (sym c.place_of_superior-above.ensures) above in
    may_forget xs _ c.self.invariant.inferior_maps c.in-Some.entry.superior c.place_of_superior-above.result
    c.args.place at.within (ap superior_in at.is) placed

pub remove-requires : goal.remove-requires
remove-requires c =
    record {
      there = ap is_some ((c.self.invariant.indexed.places c.args.place c.in-Some.entry.uid).1
          (ap uid_in (used_entry c.self.view_is c.requires.place c.index.ensures c.in-Some.is).is));
    }

pub invariant_of-self-2 : goal.invariant_of-self-2
invariant_of-self-2 c =
    let xs : List (Option Entry) = c.self.inside.entries.items in
    let at = used_entry c.self.view_is c.requires.place c.index.ensures c.in-Some.is in
    let leaf : HasNoInferior xs c.args.place = subst (λ (v : ActiveSegs). HasNoInferior v.entries c.args.place)
    (sym c.self.view_is) c.requires.leaf in
    kept_deactivated c.self.inside.sizes
    c.self.inside.hands c.self.inside.used.items xs c.self.inside.tables.items c.self.inside.inferiors.items
    c.self.inside.index c.self.invariant c.args.place c.in-Some.entry c.pool_of-pool.result.0 c.pool_of-pool.result.1
    c.unmark.new.used.items c.forget.new.inferiors.items c.remove.new.self c.place_of_superior-above.result
    c.clear.new.self at.within at.is leaf c.pool_of-pool.ensures c.place_of_superior-above.ensures
    c.unmark.ensures c.forget.ensures c.remove.ensures.sets c.remove.ensures.count c.remove.ensures.room

pub returns-clause-tree : goal.returns-clause-tree
returns-clause-tree c = (invariant_of-self-2 c).tree
