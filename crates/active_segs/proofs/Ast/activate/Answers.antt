use Rattle.active_segs.proofs.Prelude.{ActiveSegs, Entry, IsActive, List, None, Option, Some, entry_at, length, subst, sym, uid_at, ℕ, ◌<◌, ◌≡◌, ◌≢◌}
use Rattle.active_segs.proofs.AstLemmas.{IsSuperiorPlace, index_has_room, index_lacks, kept_activated, may_note, superior_placed}
use Rattle.active_segs.proofs.Ast.activate.Goals as goal

pub note-requires : goal.note-requires
note-requires c =
    let xs : List (Option Entry) = c.self.inside.entries.items in
    let active : (s : ℕ) → c.args.superior ≡ Some s → IsActive xs s =
    λ s h. subst (λ (v : ActiveSegs). IsActive v.entries s) (sym c.self.view_is) (c.requires.superior s h) in
    let placed : IsSuperiorPlace xs c.args.superior c.place_of_superior-above.result =
    subst (IsSuperiorPlace xs c.args.superior) (sym c.place_of_superior-above.ensures)
    (superior_placed _ _ c.self.invariant.indexed c.args.superior active) in
    let lt : c.args.place < length xs = subst (λ (v : ActiveSegs). c.args.place < length v.entries)
    (sym c.self.view_is) c.requires.place in
    let free : entry_at xs c.args.place ≡ None = subst (λ (v : ActiveSegs). entry_at v.entries c.args.place ≡ None)
    (sym c.self.view_is) c.requires.free in
    may_note xs c.self.inside.inferiors.items c.self.invariant.inferior_maps c.args.superior
    c.place_of_superior-above.result c.args.place lt free placed

pub insert-requires-clause-room : goal.insert-requires-clause-room
insert-requires-clause-room c = index_has_room c.args.place c.self.invariant.indexed
    (subst (λ (v : ActiveSegs). c.args.place < length v.entries) (sym c.self.view_is) c.requires.place)
    (subst (λ (v : ActiveSegs). entry_at v.entries c.args.place ≡ None) (sym c.self.view_is) c.requires.free)

pub insert-requires-clause-absent : goal.insert-requires-clause-absent
insert-requires-clause-absent c = index_lacks c.args.uid c.self.invariant.indexed (subst (λ (v : ActiveSegs). (q : ℕ)
    → uid_at v.entries q ≢ Some c.args.uid) (sym c.self.view_is) c.requires.inactive)

pub invariant_of-self : goal.invariant_of-self
invariant_of-self c =
    kept_activated c.self.inside.sizes c.self.inside.hands c.self.inside.used.items
    c.self.inside.entries.items c.self.inside.tables.items c.self.inside.inferiors.items c.self.inside.index
    c.self.invariant c.args.place c.args.uid c.args.superior c.pool_of-pool.result.0 c.pool_of-pool.result.1
    c.mark.new.used.items c.note.new.inferiors.items c.insert.new.self c.place_of_superior-above.result
    (subst (λ (v : ActiveSegs). c.args.place < length v.entries) (sym c.self.view_is) c.requires.place)
    (subst (λ (v : ActiveSegs). entry_at v.entries c.args.place ≡ None) (sym c.self.view_is) c.requires.free) (subst
    (λ (v : ActiveSegs). (q : ℕ) → uid_at v.entries q ≢ Some c.args.uid) (sym c.self.view_is) c.requires.inactive)
    (λ s h. subst (λ (v : ActiveSegs). IsActive v.entries s) (sym c.self.view_is) (c.requires.superior s h))
    c.pool_of-pool.ensures c.place_of_superior-above.ensures
    c.mark.ensures c.note.ensures c.insert.ensures.sets c.insert.ensures.count c.insert.ensures.room

pub returns-clause-tree : goal.returns-clause-tree
returns-clause-tree c = (invariant_of-self c).tree
