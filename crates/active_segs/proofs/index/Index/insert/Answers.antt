use Rattle.active_segs.proofs.SplitLemmas.{Pairs, SetsPlace, Some, ap, finds_list, length, list_has_room, list_more, list_sets, list_split, pairs_in, place_of, set, subst, sym, ◌%◌, ◌+◌, ◌<◌, ◌∙◌}
use Rattle.active_segs.proofs.index.Index.insert.Goals as goal

pub insert-requires-clause-room : goal.insert-requires-clause-room
insert-requires-clause-room c = list_has_room c.self.inside.lists.items c.self.inside.room c.args.uid c.self.invariant
    c.index_mut.result.now c.index_mut.ensures.value
    (subst (λ (v : Pairs). length v.pairs < v.room) (sym c.self.view_is) c.requires.room)

pub insert-requires-clause-absent : goal.insert-requires-clause-absent
insert-requires-clause-absent c = finds_list c.self.inside.lists.items c.self.inside.room c.args.uid c.self.invariant
    c.index_mut.result.now c.index_mut.ensures.value
    ∙ ap (λ (v : Pairs). place_of v.pairs c.args.uid) c.self.view_is ∙ c.requires.absent

pub invariant_of-self : goal.invariant_of-self
invariant_of-self c = list_split c.self.inside.lists.items c.self.inside.room c.args.uid c.self.invariant
    c.index_mut.result.now c.index_mut.ensures.value c.insert.new.self (Some c.args.place) c.insert.ensures.sets
    c.insert.ensures.room

pub returns-clause-sets : goal.returns-clause-sets
returns-clause-sets c = subst (λ (v : Pairs). SetsPlace v.pairs (pairs_in
    (set c.self.inside.lists.items (c.args.uid % 256) c.insert.new.self)) c.args.uid (Some c.args.place)) c.self.view_is
    (list_sets c.self.inside.lists.items c.self.inside.room c.args.uid c.self.invariant c.index_mut.result.now
    c.index_mut.ensures.value c.insert.new.self (Some c.args.place) c.insert.ensures.sets c.insert.ensures.room)

pub returns-clause-count : goal.returns-clause-count
returns-clause-count c = list_more c.self.inside.lists.items c.self.inside.room c.args.uid c.self.invariant
    c.index_mut.result.now c.index_mut.ensures.value c.insert.new.self c.insert.ensures.count
    ∙ ap (λ (v : Pairs). length v.pairs + 1) c.self.view_is
