use Rattle.active_segs.proofs.SplitLemmas.{None, Pairs, SetsPlace, ap, finds_list, length, list_less, list_sets, list_split, pairs_in, place_of, set, subst, ◌%◌, ◌∙◌}
use Rattle.active_segs.proofs.index.Index.remove.Goals as goal

pub remove-requires : goal.remove-requires
remove-requires c = record {
  there = rw (finds_list c.self.inside.lists.items c.self.inside.room c.args.uid c.self.invariant c.index_mut.result.now
      c.index_mut.ensures.value ∙ ap (λ (v : Pairs). place_of v.pairs c.args.uid) c.self.view_is) c.requires.there;
}

pub invariant_of-self : goal.invariant_of-self
invariant_of-self c = list_split c.self.inside.lists.items c.self.inside.room c.args.uid c.self.invariant
    c.index_mut.result.now c.index_mut.ensures.value c.remove.new.self None c.remove.ensures.sets c.remove.ensures.room

pub returns-clause-sets : goal.returns-clause-sets
returns-clause-sets c = subst (λ (v : Pairs). SetsPlace v.pairs
    (pairs_in (set c.self.inside.lists.items (c.args.uid % 256) c.remove.new.self)) c.args.uid None) c.self.view_is
    (list_sets c.self.inside.lists.items c.self.inside.room c.args.uid c.self.invariant c.index_mut.result.now
    c.index_mut.ensures.value c.remove.new.self None c.remove.ensures.sets c.remove.ensures.room)

pub returns-clause-count : goal.returns-clause-count
returns-clause-count c = list_less c.self.inside.lists.items c.self.inside.room c.args.uid c.self.invariant
    c.index_mut.result.now c.index_mut.ensures.value c.remove.new.self c.remove.ensures.count
    ∙ ap (λ (v : Pairs). length v.pairs) c.self.view_is
