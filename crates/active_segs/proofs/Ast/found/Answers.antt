use Rattle.active_segs.proofs.Prelude.{ActiveSegs, HasOneOffChain, IsActiveAt, IsInPool, Some, ap, arith, first_off_chain, length, subst, sym, ◌≡◌}
use Rattle.active_segs.proofs.AstLemmas.{found_active, found_in_pool, place_found, pool_within, segs_of}
use Rattle.active_segs.proofs.Ast.found.Goals as goal

pub find_from_hand-requires-clause-within : goal.find_from_hand-requires-clause-within
find_from_hand-requires-clause-within c =
    let same : length c.deref.result.now ≡ length c.self.inside.entries.items = ap length c.deref.ensures.value in
    omega (
      arith,
      pool_within c.self.inside.sizes c.args.pool c.self.invariant.pools.four c.requires.pool,
      c.self.invariant.entry_count,
      c.first_of-first.ensures.first,
    )

pub find_from_hand-requires-clause-some : goal.find_from_hand-requires-clause-some
find_from_hand-requires-clause-some c =
    rw (c.deref.ensures.value, c.first_of-first.ensures.first) (place_found c.self.invariant.pools c.requires.pool
    (subst (λ (v : ActiveSegs). HasOneOffChain v c.args.pool c.args.chain.now) (sym c.self.view_is) c.requires.some))

pub returns-clause-in_pool : goal.returns-clause-in_pool
returns-clause-in_pool c =
    let s = segs_of c.self.inside.sizes c.self.inside.hands c.self.inside.entries.items c.self.inside.tables.items in
    let some : HasOneOffChain s c.args.pool c.args.chain.now =
    subst (λ (v : ActiveSegs). HasOneOffChain v c.args.pool c.args.chain.now) (sym c.self.view_is) c.requires.some in
    let first : first_off_chain s c.args.pool c.args.chain.now ≡ Some c.find_from_hand.result =
    rw (c.deref.ensures.value, c.first_of-first.ensures.first) at c.find_from_hand.ensures in
    subst (λ (v : ActiveSegs). IsInPool v.sizes c.args.pool c.find_from_hand.result) c.self.view_is
    (found_in_pool c.find_from_hand.result c.self.invariant.pools c.requires.pool some first)

pub returns-clause-active : goal.returns-clause-active
returns-clause-active c =
    let s = segs_of c.self.inside.sizes c.self.inside.hands c.self.inside.entries.items c.self.inside.tables.items in
    let first : first_off_chain s c.args.pool c.args.chain.now ≡ Some c.find_from_hand.result =
    rw (c.deref.ensures.value, c.first_of-first.ensures.first) at c.find_from_hand.ensures in
    subst (λ (v : ActiveSegs). IsActiveAt v.entries c.find_from_hand.result) c.self.view_is
    (found_active s c.args.pool c.args.chain.now c.find_from_hand.result first)
