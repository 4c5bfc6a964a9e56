use Rattle.machine.proofs.Prelude.{after, refl, rules, chain_of, wanted_pool}
use Rattle.machine.proofs.Laws.{is_victim, pool_is, victim_call, quiet_turn, stays_sound, victim_as}
use Rattle.machine.proofs.machine.Machine.empty_victim.Goals as goal

pub take_victim-requires : goal.take_victim-requires
take_victim-requires g c =
    let can = victim_call _ (is_victim c.args.of c.self.view_is c.self.invariant c.requires) in
    search rules

pub returns : goal.returns
unfolding after
returns g c =
    let d = is_victim c.args.of c.self.view_is c.self.invariant c.requires in
    rw (← c.self.view_is) (quiet_turn refl d.may c.take_victim.ensures (rw (pool_is _ d)) refl (refl, refl) tt)

pub invariant_of-self : goal.invariant_of-self
unfolding after
invariant_of-self g c =
    let d = is_victim c.args.of c.self.view_is c.self.invariant c.requires in
    let st = c.self.inside.tables.state.store in
    stays_sound d c.take_victim.ensures (rw (pool_is _ d)) refl (victim_as c.self.inside.tables.state c.args.c
    (wanted_pool st c.args.of) (chain_of st.accounts.nodes c.args.of) c.args.uid) (assumption c.promise.ensures)
