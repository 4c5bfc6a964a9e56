use Rattle.flat_store.proofs.Prelude.{◌+◌, ◌∷◌, refl, sym, ◌∙◌, Plan, branch_of, branch_made, Store, Holds}
use Rattle.flat_store.specs.contracts.holdings.Holdings.{the_view}
use Rattle.flat_store.proofs.MakeLaws.{added_shown}
use Rattle.flat_store.proofs.OkLaws.{ok_of}
use Rattle.flat_store.proofs.holdings.Holdings.add.Goals.{After-fill_at}
use Rattle.flat_store.proofs.holdings.Holdings.add.Goals as goal

-- the new branch is held
shown : (c : After-fill_at) {p : Plan} {s : Store} → Holds p (the_view c.self.inside) s
    → Holds p (record (the_view c.self.inside) { accounts = c.add.new.self; entries = c.fill_at.new.gauges.items })
    (record s {
      nodes = branch_of c.self.inside.accounts.next c.args.superior c.args.new ∷ s.nodes;
      next = s.next + 1;
    })
shown c holds = added_shown holds (ok_of c.add.result _ c.add.ensures.ok (sym c.is_ok.ensures.value ∙ c.if-is_ok.true))
    c.fill_at.ensures refl c.next_uid.ensures.fresh
    (rw (← c.deref.ensures.value, ← c.is_full_at.ensures.used) c.if-is_full_at.false) c.requires.flat

pub invariant_of-self : goal.invariant_of-self
invariant_of-self c = let (p, s, h) = c.self.invariant in (p, _, shown c h)

pub returns-then-is_ok : goal.returns-then-is_ok
returns-then-is_ok c = λ p s d h below few effect.
    let holds = rw (← c.self.view_is) at h in
    rw (← branch_made s d c.self.inside.accounts.next c.args.superior holds.next below) (shown c holds)
