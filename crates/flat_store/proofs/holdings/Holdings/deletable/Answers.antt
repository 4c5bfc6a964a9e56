use Rattle.flat_store.proofs.Prelude.{ne_eqb, sym, ◌∙◌, delete_asked, delete_done, delete_refused, List, ℕ, Result, Node, Reply, Held, ◌≡◌, branch_at}
use Rattle.laws.proofs.Bools.{not_both}
use Rattle.flat_store.proofs.holdings.Holdings.deletable.Goals as goal

-- what a path leads to in the tree that is held
found : {ns : List Node} {inside now : Held} (path : List (List ℕ)) {r : Result Node Reply} → ns ≡ now.accounts.nodes
    → inside ≡ now → branch_at inside.accounts.nodes path ≡ r → branch_at ns path ≡ r
found path same is told = rw (same, ← is) told

pub returns-in-Err-clause-effect : goal.returns-in-Err-clause-effect
returns-in-Err-clause-effect c = λ s same effect.
    delete_refused s c.args.path.now c.in-Err.field-0 (found c.args.path.now same c.self.view_is c.in-Err.ensures.err)

pub returns-then-is_err-clause-effect : goal.returns-then-is_err-clause-effect
returns-then-is_err-clause-effect c = λ s same effect.
    let inferior = c.may_remove.ensures.0 (sym c.is_err.ensures.value ∙ c.if-is_err.true) in
    let there = found c.args.path.now same c.self.view_is c.in-Ok.ensures.ok in
    let asked = delete_asked s c.args.path.now _ there effect in
    absurd (not_both (rw (same, ← c.self.view_is) inferior) asked.0)

pub returns-then-quota_of-ne0-clause-effect : goal.returns-then-quota_of-ne0-clause-effect
returns-then-quota_of-ne0-clause-effect c = λ s same effect.
    let there = found c.args.path.now same c.self.view_is c.in-Ok.ensures.ok in
    let asked = delete_asked s c.args.path.now _ there effect in
    absurd (not_both asked.1 (rw (← c.quota_of.ensures) (ne_eqb c.quota_of.result 0 c.if-quota_of-ne0.true)))

pub returns-clause-effect : goal.returns-clause-effect
returns-clause-effect c = λ s same effect.
    delete_done s c.args.path.now _ (found c.args.path.now same c.self.view_is c.in-Ok.ensures.ok)
