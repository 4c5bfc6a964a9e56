use Rattle.accounts.proofs.Prelude.{◌≡◌, sym, ◌∙◌, subst, quota_at, AccountMaps, on_nodes}
use Rattle.accounts.proofs.Laws.{there_of, quota_shown, lost}
use Rattle.accounts.proofs.Accounts.remove.Goals as goal

pub remove-requires-clause-there : goal.remove-requires-clause-there
remove-requires-clause-there c = there_of c.self.inside.tree c.self.inside.cells c.self.view_is
    c.args.uid c.requires.there

pub leave-requires-clause-cell : goal.leave-requires-clause-cell
leave-requires-clause-cell c = on_nodes c.self.inside.tree.nodes c.self.invariant c.args.uid
    ∙ (there_of c.self.inside.tree c.self.inside.cells c.self.view_is c.args.uid c.requires.there)

pub leave-requires-clause-quota : goal.leave-requires-clause-quota
leave-requires-clause-quota c = sym (quota_shown c.self.inside.tree c.self.inside.cells c.self.invariant c.args.uid)
    ∙ subst (λ (a : AccountMaps). quota_at a.nodes c.args.uid ≡ 0) (sym c.self.view_is) c.requires.quota

pub returns : goal.returns
returns c = rw (← c.self.view_is) (lost c.self.inside.tree c.in-Ok.ensures.ok c.leave.ensures.leaves)
