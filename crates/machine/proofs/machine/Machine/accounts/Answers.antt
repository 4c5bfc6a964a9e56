use Rattle.machine.proofs.Prelude.{◌∙◌, ap, Storage}
use Rattle.machine.proofs.AccountLaws.{shown_counts, shown_nodes}
use Rattle.machine.proofs.machine.Machine.accounts.Goals as goal

pub returns-clause-nodes : goal.returns-clause-nodes
returns-clause-nodes g c = rw (← c.self.view_is) (shown_nodes c.self.inside.tables.state
    c.self.invariant.keeps.machine.keeps _
    (c.accounts.ensures.accounts ∙ ap (λ (st : Storage). st.accounts) c.store.ensures.store))

pub returns-clause-counts : goal.returns-clause-counts
returns-clause-counts g c = rw (← c.self.view_is) (shown_counts c.self.inside.tables.state
    c.self.invariant.keeps.machine.keeps _
    (c.accounts.ensures.accounts ∙ ap (λ (st : Storage). st.accounts) c.store.ensures.store))
