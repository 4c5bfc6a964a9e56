use Rattle.book_check.proofs.Prelude.{◌≤◌, List, subst, sym, Node, quota_in, used_by, IsTree}
use Rattle.book_check.proofs.judge.accounts_promise.Goals as goal

pub returns-clause-tree : goal.returns-clause-tree
returns-clause-tree c = λ p s h. subst IsTree (sym (c.accounts.ensures.nodes p s h)) c.promise.ensures.tree

pub returns-clause-within : goal.returns-clause-within
returns-clause-within c = λ p s h a. subst (λ (ns : List Node). used_by ns s.stored a ≤ quota_in ns a)
    (sym (c.accounts.ensures.nodes p s h)) (c.promise.ensures.within s.stored (c.accounts.ensures.counts p s h) a)
