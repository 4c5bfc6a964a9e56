use Rattle.dir_tree.proofs.Prelude.{◌≢◌, ℕ, ◌<◌, length, false, Some, refl, ◌∙◌, both_ways, newest, entry_at}
use Rattle.dir_tree.proofs.KeptLemmas.{entry_present, inferior_since, no_inferior}
use Rattle.dir_tree.proofs.QuotaLemmas.{inferior_any}
use Rattle.dir_tree.proofs.Tree.may_remove.Goals as goal

pub has_inferior-requires-clause-there : goal.has_inferior-requires-clause-there
has_inferior-requires-clause-there c =
    (entry_present c.self.invariant.0 c.args.uid (rw (← c.self.view_is) at c.requires.there))

pub returns-then-has_inferior : goal.returns-then-has_inferior
returns-then-has_inferior c quota =
    let some = c.if-has_inferior.ensures.0 refl in (
      λ _. rw (← c.self.view_is) (inferior_any quota (newest c.self.inside.nodes.items c.self.inside.entries) c.args.uid
          ∙ inferior_since c.self.invariant.0 c.args.uid some.0 some.1 some.2),
      λ _. refl,
    )

pub returns : goal.returns
returns c quota =
    let none : (i : ℕ) → i < length c.self.inside.entries
    → (entry_at c.self.inside.entries i).superior ≢ Some c.args.uid =
    λ i lt e. both_ways false refl (c.if-has_inferior.ensures.1 (i, lt, e)) in (
      λ z. absurd (both_ways false refl z),
      λ is. absurd (both_ways _ (rw (← c.self.view_is) (inferior_any quota (newest c.self.inside.nodes.items
          c.self.inside.entries) c.args.uid ∙ no_inferior c.self.invariant.0 c.args.uid none)) is),
    )
