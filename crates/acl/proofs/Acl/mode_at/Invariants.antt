use Rattle.std.proofs.Common.{◌≡◌, drop}
use Rattle.std.specs.Prelude.{option_map}
use Rattle.tree_model.specs.Access.{mode_at}
use Rattle.acl.proofs.Acl.mode_at.Given as goal

-- no row so far names just these parts
abbrev pub invariant-loop-grant : goal.invariant-loop-grant
invariant-loop-grant l =
    mode_at (option_map (λ p. p.now) l.person) (option_map (λ p. p.now) l.project) (drop l.grant-index l.self)
    ≡ mode_at (option_map (λ p. p.now) l.person)
    (option_map (λ p. p.now) l.project) l.self
