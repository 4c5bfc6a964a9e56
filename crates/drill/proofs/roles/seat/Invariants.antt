use Rattle.drill.proofs.Prelude.{All, EachRole, IsPassOf, RoleFresh, first_passes, vec_capacity, vec_len, ◌+◌, ◌≡◌, ◌≤◌}
use Rattle.drill.proofs.roles.seat.Given as goal

abbrev pub invariant-loop-pass : goal.invariant-loop-pass
invariant-loop-pass l = EachRole (RoleFresh l.pages l.pages.cpus) l.roles.items
    × (vec_len l.passes + vec_len l.roles ≡ l.pages.cpus) × (l.pages.cpus + 1 ≤ vec_capacity l.roles)
    × (l.passes.items ≡ first_passes l.pages (vec_len l.passes)) × All (IsPassOf l.pages) l.passes.items

abbrev pub decreases-loop-pass : goal.decreases-loop-pass
decreases-loop-pass l = vec_len l.passes
