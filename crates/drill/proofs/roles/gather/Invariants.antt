use Rattle.drill.proofs.Prelude.{All, AreDone, EachRole, IsPassOf, RoleDone, made_count, missing, vec_capacity, vec_len, ◌%◌, ◌*◌, ◌+◌, ◌^◌, ◌≡◌, ◌≤◌}
use Rattle.drill.proofs.roles.gather.Given as goal

abbrev pub invariant-loop-role : goal.invariant-loop-role
invariant-loop-role l = EachRole (RoleDone l.pages l.size.seed l.size.adds l.size.cpus) l.roles.items × (vec_len l.roles
    + vec_len l.row ≡ l.size.cpus) × (l.size.cpus ≤ vec_capacity l.row) × All (IsPassOf l.pages) l.row.items
    × AreDone l.pages l.size.seed l.size.adds 0 l.row.items × (l.sum ≡ missing l.size.adds l.row.items % 2 ^ 36)
    × (l.touches ≡ made_count l.row.items) × (l.touches ≤ 10000 * vec_len l.row)

abbrev pub decreases-loop-role : goal.decreases-loop-role
decreases-loop-role l = vec_len l.roles
