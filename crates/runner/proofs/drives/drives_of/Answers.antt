use Rattle.runner.proofs.Prelude.{◌≡◌, ◌≤◌, ℕ, ap, arith, length, rules}
use Rattle.runner.proofs.DriveLaws.{fresh_faults, fresh_more, fresh_sizes, fresh_told}
use Rattle.runner.proofs.drives.drives_of.Goals as goal

pub loop-v-preserved : goal.loop-v-preserved
loop-v-preserved c = fresh_more c.args.script.now c.loop-v.v c.loop-v.drives.items c.push.new.self.items
    c.in_ok-drive_of.field-0 c.loop-v.invariant.0 c.loop-v.invariant.1 c.in_ok-drive_of.ensures.pages
    c.in_ok-drive_of.ensures.plan c.in_ok-drive_of.ensures.places c.in_ok-drive_of.ensures.faults (search rules)

-- the loop has made a drive for each volume
all_made : (made volumes v n : ℕ) → n ≡ volumes → made ≡ v → n ≤ v → v ≤ n → made ≡ volumes
all_made made volumes v n lines at least most = omega (arith, lines, at, least, most)

pub returns-clause-drives : goal.returns-clause-drives
returns-clause-drives c = fresh_told c.args.script.now c.loop-v.drives.items
    (all_made _ _ _ _ (ap length c.volumes.ensures) c.loop-v.invariant.0 c.loop-v-test.false c.loop-v.auto.v-end)
    c.loop-v.invariant.1

pub returns-clause-sizes : goal.returns-clause-sizes
returns-clause-sizes c = fresh_sizes c.args.script.now c.loop-v.drives.items
    (all_made _ _ _ _ (ap length c.volumes.ensures) c.loop-v.invariant.0 c.loop-v-test.false c.loop-v.auto.v-end)
    (λ v d at. (c.loop-v.invariant.1 v d at).size)

pub returns-clause-faults : goal.returns-clause-faults
returns-clause-faults c = fresh_faults c.args.script.now c.loop-v.drives.items c.loop-v.invariant.1
