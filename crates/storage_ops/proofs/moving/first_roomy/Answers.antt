use Rattle.storage_ops.proofs.Prelude.{◌≡◌, true, rules, is_roomy}
use Rattle.storage_ops.proofs.RoomsFound.{first_here, first_nowhere}
use Rattle.storage_ops.proofs.moving.first_roomy.Goals as goal

pub returns-then-has_space : goal.returns-then-has_space
returns-then-has_space g c = (let has : is_roomy c.args.volumes.now c.args.own c.args.pages c.loop-volume.volume
    ≡ true = search rules in
    first_here c.args.volumes.now c.args.own c.args.pages (search rules) has c.loop-volume.invariant)

pub returns : goal.returns
returns g c = (first_nowhere c.args.volumes.now c.args.own c.args.pages (search rules))
