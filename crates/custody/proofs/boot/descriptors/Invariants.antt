use Rattle.custody.proofs.Prelude.{◌≡◌, replicate}
use Rattle.custody_model.specs.declared.DescriptorUse.TheVariants as descriptor
use Rattle.custody.proofs.boot.descriptors.Given as goal

abbrev pub invariant-loop-process : goal.invariant-loop-process
invariant-loop-process l = l.rows.items ≡ replicate l._process (replicate 256 descriptor.Free)
