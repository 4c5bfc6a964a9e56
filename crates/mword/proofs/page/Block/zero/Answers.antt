use Rattle.mword.proofs.Prelude.{◌<◌, ◌^◌, arith, All-replicate}
use Rattle.mword.proofs.page.Block.zero.Goals as goal

pub invariant_of-result : goal.invariant_of-result
invariant_of-result c = All-replicate (λ word. word < 2 ^ 36) 1024 0 (omega arith)
