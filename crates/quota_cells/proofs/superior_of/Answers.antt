use Rattle.quota_cells.proofs.Prelude.{arith, common_steps, directory_in, nat_tests}
use Rattle.quota_cells.proofs.TransferLaws.{top, not_empty}
use Rattle.quota_cells.proofs.superior_of.Goals as goal

pub superiors-up-requires : goal.superiors-up-requires
superiors-up-requires c = directory_in c.args.t.now.nodes c.args.dir c.requires.directory

pub bounds-as_slice-0 : goal.bounds-as_slice-0
bounds-as_slice-0 c = rw (c.as_slice.ensures.value, c.superiors-up.ensures.plain)
    (not_empty c.args.t.now.nodes c.superiors-up.ensures.chains c.args.dir c.requires.directory c.requires.branch)

pub returns : goal.returns
returns c = grind (arith, nat_tests, common_steps, top)
