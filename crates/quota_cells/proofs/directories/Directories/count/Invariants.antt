use Rattle.quota_cells.proofs.Prelude.{drop, counted_on, HasRoom}
use Rattle.quota_cells.proofs.RowLaws.{Walks}
use Rattle.quota_cells.proofs.directories.Directories.count.Given as goal

abbrev pub invariant-loop-directory : goal.invariant-loop-directory
invariant-loop-directory l = Walks (counted_on l.pages) (HasRoom l.pages) l.fn.self l.self l.up
    (drop l.directory-index l.up)
