use Rattle.quota_cells.proofs.Prelude.{◌≡◌, ℕ, ap, ◌∙◌, arith, drop_all, with_value, Cell, Pages, CellMaps, load_in, with_loads, counted_on, cell_in}
use Rattle.quota_cells.proofs.RowLaws.{load_ends, load_fits, load_next, walk_done, walk_there}
use Rattle.quota_cells.proofs.directories.Directories.count.Goals as goal

pub cell_there-cell-requires : goal.cell_there-cell-requires
cell_there-cell-requires c = walk_there c.loop-directory.invariant c.loop-directory-test.true

pub on-requires : goal.on-requires
on-requires c = rw c.cell_there-cell.ensures.cell
    (load_fits c.loop-directory.invariant c.cell_there-cell.ensures.rising c.loop-directory-test.true)

pub set_load-requires : goal.set_load-requires
set_load-requires c = walk_there c.loop-directory.invariant c.loop-directory-test.true

-- the cells once the pages are counted on one load more
set_one : (now : CellMaps) (pages : Pages) (u n : ℕ) {new : CellMaps} {cell : Cell} → new
    ≡ with_loads now (with_value now.directories now.loads u n) → n ≡ counted_on pages cell.load → cell ≡ cell_in now u
    → new ≡ with_loads now (with_value now.directories now.loads u (counted_on pages (load_in now u)))
set_one now pages u n is on read = cc

pub returns-then-cell-gt0 : goal.returns-then-cell-gt0
returns-then-cell-gt0 c =
    let quota = ap (λ x. x.quota) c.cell_there-cell.ensures.cell in
    set_one c.loop-directory.self c.args.pages _ _ c.set_load.ensures c.on.ensures c.cell_there-cell.ensures.cell
    ∙ load_ends c.loop-directory.invariant c.cell_there-cell.ensures.rising c.loop-directory-test.true
    (λ e. omega arith)

pub loop-directory-preserved : goal.loop-directory-preserved
loop-directory-preserved c =
    let quota = ap (λ x. x.quota) c.cell_there-cell.ensures.cell in
    rw (set_one c.loop-directory.self c.args.pages _ _ c.set_load.ensures c.on.ensures c.cell_there-cell.ensures.cell)
    (load_next c.loop-directory.invariant c.cell_there-cell.ensures.rising c.loop-directory-test.true (omega arith))

pub returns : goal.returns
returns c = walk_done (rw (drop_all c.loop-directory.directory-index c.args.up.now
    (omega arith)) at c.loop-directory.invariant)
