use Rattle.quota_cells.proofs.Prelude.{◌≡◌, ℕ, true, false, sym, subst, ◌∙◌, has, CellMaps, IsTable, has_cell, left, quota_in, stored_in, NumberMap, both_maps}
use Rattle.quota_cells.proofs.EnterLaws.{table_left}
use Rattle.quota_cells.proofs.Cells.drop_cell.Goals as goal

-- the cells without that of a uid, as they are where they were seen so
left_table : (d : CellMaps) (s : NumberMap) (now : CellMaps) (uid : ℕ) → both_maps d s ≡ now
    → IsTable (both_maps d s) → has_cell now uid ≡ true
    → quota_in now uid ≡ 0 → stored_in now uid ≡ 0 → IsTable (left (both_maps d s) uid)
left_table d s now uid seen table there quota stored =
    table_left (both_maps d s) table uid (subst (λ (m : CellMaps). has_cell m uid ≡ true) (sym seen) there)
    (subst (λ (m : CellMaps). quota_in m uid ≡ 0) (sym seen) quota)
    (subst (λ (m : CellMaps). stored_in m uid ≡ 0) (sym seen) stored)

pub invariant_of-self : goal.invariant_of-self
invariant_of-self c =
    let dir : has c.self.inside.directories.directories c.args.uid ≡ true = sym c.has.ensures ∙ c.if-has.true in
    rw c.leave.ensures (rw dir at (left_table c.self.inside.directories c.self.inside.segments c.args.self.now
    c.args.uid c.self.view_is c.self.invariant c.requires.cell c.requires.quota c.requires.stored))

pub invariant_of-self-else-has : goal.invariant_of-self-else-has
invariant_of-self-else-has c =
    let off : has c.self.inside.directories.directories c.args.uid ≡ false = sym c.has.ensures ∙ c.if-has.false in
    rw c.leave-else-has.ensures (rw off at (left_table c.self.inside.directories c.self.inside.segments c.args.self.now
    c.args.uid c.self.view_is c.self.invariant c.requires.cell c.requires.quota c.requires.stored))
