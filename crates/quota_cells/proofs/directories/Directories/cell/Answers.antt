use Rattle.quota_cells.proofs.Prelude.{◌≡◌, false, sym, ◌∙◌, has, CellMaps, look_absent}
use Rattle.quota_cells.proofs.directories.Directories.cell.Goals as goal

pub returns-then-not-has : goal.returns-then-not-has
returns-then-not-has c =
    let m : CellMaps = c.args.self.now in
    let off : has m.directories c.args.uid ≡ false = sym c.has.ensures ∙ c.if-not-has.true in
    let quota = sym (look_absent m.directories m.quotas c.args.uid off) in
    let load = sym (look_absent m.directories m.loads c.args.uid off) in
    λ i. record { uid = c.args.uid; quota = quota i; load = load i }
