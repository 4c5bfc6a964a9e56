use Rattle.quota_cells.proofs.Prelude.{◌≡◌, ◌+◌, true, arith, ap, subst, ◌∙◌, covers, CellMaps, quota_in, with_quota}
use Rattle.quota_cells.proofs.ColumnLaws.{look_with_other}
use Rattle.quota_cells.proofs.directories.Directories.give.Goals as goal

pub change-requires-2-clause-can : goal.change-requires-2-clause-can
change-requires-2-clause-can c =
    let kept : quota_in c.change.new.self c.args.giver.directory ≡ quota_in c.args.self.now c.args.giver.directory =
    ap (λ (m : CellMaps). quota_in m c.args.giver.directory) c.change.ensures
    ∙ look_with_other c.args.self.now.directories c.args.self.now.quotas c.args.getter.directory _
    c.args.giver.directory c.requires.other in
    let less = ap (λ x. x.quota) c.cell-2.ensures in
    let changed = c.change.ensures
    ∙ ap (λ x. with_quota c.args.self.now c.args.getter.above.now c.args.getter.directory (x.quota + c.args.pages))
    c.cell.ensures in
    record {
      there = rw c.change.ensures c.requires.giver_placed.there;
      falls = c.requires.giver_placed.falls;
      appears = λ none some e covered. absurd (omega arith);
      vanishes = λ none e covered. rw changed (c.requires.vanishes (omega (arith, c.requires.enough, less, none)) e
          (subst (λ (m : CellMaps). covers (quota_in m) c.args.giver.above.now e ≡ true) changed covered));
    }
