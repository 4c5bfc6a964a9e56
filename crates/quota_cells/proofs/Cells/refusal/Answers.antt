use Rattle.quota_cells.proofs.Prelude.{rules, ◌≡◌, ap, false, refl, true, ◌∙◌, CellMaps, quota_in, cell_in}
use Rattle.quota_cells.proofs.MoveLaws.{covers_more}
use Rattle.quota_cells.proofs.OverLaws.{changing_of}
use Rattle.quota_cells.proofs.TransferLaws.{between_of, top_covers}
use Rattle.quota_cells.proofs.DecisionLaws.{down_decided, up_decided}
use Rattle.quota_cells.proofs.Cells.refusal.Goals as goal

pub refusal_down-requires : goal.refusal_down-requires
refusal_down-requires c =
    let below_is = c.cell-below.ensures ∙ ap (λ (m : CellMaps). cell_in m c.args.dir) c.self.view_is in
    let above_is = c.cell-above.ensures ∙ ap (λ (m : CellMaps). cell_in m c.args.superior) c.self.view_is in
    let between = between_of c.requires.table c.requires.fits c.requires.lies c.requires.pages in
    rw (below_is, above_is) (λ none. covers_more (changing_of between.settled between.here_d) none c.args.superior
    between.here_s (top_covers c.args.t.now.nodes (quota_in c.args.self.now) c.args.dir c.args.superior between.up))

pub returns-then-not-down : goal.returns-then-not-down
returns-then-not-down c =
    let below_is = c.cell-below.ensures ∙ ap (λ (m : CellMaps). cell_in m c.args.dir) c.self.view_is in
    let above_is = c.cell-above.ensures ∙ ap (λ (m : CellMaps). cell_in m c.args.superior) c.self.view_is in
    let down : c.args.down ≡ false = search rules in
    let between = between_of c.requires.table c.requires.fits c.requires.lies c.requires.pages in
    rw down (rw (below_is, above_is) at c.refusal_up.ensures
    ∙ up_decided between c.requires.lies.is c.requires.lies.branch)

pub returns : goal.returns
returns c =
    let below_is = c.cell-below.ensures ∙ ap (λ (m : CellMaps). cell_in m c.args.dir) c.self.view_is in
    let above_is = c.cell-above.ensures ∙ ap (λ (m : CellMaps). cell_in m c.args.superior) c.self.view_is in
    let up = c.as_slice.ensures.value ∙ c.superiors-up.ensures.plain in
    let account_is = c.account-account.ensures ∙ (rw (up, ← c.self.view_is) refl) in
    let down : c.args.down ≡ true = search rules in
    let between = between_of c.requires.table c.requires.fits c.requires.lies c.requires.pages in
    rw down (rw (below_is, above_is, account_is) at c.refusal_down.ensures ∙ down_decided between c.requires.lies.is)
