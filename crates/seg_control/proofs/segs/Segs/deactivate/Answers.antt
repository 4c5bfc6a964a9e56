use Rattle.seg_control.proofs.Resting.{All, IsAway, IsNotRead, IsTree, [], deactivated, kept_still, length, plain, rules, still_kept, table_at, trailers_of, ◌<◌, ◌≡◌}
use Rattle.seg_control.proofs.Becoming.{kept_deactivated}
use Rattle.seg_control.proofs.segs.Segs.deactivate.Goals as goal

pub invariant_of-self : goal.invariant_of-self
invariant_of-self g c =
    let still = rw (← c.self.view_is) at c.requires.still in
    let k = kept_still still c.self.invariant in
    let within : c.args.place < length c.self.inside.ast.entries = search rules in
    let away : All IsAway (table_at c.self.inside.ast.tables c.args.place) = search rules in
    let idle : IsNotRead c.self.inside.pages.core c.self.inside.ast.entries c.args.place = search rules in
    let cut : trailers_of c.self.inside.links.trailers c.args.place ≡ [] = search rules in
    let tree : IsTree (deactivated c.self.inside.ast c.args.place).entries = search rules in
    still_kept still (rw c.deactivate.ensures.inactive (kept_deactivated (plain g.D.Drive.pages c.self.inside.pages)
    c.self.inside.ast c.self.inside.links c.args.place k within away idle cut tree))
