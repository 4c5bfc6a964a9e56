use Rattle.seg_control.proofs.Resting.{FitsIn, IsInactive, IsLeastFree, Some, kept_still, length, map_at, plain, rules, still_kept, table_at, uid_homed, vtoc_in, words_in, ◌<◌, ◌≡◌, ◌≤◌}
use Rattle.seg_control.proofs.Chains.{kept_activated, words_few}
use Rattle.seg_control.proofs.segs.Segs.make_active.Goals as goal

pub load-requires-clause-few : goal.load-requires-clause-few
load-requires-clause-few g c =
    let least : IsLeastFree c.self.inside.ast c.args.link.pool c.args.place = search rules in
    let long = c.self.invariant.kept.sized c.args.link.pool c.args.place c.requires.pool least.in_pool in
    let few : length (table_at c.self.inside.ast.tables c.args.place) ≤ 256 =
    rw long (words_few c.args.link.pool c.requires.pool) in
    rw (c.table_mut.ensures.value, c.activate.ensures.active) few

pub invariant_of-self : goal.invariant_of-self
invariant_of-self g c =
    let still = rw (← c.self.view_is) at c.requires.still in
    let k = kept_still still c.self.invariant in
    let within : c.args.place < length c.self.inside.ast.entries = search rules in
    let least : IsLeastFree c.self.inside.ast c.args.link.pool c.args.place = search rules in
    let inactive : IsInactive c.self.inside.ast.entries c.args.link.uid = search rules in
    let homed : uid_homed c.self.inside.pages.volumes.vtocs c.args.link.home ≡ Some c.args.link.uid = search rules in
    let fits : FitsIn (map_at c.self.inside.pages.volumes.vtocs c.args.link.home) (words_in c.args.link.pool) =
    search rules in
    let tree = rw c.activate.ensures.active at c.activate.ensures.tree in
    let long : length (table_at c.self.inside.ast.tables c.args.place) ≡ words_in c.args.link.pool =
    k.sized c.args.link.pool c.args.place c.requires.pool least.in_pool in
    let lent = rw c.activate.ensures.active at c.table_mut.ensures.value in
    let vtoc : c.vtoc.result.now ≡ vtoc_in c.self.inside.pages.volumes.vtocs c.args.link.home.volume = search rules in
    let loaded = rw (vtoc, lent, long) at c.load.ensures in
    still_kept still (rw (c.activate.ensures.active, loaded) (kept_activated (plain g.D.Drive.pages c.self.inside.pages)
    c.self.inside.ast c.self.inside.links c.args.place c.args.link.uid (words_in c.args.link.pool) c.args.superior
    c.args.link.home k within least.free inactive homed fits (words_few c.args.link.pool c.requires.pool) long tree))
