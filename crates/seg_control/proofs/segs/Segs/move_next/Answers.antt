use Rattle.seg_control.proofs.Copying.{Copies, disks_copied, is_moving, kept_copied, kept_moving, page_is, rules, tables_copied, tie_moving, words_copied}
use Rattle.seg_control.proofs.segs.Segs.move_next.Goals as goal

pub framed_pages-framed-requires : goal.framed_pages-framed-requires
framed_pages-framed-requires g c =
    let k = kept_moving (rw (← c.self.view_is) at c.requires.moving) c.self.invariant in
    rw (c.table.ensures.words, c.place_in-place.ensures.is) (tie_moving k).pages

pub copy_next-result-requires-clause-moving : goal.copy_next-result-requires-clause-moving
copy_next-result-requires-clause-moving g c =
    let k = kept_moving (rw (← c.self.view_is) at c.requires.moving) c.self.invariant in
    rw c.volumes_mut.ensures.value (is_moving g.D.Drive.pages c.self.inside.pages k.way.moving)

-- what was called for, and what it left
copies : (g : _) (c : goal.After-self-3-1 g)
    → Copies g.D.Drive.pages c.self.inside.pages c.copy_next-result.new.v c.self.inside.ast c.self.inside.links
    c.args.m.now c.copy_next-result.new.self c.framed_pages-framed.result c.copy_next-result.result
copies g c = record {
  kept = kept_moving (rw (← c.self.view_is) at c.requires.moving) c.self.invariant;
  framed = rw (c.table.ensures.words, c.place_in-place.ensures.is) at c.framed_pages-framed.ensures.framed;
  mover = rw c.volumes_mut.ensures.value at c.copy_next-result.ensures.mover;
  disks = rw c.volumes_mut.ensures.value at c.copy_next-result.ensures.pages;
  least = rw c.volumes_mut.ensures.value at c.copy_next-result.ensures.least;
  tables = rw c.volumes_mut.ensures.value at c.copy_next-result.ensures.tables;
  copied = rw c.volumes_mut.ensures.value at c.copy_next-result.ensures.copied;
  moving = c.copy_next-result.ensures.moving;
}

pub invariant_of-self : goal.invariant_of-self
invariant_of-self g c = kept_copied (copies g c)

pub returns : goal.returns
returns g c =
    let k = copies g c in
    let out = page_is k in
    let answer = rw (c.volumes_mut.ensures.value, out) at c.copy_next-result.ensures.answer in
    let mover = rw (c.volumes_mut.ensures.value, out) at c.copy_next-result.ensures.mover in
    rw (← c.self.view_is, rw (← c.self.view_is) at c.requires.moving)
    (search (rules, answer, mover, disks_copied k, tables_copied k, words_copied k))
