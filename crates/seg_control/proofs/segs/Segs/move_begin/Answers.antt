use Rattle.seg_control.proofs.Beginning.{ap, kept_begun, kept_from, kept_still, with_volumes}
use Rattle.seg_control.proofs.segs.Segs.move_begin.Goals as goal

pub invariant_of-self : goal.invariant_of-self
invariant_of-self g c =
    let still = rw (← c.self.view_is) at c.requires.still in
    let k = kept_still still c.self.invariant in
    let filed = k.paged.filed in
    kept_begun (record {
      kept = k;
      active = rw (← c.self.view_is) at c.requires.active;
      home = rw (← c.self.view_is, still) at c.requires.home;
      can = rw (← c.self.view_is, still) at c.requires.can;
      unread = rw (← c.self.view_is) at c.requires.unread;
      effect = ap (with_volumes c.self.inside.pages) (rw c.volumes_mut.ensures.value at c.begin-mover.ensures.begun);
      mover = rw c.volumes_mut.ensures.value at c.begin-mover.ensures.mover;
      moving = c.begin-mover.ensures.moving (rw c.volumes_mut.ensures.value (kept_from c.self.inside.pages.volumes
          c.args.from filed));
      back = rw c.volumes_mut.ensures.value at (c.begin-mover.ensures.back c.begin-mover.new.v (assumption));
    })
