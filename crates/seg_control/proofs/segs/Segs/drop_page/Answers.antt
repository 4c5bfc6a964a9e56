use Rattle.seg_control.proofs.Making.{homed_active, kept_dropped}
use Rattle.seg_control.proofs.Resting.{Null, kept_still, ptw_at, rules, still_kept, table_is_set, tied_home}
use Rattle.seg_control.proofs.segs.Segs.drop_page.Goals as goal

pub drop_page-requires-clause-away : goal.drop_page-requires-clause-away
drop_page-requires-clause-away g c = rw (c.table_mut.ensures.value, c.place_in-place.ensures.is)
    (rw (← c.self.view_is) at c.requires.away)

pub drop_page-requires-clause-tie : goal.drop_page-requires-clause-tie
drop_page-requires-clause-tie g c =
    let still = rw (← c.self.view_is) at c.requires.still in
    let k = kept_still still c.self.invariant in
    let home = rw (← c.self.view_is, still) at c.requires.home in
    rw (homed_active k c.place_in-place.ensures.at c.place_in-place.ensures.is c.table_mut.ensures.value home)
    (tied_home k c.place_in-place.ensures.at c.place_in-place.ensures.is c.table_mut.ensures.value home)

pub invariant_of-self : goal.invariant_of-self
invariant_of-self g c =
    let still = rw (← c.self.view_is) at c.requires.still in
    let k = kept_still still c.self.invariant in
    let its = homed_active k c.place_in-place.ensures.at c.place_in-place.ensures.is c.table_mut.ensures.value
    (rw (← c.self.view_is, still) at c.requires.home) in
    still_kept still (kept_dropped c.place_in-place.result
    (ptw_at c.table_mut.result.now c.args.p) k c.place_in-place.ensures.at c.place_in-place.ensures.within
    c.table_mut.ensures.value (rw (← c.self.view_is) at c.requires.idle) (rw its at c.drop_page.ensures.tie) (rw
    its at c.drop_page.ensures.others) c.drop_page.ensures.word c.drop_page.ensures.effect c.drop_page.ensures.reads)

pub returns : goal.returns
returns g c =
    let still = rw (← c.self.view_is) at c.requires.still in
    let its = homed_active (kept_still still c.self.invariant) c.place_in-place.ensures.at
    c.place_in-place.ensures.is c.table_mut.ensures.value (rw (← c.self.view_is, still) at c.requires.home) in
    let effect = rw (c.table_mut.ensures.value, c.place_in-place.ensures.is) at c.drop_page.ensures.effect in
    let word = table_is_set c.self.inside.ast c.args.uid c.args.p Null c.place_in-place.ensures.is
    c.table_mut.ensures.value c.drop_page.ensures.word in
    let words = rw its at c.drop_page.ensures.words in
    rw (← c.self.view_is, still) (search rules)
