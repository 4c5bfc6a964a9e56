use Rattle.seg_control.proofs.Making.{kept_created, lost_created}
use Rattle.seg_control.proofs.Resting.{Null, kept_still, plain, ptw_at, rules, still_kept, table_is_here, tied_home, ◌≡◌}
use Rattle.seg_control.proofs.segs.Segs.create_page.Goals as goal

pub create_page-requires-clause-tie : goal.create_page-requires-clause-tie
create_page-requires-clause-tie g c =
    let still = rw (← c.self.view_is) at c.requires.still in
    tied_home (kept_still still c.self.invariant) c.place_in-place.ensures.at c.place_in-place.ensures.is
    c.table_mut.ensures.value (rw (← c.self.view_is, still) at c.requires.home)

pub invariant_of-self : goal.invariant_of-self
invariant_of-self g c =
    let still = rw (← c.self.view_is) at c.requires.still in
    let word : ptw_at c.table_mut.result.now c.args.p ≡ Null =
    rw (c.table_mut.ensures.value, c.place_in-place.ensures.is) (rw (← c.self.view_is) at c.requires.null) in
    still_kept still (kept_created c.create_page.result c.place_in-place.result c.args.p c.args.f (kept_still
    still c.self.invariant) c.place_in-place.ensures.at c.place_in-place.ensures.within c.table_mut.ensures.value
    word c.create_page.ensures.tie c.create_page.ensures.others c.create_page.ensures.word c.create_page.ensures.bound
    (lost_created c.create_page.result (plain g.D.Drive.pages c.self.inside.pages) c.args.uid
    c.args.p c.args.home c.args.f c.args.at c.args.w c.create_page.ensures.effect) c.create_page.ensures.reads)

pub returns : goal.returns
returns g c =
    let still = rw (← c.self.view_is) at c.requires.still in
    let word = table_is_here c.create_page.result c.self.inside.ast c.args.uid c.args.p c.args.f
    c.place_in-place.ensures.is c.table_mut.ensures.value c.create_page.ensures.word in
    rw (← c.self.view_is, still) (search rules)
