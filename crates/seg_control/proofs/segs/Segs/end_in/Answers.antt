use Rattle.seg_control.proofs.Frames.{rules, started_for}
use Rattle.seg_control.proofs.Reading.{Reads, counts_read, is_read, kept_at_rest, out_of, table_is_here, tables_read, tied_home, tied_now}
use Rattle.seg_control.proofs.segs.Segs.end_in.Goals as goal

pub end_in-requires-clause-out : goal.end_in-requires-clause-out
end_in-requires-clause-out g c =
    let started = rw (← c.self.view_is) at c.requires.started in
    out_of c.place_in-place.result c.args.p c.args.f c.self.invariant.kept c.place_in-place.ensures.at
    c.table_mut.ensures.value (started_for c.self.inside.pages.core c.args.f c.args.uid c.args.p started)

pub end_in-requires-clause-tie : goal.end_in-requires-clause-tie
end_in-requires-clause-tie g c =
    tied_now c.self.invariant (tied_home c.self.invariant.kept c.place_in-place.ensures.at c.place_in-place.ensures.is
    c.table_mut.ensures.value (rw (← c.self.view_is) at c.requires.home))

-- what was called for, and what it left
reads : (g : _) (c : goal.After-self-1 g)
    → Reads g.D.Drive.pages c.self.inside.pages c.end_in.new.self c.self.inside.ast c.self.inside.links
    c.self.inside.moving c.args.uid c.args.p c.args.home c.args.f c.table_mut.result.now c.end_in.new.t c.end_in.result
reads g c = assumption (tied_home c.self.invariant.kept c.place_in-place.ensures.at c.place_in-place.ensures.is
    c.table_mut.ensures.value (rw (← c.self.view_is) at c.requires.home))

pub invariant_of-self : goal.invariant_of-self
invariant_of-self g c =
    let started = rw (← c.self.view_is) at c.requires.started in
    kept_at_rest c.place_in-place.result (reads g c) c.place_in-place.ensures.at c.place_in-place.ensures.within
    c.table_mut.ensures.value (started_for c.self.inside.pages.core c.args.f c.args.uid c.args.p started)
    c.end_in.ensures.word c.end_in.ensures.bound c.end_in.ensures.lost c.end_in.ensures.reads

pub returns : goal.returns
returns g c =
    let call = reads g c in
    let read = is_read call in
    let tables = tables_read call in
    let counts = counts_read call in
    let word = table_is_here c.end_in.result c.self.inside.ast c.args.uid c.args.p c.args.f
    c.place_in-place.ensures.is c.table_mut.ensures.value c.end_in.ensures.word in
    rw (← c.self.view_is) (search rules)
