use Rattle.seg_control.proofs.Resting.{Leaving, frame_at, kept_evicted, kept_still, lost_bindings, number_in, plain, ptw_at, record_of, rules, still_kept, table_is_left, tied_home, ℕ, ◌≡◌}
use Rattle.seg_control.proofs.segs.Segs.evict.Goals as goal

pub evict-requires-clause-bound : goal.evict-requires-clause-bound
evict-requires-clause-bound g c = rw (← c.self.view_is) at c.requires.bound

pub evict-requires-clause-leaving : goal.evict-requires-clause-leaving
evict-requires-clause-leaving g c = rw (c.table_mut.ensures.value, c.place_in-place.ensures.is)
    (rw (← c.self.view_is) at c.requires.leaving)

pub evict-requires-clause-tie : goal.evict-requires-clause-tie
evict-requires-clause-tie g c =
    let still = rw (← c.self.view_is) at c.requires.still in
    let own = rw (← c.self.view_is) at c.requires.own in
    rw own (tied_home (kept_still still c.self.invariant) c.place_in-place.ensures.at c.place_in-place.ensures.is
    c.table_mut.ensures.value (rw (← c.self.view_is, still) at c.requires.home))

pub invariant_of-self : goal.invariant_of-self
invariant_of-self g c =
    let still = rw (← c.self.view_is) at c.requires.still in
    let own = rw (← c.self.view_is) at c.requires.own in
    let p : ℕ = number_in (frame_at c.self.inside.pages.core c.args.f) in
    let word : ptw_at c.table_mut.result.now p ≡ Leaving c.args.f =
    rw (c.table_mut.ensures.value, c.place_in-place.ensures.is) (rw (← c.self.view_is) at c.requires.leaving) in
    still_kept still (kept_evicted c.evict.result c.place_in-place.result p c.args.f (record_of (plain
    g.D.Drive.pages c.self.inside.pages) c.args.home p) (kept_still still c.self.invariant) c.place_in-place.ensures.at
    c.place_in-place.ensures.within c.table_mut.ensures.value word (rw own at c.evict.ensures.tie)
    (rw own at c.evict.ensures.others) c.evict.ensures.word c.evict.ensures.freed (lost_bindings c.evict.result
    (plain g.D.Drive.pages c.self.inside.pages) c.args.home p c.args.f c.evict.ensures.effect) c.evict.ensures.reads)

pub returns : goal.returns
returns g c =
    let still = rw (← c.self.view_is) at c.requires.still in
    let own = rw (← c.self.view_is) at c.requires.own in
    let p : ℕ = number_in (frame_at c.self.inside.pages.core c.args.f) in
    let word = table_is_left c.evict.result c.self.inside.ast c.args.uid p
    (record_of (plain g.D.Drive.pages c.self.inside.pages) c.args.home p) c.place_in-place.ensures.is
    c.table_mut.ensures.value c.evict.ensures.word in
    let words = rw own at c.evict.ensures.words in
    rw (← c.self.view_is, still) (search rules)
