use Rattle.layer_tests.proofs.Prelude.{Here, Leaving, Null, ap, frame_at, frame_of, get_or-set_same, here_within, ptw_at, sym, uid_in, ◌∙◌, ◌≡◌}
use Rattle.layer_tests.proofs.tests.rehoming.leave.Goals as goal

pub take-requires-clause-bound : goal.take-requires-clause-bound
take-requires-clause-bound g c =
    ((c.look.ensures.seen c.args.uid c.args.home c.requires.tie).frame c.in-Here.f (ap frame_of c.in-Here.is)).bound

pub take-requires-clause-here : goal.take-requires-clause-here
take-requires-clause-here g c =
    let frame =
    (c.look.ensures.seen c.args.uid c.args.home c.requires.tie).frame c.in-Here.f (ap frame_of c.in-Here.is) in
    rw frame.page (sym c.look.ensures.word ∙ c.in-Here.is)

pub take-requires-clause-table : goal.take-requires-clause-table
take-requires-clause-table g c =
    let frame =
    (c.look.ensures.seen c.args.uid c.args.home c.requires.tie).frame c.in-Here.f (ap frame_of c.in-Here.is) in
    rw frame.segment c.requires.tie.table

pub evict-requires-clause-bound : goal.evict-requires-clause-bound
evict-requires-clause-bound g c =
    rw c.take.ensures.same
    ((c.look.ensures.seen c.args.uid c.args.home c.requires.tie).frame c.in-Here.f (ap frame_of c.in-Here.is)).bound

pub evict-requires-clause-leaving : goal.evict-requires-clause-leaving
evict-requires-clause-leaving g c =
    let frame =
    (c.look.ensures.seen c.args.uid c.args.home c.requires.tie).frame c.in-Here.f (ap frame_of c.in-Here.is) in
    let here : ptw_at c.args.t.now c.args.p ≡ Here c.in-Here.f = sym c.look.ensures.word ∙ c.in-Here.is in
    rw (c.take.ensures.same, c.take.ensures.word, frame.page) (get_or-set_same c.args.t.now c.args.p
    (Leaving c.in-Here.f) Null (here_within c.args.t.now c.args.p c.in-Here.f here))

pub evict-requires-clause-tie : goal.evict-requires-clause-tie
evict-requires-clause-tie g c =
    let frame =
    (c.look.ensures.seen c.args.uid c.args.home c.requires.tie).frame c.in-Here.f (ap frame_of c.in-Here.is) in
    let segment : uid_in (frame_at c.take.new.self.core c.in-Here.f) ≡ c.args.uid =
    rw c.take.ensures.same frame.segment in
    rw segment (c.take.ensures.tie c.args.uid c.args.home c.requires.tie)
