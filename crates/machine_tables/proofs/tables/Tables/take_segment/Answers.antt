use Rattle.machine_tables.proofs.Prelude.{rules, Seg, Deactivating, frames_from}
use Rattle.machine_tables.proofs.Laws.{state_of, after_pages, took_is}
use Rattle.machine_tables.proofs.tables.Tables.take_segment.Goals as goal

pub cut_trailers-requires : goal.cut_trailers-requires
cut_trailers-requires g c =
    let can = after_pages c.args.self.now.state c.take_pages.new.self.state c.args.c (Deactivating c.args.uid)
    (Seg c.args.uid) (frames_from c.args.self.now.state.store.ast c.args.uid 0) c.args.uid
    (state_of c.args.self.now c.take_pages.new.self _ c.take_pages.ensures) c.requires.active
    c.requires.takes.owner c.requires.takes.descriptors c.requires.takes.room in
    search rules

pub returns : goal.returns
returns g c = took_is c.args.self.now c.take_pages.new.self c.cut_trailers.new.self c.args.c (Deactivating c.args.uid)
    (Seg c.args.uid) (frames_from c.args.self.now.state.store.ast c.args.uid 0) c.args.uid c.take_pages.ensures
    c.cut_trailers.ensures
