use Rattle.quota_cells.proofs.Prelude.{◌≡◌, ◌-◌, ap, subst, ◌∙◌, above, shapes, quota_in, stored_in, IsTable, credited, on_segments}
use Rattle.quota_cells.proofs.ColumnLaws.{look_with}
use Rattle.quota_cells.proofs.FitLaws.{Settled, there, falls, room_credited, fits_credited, table_credited}
use Rattle.quota_cells.proofs.Cells.credit_pages.Goals as goal

pub take_pages-requires : goal.take_pages-requires
take_pages-requires c =
    let settled : Settled c.args.t.now.nodes c.args.self.now = record {
      table = rw c.self.view_is at c.self.invariant;
      fits = c.requires.fits;
      chains = c.superiors-up.ensures.chains;
    } in
    let up = c.as_slice.ensures.value ∙ c.superiors-up.ensures.plain in
    record {
      segment = (cc (on_segments c.args.t.now.nodes c.requires.fits c.args.seg));
      there = rw up (there settled c.args.seg);
      falls = rw up (falls settled c.args.seg);
      loads = rw up (room_credited settled c.args.seg c.args.pages c.requires.stored);
      stored = c.requires.stored;
      table = rw up (table_credited settled c.args.seg c.args.pages);
    }

-- the cells once the pages are taken
taken : (c : goal.After-take_pages) → c.take_pages.new.self
    ≡ credited c.args.self.now (above (shapes c.args.t.now.nodes) c.args.seg) c.args.seg c.args.pages
taken c = cc

pub returns-clause-stored : goal.returns-clause-stored
returns-clause-stored c s =
    let table : IsTable c.args.self.now = subst IsTable c.self.view_is c.self.invariant in
    ap (λ x. stored_in x s) (taken c) ∙ look_with c.args.self.now.segments c.args.self.now.stored c.args.seg
    (stored_in c.args.self.now c.args.seg - c.args.pages) s table.stored_count
    (cc (on_segments c.args.t.now.nodes c.requires.fits c.args.seg))

pub returns-clause-quotas : goal.returns-clause-quotas
returns-clause-quotas c = ap quota_in c.take_pages.ensures

pub returns-clause-fits : goal.returns-clause-fits
returns-clause-fits c =
    let settled : Settled c.args.t.now.nodes c.args.self.now = record {
      table = rw c.self.view_is at c.self.invariant;
      fits = c.requires.fits;
      chains = c.superiors-up.ensures.chains;
    } in
    rw (taken c) (fits_credited settled c.args.seg c.args.pages c.requires.segment c.requires.stored)
