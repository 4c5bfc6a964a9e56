use Rattle.quota_cells.proofs.Prelude.{arith, common_steps, ◌≡◌, ◌+◌, ℕ, List, Result, Ok, sym, ap, ◌∙◌, above, shapes, CellMaps, quota_in, stored_in, Fits, IsTable, charged, charge_fault, Full, Node, HasChains, HoldCounts, charge_answer, with_quotas, on_segments, nat_tests}
use Rattle.quota_cells.proofs.ColumnLaws.{look_with}
use Rattle.quota_cells.proofs.FitLaws.{Settled, there, falls, room_charged, stored_room, fits_charged, table_charged, not_full}
use Rattle.quota_cells.proofs.ScratchLaws.{charge_same}
use Rattle.quota_cells.proofs.Cells.charge.Goals as goal

pub add_page-requires : goal.add_page-requires
add_page-requires c =
    let settled : Settled c.args.t.now.nodes c.args.self.now = assumption in
    let up = c.as_slice-in-Ok.ensures.value ∙ c.superiors-up.ensures.plain in
    let full : charge_fault c.args.self.now (above (shapes c.args.t.now.nodes) c.args.seg) ≡ Ok tt =
    ap (charge_fault c.args.self.now) (cc) ∙ sym c.room_for.ensures.answer ∙ c.in-Ok.is in
    let ne = not_full c.args.self.now (above (shapes c.args.t.now.nodes) c.args.seg) full in
    record {
      segment = (cc (on_segments c.args.t.now.nodes c.requires.fits c.args.seg));
      there = rw up (there settled c.args.seg);
      falls = rw up (falls settled c.args.seg);
      room = rw up (room_charged settled c.args.seg c.requires.segment ne);
      page = stored_room settled c.args.seg c.requires.segment ne;
      table = rw up (table_charged settled c.args.seg c.requires.segment ne);
    }

-- the answer is that by counts from scratch
answered : (nodes : List Node) (cells : CellMaps) {up : List ℕ} (seg : ℕ) {r : Result (Unit {0}) Full}
    → Fits nodes cells → HasChains (shapes nodes) → IsTable cells → up ≡ above (shapes nodes) seg
    → r ≡ charge_fault cells up → (stored : List (ℕ × ℕ)) → HoldCounts cells stored
    → r ≡ charge_answer (with_quotas (quota_in cells) nodes) stored seg
answered nodes cells seg fits chains table is answer stored holds =
    answer ∙ rw is (charge_same nodes cells fits chains table.segments_rise table.stored_count stored holds seg)

pub returns-in-Ok-clause-scratch : goal.returns-in-Ok-clause-scratch
returns-in-Ok-clause-scratch c stored holds = sym c.in-Ok.is ∙ answered c.args.t.now.nodes c.args.self.now c.args.seg
    c.requires.fits c.superiors-up.ensures.chains c.room_for.ensures.table (cc) c.room_for.ensures.answer stored holds

pub returns-in-Err-clause-scratch : goal.returns-in-Err-clause-scratch
returns-in-Err-clause-scratch c stored holds = grind (arith, nat_tests, common_steps, answered)

-- the cells once the page is added
added : (c : goal.After-add_page)
    → c.add_page.new.self ≡ charged c.args.self.now (above (shapes c.args.t.now.nodes) c.args.seg) c.args.seg
added c = cc

pub returns-in-Ok-clause-stored : goal.returns-in-Ok-clause-stored
returns-in-Ok-clause-stored c s =
    ap (λ x. stored_in x s) (added c) ∙ look_with c.args.self.now.segments c.args.self.now.stored c.args.seg
    (stored_in c.args.self.now c.args.seg + 1) s c.room_for.ensures.table.stored_count
    (cc (on_segments c.args.t.now.nodes c.requires.fits c.args.seg))

pub returns-in-Ok-clause-fits : goal.returns-in-Ok-clause-fits
returns-in-Ok-clause-fits c = grind (arith, nat_tests, common_steps, added, fits_charged)
