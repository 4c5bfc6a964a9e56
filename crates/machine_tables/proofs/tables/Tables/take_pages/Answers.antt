use Rattle.machine_tables.proofs.Prelude.{◌≡◌, ◌<◌, ◌≤◌, ℕ, arith}
use Rattle.machine_tables.proofs.Laws.{rest_end, rest_next, state_of, here_few, takes_end, takes_next}
use Rattle.machine_tables.proofs.tables.Tables.take_pages.Goals as goal

-- a page before the end of a table, or past it, by the length that was found at first
before : {p now first found : ℕ} → now ≡ first → found ≡ first → p < found → p < now
before same size lt = omega arith

past : {p now first found : ℕ} → now ≡ first → found ≡ first → found ≤ p → now ≤ p
past same size le = omega arith

pub take_page-requires-clause-few : goal.take_page-requires-clause-few
take_page-requires-clause-few g c = (here_few c.loop-p.invariant.on
    (before c.loop-p.invariant.on.long c.table_size-p-end.ensures c.loop-p-test.true)).0

pub take_page-requires-clause-room : goal.take_page-requires-clause-room
take_page-requires-clause-room g c = (here_few c.loop-p.invariant.on
    (before c.loop-p.invariant.on.long c.table_size-p-end.ensures c.loop-p-test.true)).1

pub take_page-requires-clause-page : goal.take_page-requires-clause-page
take_page-requires-clause-page g c = before c.loop-p.invariant.on.long c.table_size-p-end.ensures c.loop-p-test.true

pub loop-p-preserved : goal.loop-p-preserved
loop-p-preserved g c = record {
  on = takes_next c.loop-p.invariant.on
      (before c.loop-p.invariant.on.long c.table_size-p-end.ensures c.loop-p-test.true)
      (state_of c.loop-p.self c.take_page.new.self _ c.take_page.ensures.effect) c.take_page.ensures.rest;
  rest = rest_next c.loop-p.self c.take_page.new.self c.args.self.now _ c.loop-p.invariant.rest
      c.take_page.ensures.effect;
}

pub returns : goal.returns
returns g c = rest_end c.loop-p.self c.args.self.now _ c.loop-p.invariant.rest (takes_end c.loop-p.invariant.on
    (past c.loop-p.invariant.on.long c.table_size-p-end.ensures c.loop-p-test.false))
