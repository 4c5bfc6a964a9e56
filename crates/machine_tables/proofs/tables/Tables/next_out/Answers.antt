use Rattle.machine_tables.proofs.Prelude.{◌∙◌, sym}
use Rattle.machine_tables.proofs.NextOut.{out_end, out_here, out_later}
use Rattle.machine_tables.proofs.tables.Tables.next_out.Goals as goal

pub returns-then-is_out : goal.returns-then-is_out
returns-then-is_out g c = sym (c.loop-page.invariant ∙ out_here _ _ _ c.table_size-page-end.ensures c.requires.short
    c.loop-page-test.true (cc))

pub loop-page-preserved : goal.loop-page-preserved
loop-page-preserved g c = c.loop-page.invariant ∙ out_later _ _ _ c.table_size-page-end.ensures c.requires.short
    c.loop-page-test.true (cc)

pub returns : goal.returns
returns g c = sym (c.loop-page.invariant ∙ out_end _ _ _ c.table_size-page-end.ensures c.loop-page-test.false)
