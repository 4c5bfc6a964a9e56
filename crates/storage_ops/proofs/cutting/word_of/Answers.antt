use Rattle.storage_ops.proofs.Prelude.{arith, get_or_past, Null}
use Rattle.storage_ops.proofs.Paged.{place_found}
use Rattle.storage_ops.proofs.cutting.word_of.Goals as goal

pub returns-then-page-size : goal.returns-then-page-size
returns-then-page-size c = cc (
  c.get.ensures,
  c.table-table.ensures.words,
  (place_found c.args.ast.now.entries c.args.uid c.in-Some.place
      c.search.result c.requires c.search.ensures.only c.in-Some.is),
)

pub returns-else-page-size : goal.returns-else-page-size
returns-else-page-size c =
    let place = place_found c.args.ast.now.entries c.args.uid c.in-Some.place c.search.result c.requires
    c.search.ensures.only c.in-Some.is in
    cc (get_or_past c.table-table.result.now c.args.page Null (omega arith))
