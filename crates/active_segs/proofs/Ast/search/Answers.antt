use Rattle.active_segs.proofs.Prelude.{ActiveSegs, HasShape, IfSome, length, subst, ◌<◌}
use Rattle.active_segs.proofs.AstLemmas.{searched_within}
use Rattle.active_segs.proofs.Ast.search.Goals as goal

pub returns-clause-within : goal.returns-clause-within
returns-clause-within c =
    subst (λ (v : ActiveSegs). IfSome c.find.result (λ place. place < length v.entries)) c.self.view_is
    (searched_within c.args.uid c.find.result c.self.invariant.indexed c.find.ensures)

pub returns-clause-shape : goal.returns-clause-shape
returns-clause-shape c = subst HasShape c.self.view_is (record {
  pools = c.self.invariant.pools;
  entry_count = c.self.invariant.entry_count;
  table_count = c.self.invariant.table_count;
})
