use Rattle.machine_tables.proofs.Prelude.{◌≡◌, ◌∙◌, ℕ, List, Some, ap, arith, sym, get_or_past, ActiveSegs, IsTree, Ptw, Null, ptw_at, table_at, uid_at, word_of, leaves}
use Rattle.machine_tables.proofs.Laws.{place_found, not_leaving}
use Rattle.machine_tables.proofs.committing.leaves.Goals as goal

-- the word of a page, by the place that was found
word : (ast : ActiveSegs) (place uid page : ℕ) {table : List Ptw} → IsTree ast.entries
    → uid_at ast.entries place ≡ Some uid → table ≡ table_at ast.tables place → word_of ast uid page ≡ ptw_at table page
word ast place uid page tree at is = cc (place_found ast place uid tree at)

pub returns-then-page-size : goal.returns-then-page-size
returns-then-page-size c = sym (ap leaves (word c.args.ast.now _ _ _ c.search.ensures.tree
    ((c.search.ensures.only c.in-Some.place).0 c.in-Some.is) c.table-table.ensures.words
    ∙ get_or_past c.table-table.result.now c.args.page Null (omega arith)))

pub returns-in-Leaving : goal.returns-in-Leaving
returns-in-Leaving c = sym (ap leaves (word c.args.ast.now _ _ _ c.search.ensures.tree
    ((c.search.ensures.only c.in-Some.place).0 c.in-Some.is) c.table-table.ensures.words
    ∙ (sym c.get.ensures ∙ c.in-Leaving.is)))

pub returns-in_default-get : goal.returns-in_default-get
returns-in_default-get c = not_leaving c.get.result c.in_default-get.not-Leaving
    ∙ sym (ap leaves (word c.args.ast.now _ _ _ c.search.ensures.tree
    ((c.search.ensures.only c.in-Some.place).0 c.in-Some.is) c.table-table.ensures.words ∙ sym c.get.ensures))
