use Rattle.storage_ops.proofs.Prelude.{◌≡◌, ℕ, refl, sym, ◌∙◌, get_or-replicate, word_of, table_of}
use Rattle.storage_ops.proofs.Laws.{active_held, length_held, table_told, word_within, active_there, word_filed, zeros_null, word_at}
use Rattle.storage_ops.proofs.store.Store.look.Goals.{After-get, After-table}
use Rattle.storage_ops.proofs.store.Store.look.Goals as goal

-- the table that is looked at is that of the segment, and so is its word
table : (g : _) (c : After-table g) → c.table.result.now ≡ table_of c.self.inside.segs.ast c.args.uid
table g c = table_told c.self.inside.segs.ast c.ast-ast.result.now c.args.uid c.in-Some.place c.table.result.now
    c.ast-ast.ensures.ast c.look.ensures.kept.tree ((c.in-Some.ensures.only c.in-Some.place).0 refl)
    c.table.ensures.words

word : (g : _) (c : After-get g) → c.get.result ≡ word_of c.self.inside.segs.ast c.args.uid c.args.p
word g c = cc (c.get.ensures, table g (goal.at.returns g c).After-table)

pub get-requires : goal.get-requires
get-requires g c = rw (table g c) (word_within c.look.ensures.kept c.self.invariant
    (active_held c.self.view_is c.requires.active) c.args.p
    (length_held c.self.view_is c.args.uid c.args.p c.requires.page))

pub returns : goal.returns
returns g c =
    let active = active_held c.self.view_is c.requires.active in
    rw (← c.self.view_is) (record {
      word = word g c;
      stored = λ p s h. cc (
        h.pages.stored c.args.uid c.args.p,
        word_filed c.look.ensures.kept c.self.invariant active c.args.p,
        word g c,
      );
      zeros = λ p s h null at lt. word_at c.args.p at (active_there c.look.ensures.kept c.self.invariant active)
          (zeros_null c.args.p c.look.ensures.kept c.self.invariant active (sym (word g c) ∙ null)) lt h
          ∙ get_or-replicate {A = ℕ} 1024 at 0 0 lt;
    })
