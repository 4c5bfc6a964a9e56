use Rattle.std.proofs.lemmas.Grind.{common_steps}
use Rattle.flat_store.proofs.Prelude.{nat_tests, ◌≡◌, sym, ◌∙◌, arith, new_word, on_ok}
use Rattle.flat_store.proofs.DropLaws.{no_word}
use Rattle.flat_store.proofs.NodeLaws.{pages_held, pages_found}
use Rattle.flat_store.proofs.ReferLaws.{may_refer}
use Rattle.flat_store.proofs.ReplyLaws.{node_shown}
use Rattle.flat_store.proofs.holdings.Holdings.refer.Goals as goal

pub write-requires-clause-absent : goal.write-requires-clause-absent
write-requires-clause-absent c = rw (c.alter.ensures.no c.if-alter.false) (sym c.alter.ensures.there ∙ c.if-alter.false)

pub write-requires-clause-segment : goal.write-requires-clause-segment
write-requires-clause-segment c = rw (c.alter.ensures.no c.if-alter.false)
    (pages_held c.self.invariant.2 (sym c.self.view_is) c.args.uid c.in-Some.ensures.some
    (omega (arith, c.if-offset-node.false)))

pub write-requires-clause-within : goal.write-requires-clause-within
write-requires-clause-within c = grind (arith, nat_tests, common_steps, pages_found)

pub returns-then-alter-clause-ok : goal.returns-then-alter-clause-ok
returns-then-alter-clause-ok c = λ p s k h effect held.
    rw (← c.alters.ensures, c.if-not-alters.false) (c.alter.ensures.yes c.if-alter.true p s h)

pub returns-clause-ok : goal.returns-clause-ok
returns-clause-ok c = on_ok c.write.result _ _ (λ f p s k h effect held.
    let found = node_shown (rw (← c.self.view_is) at h) c.args.uid c.in-Some.node.now c.in-Some.ensures.some in
    let alters_it = sym c.alters.ensures ∙ c.if-not-alters.false in
    let zero = no_word h.pages c.args.uid c.args.offset (sym c.alter.ensures.there ∙ c.if-alter.false) in
    let is : c.new_word.result ≡ new_word (s.words c.args.uid c.args.offset) c.args.kind.now =
    rw zero c.new_word.ensures in
    rw (alters_it, ← is) (f p s (rw (c.alter.ensures.no c.if-alter.false) h)
    (rw is (may_refer p s k c.args.uid c.args.offset c.args.kind.now found alters_it effect held)))) c.write.ensures.ok
