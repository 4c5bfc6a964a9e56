use Rattle.flat_store.proofs.Prelude.{rules, length, ◌≡◌, Some, deref_pair, iter_turn, page_at}
use Rattle.flat_store.proofs.ZeroPages.{all_at, found_zero}
use Rattle.flat_store.proofs.pages.Pages.zero_page.Goals as goal

pub returns-then-is_zero-clause-some : goal.returns-then-is_zero-clause-some
returns-then-is_zero-clause-some c =
    let turn = iter_turn deref_pair c.self.inside.pages.entries c.loop-key.yielded c.into_iter-key-iterator.result
    c.loop-key.key-iterator
    c.next.new.self c.next.result (search rules) c.loop-key.yielded_by (c.in-Some.key, c.in-Some.words)
    c.in-Some.is c.next.ensures.steps in
    found_zero c.in-Some.key.now.0 c.in-Some.key.now.1 c.self.view_is
    (all_at (λ e. page_at c.self.inside.pages.entries e.0.0 e.0.1 ≡ Some e.1) c.self.inside.pages.entries
    (length c.loop-key.yielded) (c.in-Some.key.now, c.in-Some.words.now) turn.1 c.iter-key-items.ensures.found)
    c.is_zero.ensures.zero c.if-is_zero.true
