use Rattle.flat_store.proofs.holdings.Holdings.cut_page.Goals as goal

pub returns-then-clear_page : goal.returns-then-clear_page
returns-then-clear_page c = λ p s h. rw (← c.clear_page.ensures.zero p s h, c.if-clear_page.true)
    (c.drop_page.ensures p _ (c.clear_page.ensures.page p s h))

pub returns-else-clear_page : goal.returns-else-clear_page
returns-else-clear_page c = λ p s h.
    rw (← c.clear_page.ensures.zero p s h, c.if-clear_page.false) (c.clear_page.ensures.page p s h)
