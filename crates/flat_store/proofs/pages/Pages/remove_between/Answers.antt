use Rattle.flat_store.proofs.Prelude.{rules, ◌≡◌, ◌-◌, not, ap, subst, ◌∙◌, filter, arith, Included, Excluded, extract_if_rest, range_contains, Paged, Sheds, by_both}
use Rattle.flat_store.proofs.ExtractLaws.{extracted}
use Rattle.flat_store.proofs.ShedLaws.{between, gone, gone_few, sheds}
use Rattle.flat_store.proofs.pages.Pages.remove_between.Goals.{After-len}
use Rattle.flat_store.proofs.pages.Pages.remove_between.Goals as goal

-- what is left once each page in the range is taken out
left : (c : After-len) → c.self-1.given.0.entries ≡ filter (λ e. not (range_contains by_both
    (Included (c.args.uid, c.args.from)) (Excluded (c.args.uid, c.args.end)) e.0)) c.self.inside.pages.entries
left c = extracted _ by_both _ (λ r. tt) (λ r. Excluded r.end) (λ f k v b w f' t. search rules)
    (range_contains by_both (Included (c.args.uid, c.args.from)) (Excluded (c.args.uid, c.args.end)))
    c.self.inside.pages c.self-1.given.0 _ c.loop.yielded c.into_iter-iterator.result c.loop.iterator' c.next.new.self
    (ap (λ s. s.map.now) c.into_iter-iterator.ensures.into_iter_gives ∙ c.extract_if-items.ensures.unchanged)
    (ap (λ s. s.map.ghost_name) c.into_iter-iterator.ensures.into_iter_gives ∙ c.extract_if-items.ensures.same_map)
    c.self-1.given.1
    (ap (λ s. extract_if_rest by_both (λ r. Excluded r.end) s) c.into_iter-iterator.ensures.into_iter_gives
    ∙ c.extract_if-items.ensures.rest tt) c.loop.yielded_by c.in-None.ensures.steps

pub overflow_sub-result : goal.overflow_sub-result
overflow_sub-result c =
    let all = gone c.args.uid c.args.from c.args.end c.self.inside.pages.entries c.self-1.given.0.entries (left c) in
    let before = c.len-before.ensures.len in
    let after = c.len.ensures.len in
    omega (arith, all, before, after)

pub overflow_cast-result : goal.overflow_cast-result
overflow_cast-result c =
    let few = gone_few c.args.uid c.args.from c.args.end c.self.inside.pages.entries c.self-1.given.0.entries
    (left (goal.at.overflow_cast-result c).After-len) c.len-before.ensures.ordered in
    let before = c.len-before.ensures.len in
    let after = c.len.ensures.len in
    let fits = c.ranges.end.fits in
    omega (arith, few, before, after, fits)

pub returns : goal.returns
returns c =
    let before = c.len-before.ensures.len in
    let after = c.len.ensures.len in
    subst (λ (m : Paged). Sheds m c.self-1.given.0.entries c.args.uid (between c.args.from c.args.end)
    (c.len-before.result - c.len.result)) c.self.view_is
    (sheds c.args.uid c.args.from c.args.end c.self.inside.pages.entries c.self-1.given.0.entries (left c)
    c.len-before.ensures.ordered _ (omega (arith, before, after)))
