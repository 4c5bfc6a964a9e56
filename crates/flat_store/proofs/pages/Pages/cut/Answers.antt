use Rattle.flat_store.proofs.Prelude.{◌≡◌, Some, None, ap, ◌∙◌}
use Rattle.flat_store.specs.contracts.pages.Pages.{the_view}
use Rattle.flat_store.proofs.PagedLaws.{cut_through, got_mut}
use Rattle.flat_store.proofs.pages.Pages.cut.Goals.{in-Some, in-None}
use Rattle.flat_store.proofs.pages.Pages.cut.Goals as goal

pub returns-clause-some : goal.returns-clause-some
returns-clause-some c = λ words found. elim c.match-get_mut.branch [
  | in-Some w ↦ rw w.self-inside-is (cut_through c.args.at c.self.view_is
      (got_mut c.get_mut.ensures.value w.in-Some.is) w.clear_from.ensures.words
      (λ some. ((c.get_mut.follows.holds w.clear_from.new.self).3 some).0) w.is_zero.ensures.zero w.result-is found)
  | in-None w ↦
      let clash : None ≡ Some words =
      rw (← c.self.view_is, ← c.get_mut.ensures.value, w.in-None.is) at found in absurd cc
]

pub returns-clause-none : goal.returns-clause-none
returns-clause-none c = λ none. elim c.match-get_mut.branch [
  | in-Some w ↦
      let clash : Some w.in-Some.words.now ≡ None =
      rw (← c.self.view_is, ← c.get_mut.ensures.value, w.in-Some.is) at none in absurd cc
  | in-None w ↦ (
    ap the_view w.self-inside-is ∙ ap (λ m. m.entries) c.get_mut.follows.holds-at-none ∙ c.self.view_is,
    w.result-is,
  )
]
