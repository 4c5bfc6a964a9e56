use Rattle.drill.proofs.Prelude.{first_words, ◌%◌, ◌+◌, ◌^◌, ◌≡◌}
use Rattle.drill.proofs.finish.with_pages.Given as goal

abbrev pub invariant-loop-page : goal.invariant-loop-page
invariant-loop-page l = l.sum ≡ (l.fn.sum + first_words l.page-index l.pages) % 2 ^ 36
