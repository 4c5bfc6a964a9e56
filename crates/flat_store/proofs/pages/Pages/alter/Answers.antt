use Rattle.flat_store.proofs.Prelude.{◌≡◌, new_word, word_in, page_at}
use Rattle.flat_store.proofs.PagedLaws.{got_mut, put_through}
use Rattle.flat_store.proofs.pages.Pages.alter.Goals as goal

pub returns-clause-yes : goal.returns-clause-yes
returns-clause-yes c = λ on.
    let there = got_mut c.get_mut.ensures.value c.in-Some.is in
    let word : c.new_word-word.result ≡ new_word (word_in (page_at c.args.self.now c.args.uid c.args.page) c.args.at)
    c.args.kind.now = rw (← c.self.view_is, there, ← c.get.ensures.word) c.new_word-word.ensures in
    rw (← word) (put_through c.args.at c.new_word-word.result c.self.view_is there c.set.ensures.word
    (λ some. ((c.get_mut.follows.holds c.set.new.self).3 some).0))
