use Rattle.flat_store.proofs.PagedLaws.{got_mut, put_through}
use Rattle.flat_store.proofs.pages.Pages.put.Goals as goal

pub returns-in-Some-clause-ok : goal.returns-in-Some-clause-ok
returns-in-Some-clause-ok c =
    put_through c.args.at c.args.word c.self.view_is (got_mut c.get_mut.ensures.value c.in-Some.is)
    c.set.ensures.word (λ some. ((c.get_mut.follows.holds c.set.new.self).3 some).0)
