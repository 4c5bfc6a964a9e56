use Rattle.flat_store.proofs.ReplyLaws.{stores_looked}
use Rattle.flat_store.proofs.holdings.Holdings.stores_page.Goals as goal

pub returns : goal.returns
returns c = λ p s h. stores_looked s c.args.uid c.args.offset c.args.kind.now (c.look-word.ensures.word p s h)
    (c.look-word.ensures.stored p s h) c.brings_word.ensures
