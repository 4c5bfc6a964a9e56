use Rattle.flat_store.proofs.ReplyLaws.{crowded, roomy, stores_looked}
use Rattle.flat_store.proofs.holdings.Holdings.page_reply.Goals as goal

pub returns-then-brings_word : goal.returns-then-brings_word
returns-then-brings_word c = λ p s n h at place. crowded p s n c.args.uid c.args.offset c.args.kind.now at
    (stores_looked s c.args.uid c.args.offset c.args.kind.now (c.look-word.ensures.word p s h)
    (c.look-word.ensures.stored p s h) c.brings_word.ensures) c.if-brings_word.true
    (rw (← c.look-word.ensures.word p s h) c.word_reply-reply.ensures) (c.room_reply.ensures p s n h at place)

pub returns-else-brings_word : goal.returns-else-brings_word
returns-else-brings_word c = λ p s n h at place. roomy p s n c.args.uid c.args.offset c.args.kind.now at
    (stores_looked s c.args.uid c.args.offset c.args.kind.now (c.look-word.ensures.word p s h)
    (c.look-word.ensures.stored p s h) c.brings_word.ensures) c.if-brings_word.false
    (rw (← c.look-word.ensures.word p s h) c.word_reply-reply.ensures)
