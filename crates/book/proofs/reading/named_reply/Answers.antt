use Rattle.book.proofs.ReadingLaws.{named_here, named_later, named_nowhere}
use Rattle.book.proofs.reading.named_reply.Goals as goal

pub returns-then-eq : goal.returns-then-eq
returns-then-eq c = named_here c.args.replies.now c.args.word.now c.loop-reply.reply-index c.reply-item.result _
    c.loop-reply-test.true c.reply-item.is (cc) c.loop-reply.invariant

pub loop-reply-preserved : goal.loop-reply-preserved
loop-reply-preserved c = named_later c.args.replies.now c.args.word.now c.loop-reply.reply-index c.reply-item.result _
    c.loop-reply-test.true c.reply-item.is (cc) c.loop-reply.invariant

pub returns : goal.returns
returns c = named_nowhere c.args.replies.now c.args.word.now c.loop-reply.reply-index _ c.loop-reply-test.false
    c.loop-reply.invariant
