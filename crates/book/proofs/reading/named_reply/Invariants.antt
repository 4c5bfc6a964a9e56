use Rattle.book.proofs.Prelude.{◌≡◌, drop, named_reply}
use Rattle.book.proofs.reading.named_reply.Given as goal

-- the replies so far don't have the word
abbrev pub invariant-loop-reply : goal.invariant-loop-reply
invariant-loop-reply l = named_reply (drop l.reply-index l.replies) l.word ≡ named_reply l.replies l.word
