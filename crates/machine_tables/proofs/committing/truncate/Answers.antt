use Rattle.machine_tables.proofs.TruncatedLaws.{still_active, truncate_committed, truncate_refused}
use Rattle.machine_tables.proofs.committing.truncate.Goals as goal

pub returns-in_default : goal.returns-in_default
returns-in_default g c = λ k frames owns. truncate_refused g.D.Drive.pages c.args.store.now c.truncate.new.self
    c.args.path.now
    c.args.words c.truncate.result c.truncate.ensures.answer c.truncate.ensures.effect c.truncate.ensures.rest
    (cc) k frames

pub bring_back-kept-requires-clause-active : goal.bring_back-kept-requires-clause-active
bring_back-kept-requires-clause-active g c = still_active g.D.Drive.pages c.args.store.now c.truncate-reply.new.self
    c.args.path.now c.args.words c.truncate-reply.result c.truncate-reply.ensures.answer c.truncate-reply.ensures.effect
    c.truncate-reply.ensures.rest c.truncate-reply.new.self c.look.ensures.columns c.look-2.ensures.columns
    c.look.ensures.kept c.look.ensures.store c.look.ensures.parts
    c.requires.taken c.truncate-reply.ensures.pages c.truncate-reply.ensures.exact c.truncate-reply.ensures.others
    c.in-Some.uid (cc)

pub returns : goal.returns
returns g c = λ k frames owns. truncate_committed g.D.Drive.pages c.args.store.now c.truncate-reply.new.self
    c.args.path.now c.args.words c.truncate-reply.result c.truncate-reply.ensures.answer
    c.truncate-reply.ensures.effect c.truncate-reply.ensures.rest c.bring_back-kept.new.store
    c.look.ensures.columns c.look-2.ensures.columns c.look.ensures.kept c.look.ensures.store c.look.ensures.parts
    c.requires.taken c.truncate-reply.ensures.pages c.truncate-reply.ensures.exact c.truncate-reply.ensures.others
    c.in-Some.uid (cc)
    c.bring_back-kept.ensures.effect c.bring_back-kept.ensures.shown k frames owns c.bring_back-kept.result
    c.bring_back-kept.ensures.frame
