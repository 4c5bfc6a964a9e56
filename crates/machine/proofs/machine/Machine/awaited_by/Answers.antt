use Rattle.machine.proofs.Prelude.{refl, subst, reader_seen, Why, Waits, MayWait}
use Rattle.machine.proofs.machine.Machine.awaited_by.Goals as goal

pub reader_of-requires : goal.reader_of-requires
reader_of-requires g c = reader_seen _ c.args.c c.in-ForTransfer.frame c.promise.ensures
    (subst (λ (w : Why). MayWait c.args.self.now.state c.args.c (Waits w)) c.in-ForTransfer.is c.requires)

pub returns-in-ForTransfer : goal.returns-in-ForTransfer
returns-in-ForTransfer g c = rw c.in-ForTransfer.is (
  subst (λ (w : Why). MayWait c.args.self.now.state c.args.c (Waits w)) c.in-ForTransfer.is c.requires,
  c.reader_of.ensures,
)

pub returns-in-ForClear : goal.returns-in-ForClear
returns-in-ForClear g c = rw c.in-ForClear.is (
  refl,
  subst (λ (w : Why). MayWait c.args.self.now.state c.args.c (Waits w)) c.in-ForClear.is c.requires,
)
