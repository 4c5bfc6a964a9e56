use Rattle.machine_tables.proofs.Prelude.{frames_taken, Committing}
use Rattle.machine_tables.proofs.Laws.{claim_after, claim_is, state_of, entries_still}
use Rattle.machine_tables.proofs.tables.Tables.take_claim.Goals as goal

pub cut_claimed-requires : goal.cut_claimed-requires
cut_claimed-requires g c =
    let can = claim_after c.args.self.now.state c.take_claimed.new.self.state c.args.c Committing c.args.claim.what
    (frames_taken c.args.self.now.state.store c.args.claim.uid c.args.claim.low) c.args.process c.args.claim.uid
    c.args.claim.cuts (state_of c.args.self.now c.take_claimed.new.self _ c.take_claimed.ensures) c.requires.process
    c.requires.takes.owner c.requires.takes.descriptors c.requires.takes.room in
    record {
      process = can.knows;
      active = λ needs. (rw (
        state_of c.args.self.now c.take_claimed.new.self _ c.take_claimed.ensures,
        entries_still c.args.self.now.state c.args.c Committing c.args.claim.what
            (frames_taken c.args.self.now.state.store c.args.claim.uid c.args.claim.low),
      ) (c.requires.active needs));
      number = c.requires.number;
      owner = can.owner;
      few = can.few;
      room = can.room;
    }

pub returns : goal.returns
returns g c = claim_is c.args.self.now c.take_claimed.new.self c.cut_claimed.new.self c.args.c Committing
    c.args.claim.what (frames_taken c.args.self.now.state.store c.args.claim.uid c.args.claim.low) c.args.process
    c.args.claim.uid c.args.claim.cuts c.take_claimed.ensures c.cut_claimed.ensures
