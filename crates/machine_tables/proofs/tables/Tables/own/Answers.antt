use Rattle.machine_tables.proofs.Prelude.{cut_of_owner, frames_of_owner}
use Rattle.machine_tables.proofs.RuleLaws.{moved_active, moved_short, owner_busy}
use Rattle.machine_tables.proofs.tables.Tables.own.Goals as goal

pub go_on-requires-clause-moves : goal.go_on-requires-clause-moves
go_on-requires-clause-moves g c = moved_active c.args.self.now.state c.args.holder
    (frames_of_owner c.args.self.now.state.owner) (cut_of_owner c.args.self.now.state.owner) c.requires.may.moving
    c.requires.may.moves c.requires.owner

pub go_on-requires-clause-short : goal.go_on-requires-clause-short
go_on-requires-clause-short g c = λ m moves. moved_short c.args.self.now.state c.requires.may.keeps m
    (go_on-requires-clause-moves g c m moves)

pub look-requires-clause-busy : goal.look-requires-clause-busy
look-requires-clause-busy g c = owner_busy c.args.self.now.state c.args.c c.args.holder
    (frames_of_owner c.args.self.now.state.owner) (cut_of_owner c.args.self.now.state.owner) c.requires.may.keeps
    c.requires.owner c.requires.here
