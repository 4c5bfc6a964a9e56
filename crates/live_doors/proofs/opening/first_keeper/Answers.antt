use Rattle.live_doors.proofs.Keeps.{opens_at, rules}
use Rattle.live_doors.proofs.opening.first_keeper.Goals as goal

pub of_words-requires : goal.of_words-requires
of_words-requires c = opens_at record { frames = c.args.frames; cpus = c.args.cpus; door = c.args.door }
    c.as_slice.result.now (search rules) (search rules)
