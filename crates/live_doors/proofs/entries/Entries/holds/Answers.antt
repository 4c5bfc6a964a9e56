use Rattle.live_doors.proofs.Prelude.{ap, holds_entry}
use Rattle.live_doors.proofs.entries.Entries.holds.Goals as goal

pub returns : goal.returns
returns c = rw c.is_some.ensures (holds_entry c.self.inside.held.items c.args.self.now.held c.args.f c.index.result.now
    c.index.ensures (ap (λ e. e.held) c.self.view_is) c.requires)
