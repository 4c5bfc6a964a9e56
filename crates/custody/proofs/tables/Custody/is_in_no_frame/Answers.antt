use Rattle.custody.proofs.Prelude.{subst, Decides, Tables, custody_of, IsInNoFrame}
use Rattle.custody.proofs.tables.Custody.is_in_no_frame.Goals as goal

pub returns : goal.returns
returns c = subst (λ (v : Tables). Decides c.is_in_none.result (IsInNoFrame (custody_of v) c.args.uid c.args.page))
    c.self.view_is c.is_in_none.ensures
