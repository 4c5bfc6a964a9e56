use Rattle.custody.proofs.Prelude.{subst, Decides, Tables, custody_of, HasNoPage}
use Rattle.custody.proofs.tables.Custody.has_no_page.Goals as goal

pub returns : goal.returns
returns c = subst (λ (v : Tables). Decides c.has_none_of.result (HasNoPage (custody_of v) c.args.uid)) c.self.view_is
    c.has_none_of.ensures
