use Rattle.custody.proofs.Prelude.{◌≢◌, ℕ, subst, Decides, Tables, custody_of}
use Rattle.custody_model.specs.declared.FrameUse.TheVariants as frame
use Rattle.custody.proofs.tables.Custody.has_no_started.Goals as goal

pub returns : goal.returns
returns c = subst (λ (v : Tables). Decides c.has_none_started.result
    ((f q : ℕ) → (custody_of v).frame f ≢ frame.Started c.args.uid q)) c.self.view_is c.has_none_started.ensures
