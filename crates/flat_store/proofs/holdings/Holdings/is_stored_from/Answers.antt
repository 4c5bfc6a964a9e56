use Rattle.flat_store.proofs.Prelude.{subst, Decides, Held}
use Rattle.flat_store.proofs.OrderLaws.{IsReached}
use Rattle.flat_store.proofs.SizeLaws.{reached_told}
use Rattle.flat_store.proofs.holdings.Holdings.is_stored_from.Goals as goal

pub returns : goal.returns
returns c = λ p s h. reached_told c.args.uid c.args.from c.has_from.result h
    (subst (λ (x : Held). Decides c.has_from.result (IsReached x.pages c.args.uid c.args.from)) c.self.view_is
    c.has_from.ensures)
