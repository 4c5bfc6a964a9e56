use Rattle.custody.proofs.Prelude.{sym, subst, AreFew, UseCounted}
use Rattle.custody.proofs.uses.UseCounts.shift.Goals as goal

pub shift-requires-clause-few : goal.shift-requires-clause-few
shift-requires-clause-few c = subst (λ (v : UseCounted). AreFew v.uids) (sym c.self.view_is) c.requires.few.uids

pub shift-requires-2-clause-few : goal.shift-requires-2-clause-few
shift-requires-2-clause-few c = subst (λ (v : UseCounted). AreFew v.going) (sym c.self.view_is) c.requires.few.going

pub shift-requires-3-clause-few : goal.shift-requires-3-clause-few
shift-requires-3-clause-few c = subst (λ (v : UseCounted). AreFew v.kinds) (sym c.self.view_is) c.requires.few.kinds
