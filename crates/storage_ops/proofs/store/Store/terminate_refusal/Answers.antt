use Rattle.storage_ops.proofs.Prelude.{Some, None, refl, ap, refusal}
use Rattle.storage_ops.proofs.NamingLaws.{terminate_told}
use Rattle.storage_ops.proofs.store.Store.terminate_refusal.Goals as goal

pub returns-in-Some : goal.returns-in-Some
returns-in-Some g c = λ p s h.
    ap refusal (terminate_told s {nodes = s.nodes} {known = c.self.inside.segs.links.known} refl
    (cc) c.args.process c.args.number {o = Some c.in-Some.field-0} (cc (c.in-Some.ensures.uid, c.kst.ensures.kst)))

pub returns-in-None : goal.returns-in-None
returns-in-None g c = λ p s h.
    ap refusal (terminate_told s {nodes = s.nodes} {known = c.self.inside.segs.links.known} refl
    (cc) c.args.process c.args.number {o = None} (cc (c.in-None.ensures.uid, c.kst.ensures.kst)))
