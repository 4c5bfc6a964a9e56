use Rattle.storage_ops.proofs.Prelude.{true, false, sym, ◌≡◌, Bool, cond, Some, None, refusal, Shows, Plan, Flat, initiate_reply, Reply as reply}
use Rattle.storage_ops.proofs.Laws.{tree_held, known_held, initiate_free, initiate_refused}
use Rattle.storage_ops.proofs.store.Store.initiate_refusal.Goals.{After-has_number_for}
use Rattle.storage_ops.proofs.store.Store.initiate_refusal.Goals as goal

-- what is answered by whether there is a number for the segment
free : (g : _) (c : After-has_number_for g) (p : Plan) (s : Flat)
    → Shows g.D.Drive.pages p s c.args.self.now → (b : Bool) → b ≡ c.has_number_for.result
    → cond b None (Some reply.Full) ≡ refusal (initiate_reply s c.args.process c.args.path.now)
free g c p s h b is = initiate_free s
    (tree_held c.self.view_is h.tree).nodes (known_held c.self.view_is h.known) c.args.process
    c.args.path.now c.in-Ok.ensures.ok (cc (is, c.has_number_for.ensures, c.kst.ensures.kst))

pub returns-then-has_number_for : goal.returns-then-has_number_for
returns-then-has_number_for g c = λ p s h.
    free g (goal.at.returns-then-has_number_for g c).After-has_number_for p s h true (sym c.if-has_number_for.true)

pub returns-else-has_number_for : goal.returns-else-has_number_for
returns-else-has_number_for g c = λ p s h.
    free g (goal.at.returns-else-has_number_for g c).After-has_number_for p s h false (sym c.if-has_number_for.false)

pub returns-in-Err : goal.returns-in-Err
returns-in-Err g c = λ p s h.
    let known = known_held c.self.view_is h.known in
    cc (initiate_refused s (tree_held c.self.view_is h.tree).nodes known c.args.process c.args.path.now
    c.in-Err.ensures.err)
