use Rattle.live_tests.proofs.Prelude.{IsAdmitted, ap, get_or-replicate, subst, sym, ◌%◌}
use Rattle.live_tests.proofs.doors.no_pass_holds_what_was_cleared.Goals as goal

pub run-zero-requires-clause-keeper : goal.run-zero-requires-clause-keeper
run-zero-requires-clause-keeper g c = λ _. let new = c.in_ok-doors.ensures in record {
  keeper_of = new.keeper_of;
  frames = new.size.0;
  fresh = ap (λ w. w.request) new.watch.0;
  admitted = λ f inside. subst (λ w. IsAdmitted w f) (sym new.watch.0)
      (ap (λ k. k % 2) (get_or-replicate 1000 f 2 0 inside));
}
