use Rattle.std.proofs.Common.{◌<◌, ℕ, subst, sym}
use Rattle.std.proofs.iter.Serving.{serving}
use Rattle.std.proofs.lemmas.List.Elements.{All-get_or}
use Rattle.workers.proofs.runs.run_under_lock.Goals as goal

pub for_each_mut-requires-clause-accepts : goal.for_each_mut-requires-clause-accepts
for_each_mut-requires-clause-accepts g c κs within = λ i p lt is. (
  subst (λ (x : ℕ). x < g.N.Run.cpus) (sym is)
      (All-get_or (λ (x : ℕ). x < g.N.Run.cpus) c.args.cpus.now i p.now lt c.requires.cpus),
  grind serving,
)
