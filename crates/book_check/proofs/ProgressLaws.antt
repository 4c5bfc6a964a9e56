-- How far processes have come (own): no command changes that of another process.
use Rattle.book_check.proofs.Prelude.{inl, inr, ◌≡◌, ℕ, ◌<◌, Bool, true, false, cond, eqb, List, length, get_or, set, Plan, Command, Reply, after_command, effect_of, gone_on, takes_effect, Progress, Store, progress_of, with_progress}
use Rattle.script.specs.declared.commands.Command.TheVariants as command
use Rattle.std.proofs.lemmas.Bool.Decides.{eqb_tells}
use Rattle.std.proofs.lemmas.List.{get_or-set_other, get_or-set_same}
use Rattle.flat_model.proofs.OtherLaws.{effect_advances}

set_at : (qs : List Progress) (k j : ℕ) (q d : Progress) → k < length qs → get_or (set qs k q) j d
    ≡ cond (eqb j k) q (get_or qs j d)
set_at qs k j q d lt = elim (eqb_tells j k) [
  | inl e ↦ rw (e.0, e.1) (get_or-set_same qs k q d lt)
  | inr e ↦ rw e.0 (get_or-set_other qs k j q d e.1)
]

pub progress_with : (s : Store) (k j : ℕ) (q : Progress) → k < length s.processes → progress_of (with_progress s k q) j
    ≡ cond (eqb j k) q (progress_of s j)
progress_with s k j q lt = set_at s.processes k j q _ lt

pub progress_after : (p : Plan) (s : Store) (k j : ℕ) (c : Command) (r : Reply) → k < length s.processes
    → progress_of (after_command p s k c r) j ≡ cond (eqb j k) (gone_on (progress_of s k) c r) (progress_of s j)
unfolding after_command
progress_after p s k j c r lt = each (takes_effect r)
  where
    each : (z : Bool) → progress_of (with_progress (cond z (effect_of p s k c) s) k (gone_on (progress_of s k) c r)) j
        ≡ cond (eqb j k) (gone_on (progress_of s k) c r) (progress_of s j)
    each true = rw (effect_advances p s k c).processes (set_at s.processes k j (gone_on (progress_of s k) c r) _ lt)
    each false = set_at s.processes k j (gone_on (progress_of s k) c r) _ lt
