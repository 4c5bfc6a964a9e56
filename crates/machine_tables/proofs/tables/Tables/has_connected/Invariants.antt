use Rattle.machine_tables.proofs.Prelude.{◌≡◌, ◌<◌, ℕ, false, descriptor_of, is_connected}
use Rattle.machine_tables.proofs.tables.Tables.has_connected.Given as goal

abbrev pub invariant-loop-number : goal.invariant-loop-number
invariant-loop-number g l =
    (n : ℕ) → n < l.number → is_connected (descriptor_of l.self.state.store.links l.process n) ≡ false
