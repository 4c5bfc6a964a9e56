use Rattle.std.proofs.Common.{◌≡◌, ◌-◌, ◌≤◌, length, take, is_some}
use Rattle.std.specs.Io.KnownBytes.{Appends}
use Rattle.site_io.proofs.whole.write_all.Given as goal

abbrev pub invariant-loop-done : goal.invariant-loop-done
invariant-loop-done g l = record {
  within : l.done ≤ length l.piece;
  bytes : Appends (g.K.Sink.held l.initial.sink) (g.K.Sink.held l.sink) (take l.done l.piece);
  told : is_some (g.K.Sink.held l.sink) ≡ is_some (g.K.Sink.held l.initial.sink);
  later : g.K.Sink.faults l.initial.sink ≤ g.K.Sink.faults l.sink;
}

abbrev pub decreases-loop-done : goal.decreases-loop-done
decreases-loop-done g l = length l.piece - l.done
