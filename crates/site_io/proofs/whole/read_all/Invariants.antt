use Rattle.std.proofs.Common.{◌≡◌, ◌+◌, ◌-◌, ◌≤◌, vec_len, is_some}
use Rattle.std.specs.Io.KnownBytes.{Consumes}
use Rattle.site_io.proofs.whole.read_all.Given as goal

abbrev pub invariant-loop-all : goal.invariant-loop-all
invariant-loop-all g l = record {
  within : vec_len l.all ≤ l.limit + 1;
  block : vec_len l.block ≡ 65536;
  bytes : Consumes (g.S.Source.left l.initial.source) (g.S.Source.left l.source) l.all.items;
  told : is_some (g.S.Source.left l.source) ≡ is_some (g.S.Source.left l.initial.source);
  later : g.S.Source.faults l.initial.source ≤ g.S.Source.faults l.source;
}

abbrev pub decreases-loop-all : goal.decreases-loop-all
decreases-loop-all g l = l.limit + 1 - vec_len l.all
