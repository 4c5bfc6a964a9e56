use Rattle.seg_control.proofs.Prelude.{all_cut, length, trailers_of, ◌≡◌}
use Rattle.seg_control.proofs.segs.Segs.cut_all.Given as goal

abbrev pub invariant-loop-process : goal.invariant-loop-process
invariant-loop-process g l = record {
  cut : all_cut l.self.links l.aste ≡ all_cut l.fn.self.links l.aste;
  rest : l.self ≡ record l.fn.self { links = l.self.links };
}

abbrev pub decreases-loop-process : goal.decreases-loop-process
decreases-loop-process g l = length (trailers_of l.self.links.trailers l.aste)
