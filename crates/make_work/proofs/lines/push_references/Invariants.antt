use Rattle.make_work.proofs.Prelude.{◌≡◌, ◌++◌, string_bytes, lines_of, references, state_at}
use Rattle.make_work.proofs.lines.push_references.Given as goal

-- the references that were drawn so far are written, and their draws are done
abbrev pub invariant-loop-made : goal.invariant-loop-made
invariant-loop-made l = record {
  text : string_bytes l.out ≡ string_bytes l.initial.out ++ lines_of (references l._made l.initial.draws.state);
  state : l.draws.state ≡ state_at l._made l.initial.draws.state;
}
