use Rattle.mnames.proofs.Prelude.{take, HasWritten, IsPlainFormatter, names_text}
use Rattle.mnames.proofs.paths.PathDisplay.fmt.Given as goal

-- the names so far are written
abbrev pub invariant-loop-name : goal.invariant-loop-name
invariant-loop-name g l = IsPlainFormatter l.initial.f → HasWritten g.W.Write.write_str_gives l.initial.f
    (names_text (take l.name-index l.names)) l.f
