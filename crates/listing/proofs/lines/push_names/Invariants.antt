use Rattle.listing.proofs.Prelude.{take, string_bytes}
use Rattle.listing.proofs.LineLaws.{HasNames}
use Rattle.listing.proofs.lines.push_names.Given as goal

-- the names so far are written
abbrev pub invariant-loop-name : goal.invariant-loop-name
invariant-loop-name l = HasNames (string_bytes l.fn.out) (take l.name-index l.names) (string_bytes l.out)
