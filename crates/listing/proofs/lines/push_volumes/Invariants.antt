use Rattle.listing.proofs.Prelude.{take, string_bytes, volume_text}
use Rattle.listing.proofs.LineLaws.{HasEach}
use Rattle.listing.proofs.lines.push_volumes.Given as goal

-- the lines of the volumes so far are written
abbrev pub invariant-loop-count : goal.invariant-loop-count
invariant-loop-count l = HasEach volume_text (string_bytes l.fn.out) (take l.count-index l.volumes) (string_bytes l.out)
