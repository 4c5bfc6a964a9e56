-- What a source and a sink over memory hold, and what a call makes of it. (own)
use Rattle.std.specs.Prelude.{ℕ, List, ◌++◌, take, drop, Result, Ok, Err}
use Rattle.site_io.specs.Faults.{counted}

-- bytes that wait to be read, at most `piece` in a call, where the calls with these numbers fail
pub record SourceState : Type 0 where
  pub left : List ℕ
  pub piece : ℕ
  pub fails : List ℕ
  pub calls : ℕ
  pub faults : ℕ

-- bytes that were written, at most `room` in all, where the calls with these numbers fail
pub record SinkState : Type 0 where
  pub held : List ℕ
  pub room : ℕ
  pub fails : List ℕ
  pub calls : ℕ
  pub faults : ℕ

-- a source after a call
abbrev pub after_read : {E : Type 0} → SourceState → Result ℕ E → SourceState
after_read s (Ok count) = record s { left = drop count s.left; calls = counted s.calls }
after_read s (Err _) = record s { calls = counted s.calls; faults = counted s.faults }

-- a sink after a call that was handed a piece
abbrev pub after_write : {E : Type 0} → SinkState → List ℕ → Result ℕ E → SinkState
after_write s piece (Ok count) = record s { held = s.held ++ take count piece; calls = counted s.calls }
after_write s piece (Err _) = record s { calls = counted s.calls; faults = counted s.faults }
