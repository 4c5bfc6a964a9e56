-- What calls take of a source's bytes, and add to a sink's, where those are told: `None` stands for
-- bytes of which nothing is told, and every fact holds of it. (own)
use Rattle.std.specs.Prelude.{◌≡◌, ℕ, ◌+◌, ◌≤◌, List, length, take, Option}
use Rattle.std.specs.Io.KnownBytes.{Appends, Consumes}

-- some front of the bytes that were left is gone, of at most this many bytes
unfoldable pub ConsumesFront : Option (List ℕ) → Option (List ℕ) → ℕ → Type 0
ConsumesFront old new most = (front : List ℕ) × (length front ≤ most) × Consumes old new front

-- more bytes than the limit were left, and exactly one more than the limit is gone
unfoldable pub ConsumesPast : Option (List ℕ) → Option (List ℕ) → ℕ → Type 0
ConsumesPast old new limit = (front : List ℕ) × (length front ≡ limit + 1) × Consumes old new front

-- some front of the piece was appended
unfoldable pub AppendsFront : Option (List ℕ) → Option (List ℕ) → List ℕ → Type 0
AppendsFront old new piece = (count : ℕ) × (count ≤ length piece) × Appends old new (take count piece)
