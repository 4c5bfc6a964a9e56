-- Where a segment may move to, by the gauges of the volumes, and what they are once it has (Organick 1972).
use Rattle.std.specs.Prelude.{◌≡◌, ℕ, ◌<◌, ◌+◌, ◌-◌, Bool, true, false, not, ◌&&◌, ◌==◌, nat_lt, nat_le, if◌then◌else◌, slice_set, List}
use Rattle.flat_store.specs.Shown.{Gauge, gauge_at}

-- a volume other than a segment's own has more free records than so many pages, and a free VTOC entry
abbrev pub is_roomy : List Gauge → List Gauge → ℕ → ℕ → ℕ → Bool
is_roomy records entries own pages volume = not (volume == own)
    && (nat_lt pages ((gauge_at records volume).most - (gauge_at records volume).used)
    && nat_lt (gauge_at entries volume).used (gauge_at entries volume).most)

-- the least number that passes a test
pub record IsLeast (test : ℕ → Bool) (n : ℕ) : Type 0 where
  pub passes : test n ≡ true
  pub below : (m : ℕ) → m < n → test m ≡ false

-- so many more, unless fewer are free; so many less
abbrev pub filled_by : ℕ → Gauge → Gauge
filled_by count g = if nat_le count (g.most - g.used) then record { used = g.used + count; most = g.most } else g

abbrev pub drained_by : ℕ → Gauge → Gauge
drained_by count g = record { used = g.used - count; most = g.most }

abbrev pub with_drained : List Gauge → ℕ → ℕ → List Gauge
with_drained gauges v count = slice_set gauges v (drained_by count (gauge_at gauges v))

abbrev pub with_filled : List Gauge → ℕ → ℕ → List Gauge
with_filled gauges v count = slice_set gauges v (filled_by count (gauge_at gauges v))

-- what so many use of one gauge they use of another
abbrev pub shifted : List Gauge → ℕ → ℕ → ℕ → List Gauge
shifted gauges from to count = with_filled (with_drained gauges from count) to count
