-- Gauges by their number.
use Rattle.std.proofs.lemmas.Grind.{common_steps}
use Rattle.flat_store.proofs.Prelude.{◌≡◌, ◌≢◌, ℕ, suc, zero, ◌+◌, false, cond, eqb, List, [], ◌∷◌, set, get_or, refl, sym, arith, nat_tests, get_or-set_other, Gauge, gauge_at, filled, drained}

abbrev pub gauge : ℕ → ℕ → Gauge
gauge used most = record { used = used; most = most }

-- what stands at a place that is changed, also where none is there
set_here : {A : Type 0} (f : A → A) (d : A) (xs : List A) (i : ℕ) → f d ≡ d
    → get_or (set xs i (f (get_or xs i d))) i d ≡ f (get_or xs i d)
set_here f d [] i same = sym same
set_here f d (x ∷ xs) zero same = refl
set_here f d (x ∷ xs) (suc i) same = set_here f d xs i same

-- gauges that count what a change at one number changes there alone
pub counts_changed : (f : Gauge → Gauge) (gauges : List Gauge) (old new most : ℕ → ℕ) (i : ℕ)
    → f (gauge 0 0) ≡ gauge 0 0 → ((v : ℕ) → gauge_at gauges v ≡ gauge (old v) (most v))
    → f (gauge (old i) (most i)) ≡ gauge (new i) (most i) → ((v : ℕ) → v ≢ i → old v ≡ new v)
    → (v : ℕ) → gauge_at (set gauges i (f (gauge_at gauges i))) v ≡ gauge (new v) (most v)
counts_changed f gauges old new most i none are here other v =
    grind (arith, nat_tests, common_steps, set_here f (gauge 0 0) gauges i none, get_or-set_other)

-- so where one says so much less, or one more
pub counts_less : (gauges : List Gauge) (old new most : ℕ → ℕ) (n i : ℕ)
    → ((v : ℕ) → gauge_at gauges v ≡ gauge (old v) (most v)) → ((v : ℕ) → new v + cond {A = ℕ} (eqb i v) n 0 ≡ old v)
    → (v : ℕ) → gauge_at (set gauges i (drained n (gauge_at gauges i))) v ≡ gauge (new v) (most v)
counts_less gauges old new most n i are less = grind (arith, nat_tests, common_steps, counts_changed)

pub counts_more : (gauges : List Gauge) (old new most : ℕ → ℕ) (i : ℕ)
    → ((v : ℕ) → gauge_at gauges v ≡ gauge (old v) (most v)) → eqb (old i) (most i) ≡ false
    → ((v : ℕ) → new v ≡ old v + cond {A = ℕ} (eqb i v) 1 0) → (v : ℕ)
    → gauge_at (set gauges i (filled (gauge_at gauges i))) v ≡ gauge (new v) (most v)
counts_more gauges old new most i are room more = grind (arith, nat_tests, common_steps, counts_changed)
