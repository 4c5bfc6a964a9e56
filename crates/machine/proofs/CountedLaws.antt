-- How many commands a processor has answered since it loaded its process, and where a process's next command stands.
use Rattle.machine.proofs.Prelude.{◌≡◌, ◌<◌, ◌+◌, ℕ, eqb, List, ◌∷◌, length, Some, refl, arith, cond_both, What, Plan, Entry, after_entry, Store, boot, custody_after, custody_from, Custody, Seat, nothing_held, at_put, custody_next, count_next, by_place, [], Next_told as told}

-- of each processor that has a process: it has answered fewer commands since than there are entries
abbrev AreCounted : Custody → ℕ → Type 0
AreCounted c n = (d k : ℕ) → (c.seat d).process ≡ Some k → (c.seat d).count < n

told_same : (c : Custody) (i : ℕ) (w : What) (d : ℕ) → (told c i w d (c.seat d)).process ≡ (c.seat d).process
told_same c i w d = cond_both (eqb d i) _ _ (λ (x : Seat). x.process ≡ (c.seat d).process) (λ own. refl)
    (λ other. cond_both (c.seat d).online _ _ (λ (x : Seat). x.process ≡ (c.seat d).process) (λ on. refl) (λ off. refl))

-- the processor had that process before
kept : (p : Plan) (s : Store) (c : Custody) (e : Entry) (n d k : ℕ) → AreCounted c n → (c.seat d).process ≡ Some k
    → ((custody_next p s c e).seat d).count < n + 1
kept p s c e n d k counted h = omega (arith, count_next p s c e d, counted d k h)

-- a seat that is put has the process that was there, or none
put_had : (f : ℕ → Seat) (i d k : ℕ) (x : Seat) → (x.process ≡ Some k → (f i).process ≡ Some k)
    → (at_put f i x d).process ≡ Some k → (f d).process ≡ Some k
put_had f i d k x had = by_place (λ (y : Seat). y.process ≡ Some k → (f d).process ≡ Some k) f i x d
    (λ e h. cc (had h)) (λ m h. h)

counted_load : (c : Custody) (i d k : ℕ) (n : ℕ) (x : Seat) → x.count ≡ 0 → AreCounted c n
    → (at_put c.seat i x d).process ≡ Some k → (at_put c.seat i x d).count < n + 1
counted_load c i d k n x zero counted = by_place (λ (y : Seat). y.process ≡ Some k → y.count < n + 1) c.seat i x d
    (λ e h. omega arith) (λ m h. (omega (arith, counted d k h)))

counted_next : (p : Plan) (s : Store) (c : Custody) (e : Entry) (n : ℕ) → AreCounted c n
    → AreCounted (custody_next p s c e) (n + 1)
unfolding custody_next
counted_next p s c e n h1 = grind (arith, counted_load, kept, put_had, told_same)

counted_from : (p : Plan) (s : Store) (c : Custody) (es : List Entry) (n : ℕ) → AreCounted c n
    → AreCounted (custody_from p s c es) (length es + n)
unfolding custody_from
counted_from p s c [] n counted = λ d k h. (omega (arith, counted d k h))
counted_from p s c (e ∷ es) n counted =
    let rest = counted_from p (after_entry p s e) (custody_next p s c e) es (n + 1) (counted_next p s c e n counted) in
    λ d k h. (omega (arith, rest d k h))

-- A processor has answered fewer commands since it loaded its process than there are entries.
pub counted_after : (p : Plan) (es : List Entry) (d k : ℕ) → ((custody_after p es).seat d).process ≡ Some k
    → ((custody_after p es).seat d).count < length es
unfolding custody_after
counted_after p es d k h =
    let all = counted_from p (boot p) (nothing_held p) es 0 (λ e j i. cc) d k h in
    omega arith
