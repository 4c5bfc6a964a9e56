-- How long a turn can be: an entry adds at most one to the count of a processor.
use Rattle.custody_model.proofs.Prelude.{nat_tests, ◌≡◌, ◌≤◌, ℕ, ◌+◌, arith, eqb_tells, What, Plan, Entry, entry, Store, Custody, Seat, custody_next, at_put, told, common_steps}

-- a seat that is put counts so
put_count : (c : Custody) (d i : ℕ) (x : Seat) → x.count ≤ (c.seat i).count + 1
    → (at_put c.seat i x d).count ≤ (c.seat d).count + 1
put_count c d i x h = grind (arith, nat_tests, common_steps, eqb_tells)

told_count : (c : Custody) (i : ℕ) (w : What) (d : ℕ) → (told c i w d (c.seat d)).count ≡ (c.seat d).count
told_count c i w d = grind (arith, nat_tests, common_steps)

pub count_next : (p : Plan) (s : Store) (c : Custody) (e : Entry) (d : ℕ)
    → ((custody_next p s c e).seat d).count ≤ (c.seat d).count + 1
unfolding custody_next
count_next p s c (entry.Do k i j f r) d = put_count c d j _ (omega arith)
count_next p s c (entry.Online j) d = put_count c d j _ (omega arith)
count_next p s c (entry.Load j k) d = put_count c d j _ (omega arith)
count_next p s c (entry.Leave j) d = put_count c d j _ (omega arith)
count_next p s c (entry.Signal j w) d = omega (arith, told_count c j w d)
count_next p s c (entry.Clear j w) d = put_count c d j _ (omega arith)
count_next p s c (entry.FillSeg j n) d = put_count c d j _ (omega arith)
count_next p s c (entry.FillPage j f) d = put_count c d j _ (omega arith)
count_next p s c _ d = omega arith
