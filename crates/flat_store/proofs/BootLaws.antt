-- What is kept at the boot shows the flat store at the boot.
use Rattle.std.proofs.lemmas.Grind.{common_steps}
use Rattle.flat_store.proofs.Prelude.{◌≡◌, ℕ, suc, zero, Bool, true, false, cond, eqb, List, [], ◌∷◌, length, map, set, replicate, None, refl, arith, slice_get, nat_tests, length-replicate, root_alone, IsPlan, Plan, VolumeLine, entries_on, taken_on, at_first, boot, entries_in, entries_of, records_in, root_of, root_there, gauge_at, filled, entries_gauge, records_gauge, Held, Holds, Kept, Shows, reached_boot}
use Rattle.flat_store.proofs.GaugeLaws.{counts_more, gauge}

records_here : (vs : List VolumeLine) (v : ℕ)
    → gauge_at (map records_gauge vs) v ≡ gauge 0 (records_in (slice_get vs v))
records_here [] v = refl
records_here (x ∷ xs) zero = refl
records_here (x ∷ xs) (suc v) = records_here xs v

entries_here : (vs : List VolumeLine) (v : ℕ)
    → gauge_at (map entries_gauge vs) v ≡ gauge 0 (entries_in (slice_get vs v))
entries_here [] v = refl
entries_here (x ∷ xs) zero = refl
entries_here (x ∷ xs) (suc v) = entries_here xs v

-- what is held at the boot
abbrev pub held_first : Plan → Held
held_first p = record {
  accounts = root_alone 0 0 p.quota;
  pages = [];
  records = map records_gauge p.volumes;
  entries = set (map entries_gauge p.volumes) 0 (filled (gauge_at (map entries_gauge p.volumes) 0));
}

pub holds_first : (p : Plan) → IsPlan p → Holds p (held_first p) (boot p)
unfolding boot taken_on entries_on
holds_first p plan =
    let some = root_there p plan in
    let room : eqb 0 (entries_of p 0) ≡ false = grind (arith, nat_tests) in
    record {
      nodes = refl;
      next = refl;
      counts = λ u. refl;
      pages = record { there = λ u q. refl; once = tt; values = λ u o. refl; sizes = λ u q ws is. absurd cc };
      inside = λ u q on. absurd cc;
      flat = λ u is. no_pages (eqb 1 u);
      records = records_here p.volumes;
      entries = counts_more (map entries_gauge p.volumes) (λ x. 0) (entries_on (root_of p ∷ [])) (entries_of p) 0
          (entries_here p.volumes) room (λ v. refl);
    }
  where
    no_pages : (z : Bool) → cond {A = ℕ} z 0 0 ≡ 0
    no_pages true = refl
    no_pages false = refl

pub shown_boot : (p : Plan) (k : Kept) → IsPlan p → Holds p k.held (boot p)
    → k.known ≡ replicate (length p.processes) (replicate 256 None)
    → k.processes ≡ replicate (length p.processes) at_first → Shows p k (boot p)
unfolding boot
shown_boot p k plan holds known processes = grind (arith, nat_tests, common_steps, length-replicate, reached_boot)
