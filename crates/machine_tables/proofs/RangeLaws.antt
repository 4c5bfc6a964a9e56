-- A command of the script is in its ranges by the drives that there are.
use Rattle.machine_tables.proofs.Prelude.{◌≡◌, ℕ, zero, suc, ◌-◌, ◌<◌, ◌≤◌, Bool, true, ◌&&◌, List, [], ◌∷◌, map, length, Option, ap, arith, inl, inr, nat_lt, slice_get, list_all, and_parts, cases_lt, leb_tells, nat_tests, get_or_past, length-map, IsPlan, is_command, is_volume, Plan, Command, VolumeLine, records_in, records_of, HasParts, size, not_both}

and_more : (a b d : Bool) → (b ≡ true → d ≡ true) → (a && b) ≡ true → (a && d) ≡ true
and_more a b d h1 h2 = grind arith

lt_more : (v few most : ℕ) → few ≤ most → nat_lt v few ≡ true → nat_lt v most ≡ true
lt_more v few most le h = grind (arith, nat_tests)

-- a command that is in its ranges stays so where there are more volumes
pub more_volumes : (few most : ℕ) (c : Command) → few ≤ most → is_command few c ≡ true → is_command most c ≡ true
unfolding is_command
more_volumes few most c h1 h2 = grind (arith, and_more, lt_more)

some_records : (v : VolumeLine) → is_volume v ≡ true → 1 ≤ v.records
unfolding is_volume
some_records v h = grind (arith, leb_tells, not_both, and_parts)

records_some : (vs : List VolumeLine) (v : ℕ) → list_all is_volume vs ≡ true → v < length vs
    → 1 ≤ records_in (slice_get vs v)
records_some [] v h lt = absurd (omega arith)
records_some (x ∷ vs) zero h lt = some_records x (and_parts _ _ h).0
records_some (x ∷ vs) (suc v) h lt = records_some vs v (and_parts _ _ h).1 (omega arith)

-- there is a drive for each volume of the script
pub drive_each : {D : Type 0} (pages : D → List (List ℕ)) (drives : List D) (p : Plan) (records : List (List Bool))
    (vtocs : List (List (Option _))) → IsPlan p → ((v : ℕ) → records_of p v ≡ size records v)
    → HasParts (map pages drives) records vtocs → length p.volumes ≤ length drives
drive_each pages drives p records vtocs plan same parts =
    elim (cases_lt (length p.volumes - 1) (length records)) [
      | inl lt ↦ (omega (arith, lt, all))
      | inr past ↦ (let none : size records (length p.volumes - 1) ≡ 0 =
          ap length (get_or_past records (length p.volumes - 1) [] past) in
          let some = records_some p.volumes (length p.volumes - 1) plan.volumes (omega arith) in
          let is = same (length p.volumes - 1) in
          absurd (omega arith))
    ]
  where
    all : length records ≡ length drives
    all = cc (length-map records length, length-map (map pages drives) length, length-map drives pages)
