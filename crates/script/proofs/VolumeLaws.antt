-- Laws of the names of volumes (own).
use Rattle.script.proofs.Prelude.{nat_tests, ◌≡◌, ℕ, suc, ◌+◌, ◌<◌, ◌≤◌, Bool, true, false, List, [], ◌∷◌, length, drop, drop-cons, add-one, Option, Some, None, refl, sym, ap, ◌∙◌, arith, slice_index_or, common_steps, list_any, has_name, number_from, VolumeLine}
use Rattle.script.proofs.SmallLaws.{left_at, none_left}

pub number_found : (vs : List VolumeLine) (i : ℕ) (v : VolumeLine) (name : List ℕ) → i < length vs → v
    ≡ slice_index_or vs i v → has_name name v ≡ true → number_from i (drop i vs) name ≡ number_from 0 vs name → Some i
    ≡ number_from 0 vs name
unfolding number_from
number_found vs i v name lt e same h = rw (left_at vs i v lt e, same) at h

pub number_next : (vs : List VolumeLine) (i : ℕ) (v : VolumeLine) (name : List ℕ) → i < length vs → v
    ≡ slice_index_or vs i v → has_name name v ≡ false → number_from i (drop i vs) name ≡ number_from 0 vs name
    → number_from (i + 1) (drop (i + 1) vs) name ≡ number_from 0 vs name
unfolding number_from
number_next vs i v name lt e other h = rw (left_at vs i v lt e, other) at h

pub number_missing : (vs : List VolumeLine) (i : ℕ) (name : List ℕ) → length vs ≤ i → number_from i (drop i vs) name
    ≡ number_from 0 vs name → None ≡ number_from 0 vs name
unfolding number_from
number_missing vs i name end h = rw (none_left vs i end) at h

-- whether a volume was found
abbrev found : Option ℕ → Bool
found None = false
found (Some n) = true

any_found : (n : ℕ) (vs : List VolumeLine) (name : List ℕ) → list_any (has_name name) vs ≡ found (number_from n vs name)
unfolding number_from
any_found n [] name = refl
any_found n (v ∷ vs) name = grind (arith, nat_tests, common_steps, any_found (n + 1) vs name)

pub found_is_given : (vs : List VolumeLine) (name : List ℕ) (n : ℕ) → Some n ≡ number_from 0 vs name
    → list_any (has_name name) vs ≡ true
found_is_given vs name n e = any_found 0 vs name ∙ ap found (sym e)

pub missing_is_new : (vs : List VolumeLine) (name : List ℕ) → None ≡ number_from 0 vs name
    → list_any (has_name name) vs ≡ false
missing_is_new vs name e = any_found 0 vs name ∙ ap found (sym e)

-- what a search for the name of a volume goes by
pub ruleset name_sought = (number_found, number_next, number_missing)

-- and whether the name is given already
pub ruleset name_given = (found_is_given, missing_is_new, common_steps)
