-- A page is stored no more, and its account is credited.
use Rattle.storage_ops.proofs.Prelude.{◌≡◌, ◌≢◌, ℕ, zero, suc, ◌+◌, ◌-◌, Bool, true, false, cond, eqb, List, [], ◌∷◌, get_or, length, map, is_some, refl, sym, ◌∙◌, arith, count_by, ne_eqb, sum_by-cons, get_or-map, AccountMaps, Counts, Recounts, count_of, Node, taken_on, volume_in, Ptw, Null, Home, KeepsCounts, entries, size, used, dropped, unstored, ChangesStored, Plain, home_of, is_filed, is_there, eq-eqb}

-- ---- counts

-- some pages more of a segment
abbrev pub with_more : ℕ → ℕ → List (ℕ × ℕ) → List (ℕ × ℕ)
with_more u zero stored = stored
with_more u (suc n) stored = (u, 0) ∷ with_more u n stored

pub more_counted : (test : ℕ × ℕ → Bool) (u n : ℕ) (stored : List (ℕ × ℕ)) (z : Bool) → test (u, 0) ≡ z
    → count_by test (with_more u n stored) ≡ cond {A = ℕ} z n 0 + count_by test stored
more_counted test u zero stored true is = omega arith
more_counted test u zero stored false is = omega arith
more_counted test u (suc n) stored true is =
    let ih = more_counted test u n stored true is in
    sum_by-cons (λ (x : ℕ × ℕ). cond (test x) 1 0) (u, 0) (with_more u n stored) ∙ rw is (omega arith)
more_counted test u (suc n) stored false is =
    let ih = more_counted test u n stored false is in
    sum_by-cons (λ (x : ℕ × ℕ). cond (test x) 1 0) (u, 0) (with_more u n stored) ∙ rw is (omega arith)

pub taken_more : (nodes : List Node) (u n : ℕ) (stored : List (ℕ × ℕ)) (v : ℕ)
    → taken_on nodes (with_more u n stored) v ≡ cond {A = ℕ} (eqb (volume_in nodes u) v) n 0 + taken_on nodes stored v
unfolding taken_on
taken_more nodes u n stored v =
    more_counted (λ x. eqb (volume_in nodes x.0) v) u n stored (eqb (volume_in nodes u) v) refl

pub counts_more : (a b : AccountMaps) (u n : ℕ) (stored : List (ℕ × ℕ)) → Counts b stored
    → ((s : ℕ) → count_of a s ≡ cond {A = ℕ} (eqb u s) n 0 + count_of b s) → Counts a (with_more u n stored)
counts_more a b u n stored counts more s =
    cc (more s, counts s, more_counted (λ x. eqb x.0 s) u n stored (eqb u s) refl)

-- ---- what a page less is

pub record HasDropped (old now : Plain) (a b : AccountMaps) (u q : ℕ) : Type 0 where
  pub accounts : Recounts a b u (count_of a u - 1)
  pub there : is_there a.nodes u ≡ true
  pub filed : is_filed a old.vtocs u q ≡ true
  pub vtocs : now.vtocs ≡ (unstored old (home_of a u) q).vtocs
  pub stored : ChangesStored old now (home_of a u) q false
  pub counts : KeepsCounts old now

pub dropped_vtocs : (old : Plain) (home : Home) (q : ℕ) (w : Ptw)
    → (dropped old home q w).vtocs ≡ (unstored old home q).vtocs
dropped_vtocs old home q Null = refl
dropped_vtocs old home q _ = refl

pub drop_done : {old now : Plain} {a b : AccountMaps} {u q : ℕ} {home : Home} (w : Ptw) → home ≡ home_of a u
    → is_there a.nodes u ≡ true → is_filed a old.vtocs u q ≡ true → now ≡ dropped old home q w
    → ChangesStored old now home q false → KeepsCounts old now → Recounts a b u (count_of a u - 1)
    → HasDropped old now a b u q
drop_done {old} {q} {home} w is there filed effect stored counts re = grind (arith, dropped_vtocs)

kept_lengths : {X : Type 0} (f : List X → ℕ) (old new : List (List X)) (v : ℕ) → map f new ≡ map f old
    → f (get_or new v []) ≡ f (get_or old v [])
kept_lengths f old new v same = cc (get_or-map f new v [], same, get_or-map f old v [])

pub same_sizes : {old now : Plain} (v : ℕ) → KeepsCounts old now → size now.records v ≡ size old.records v
same_sizes {old} {now} v h = kept_lengths length old.records now.records v h.flags

pub same_entries : (old now : Plain) (v : ℕ) → KeepsCounts old now → entries now.vtocs v ≡ entries old.vtocs v
same_entries old now v h = kept_lengths length old.vtocs now.vtocs v h.places

pub same_used : {old now : Plain} (v : ℕ) → KeepsCounts old now → used now.vtocs v ≡ used old.vtocs v
same_used {old} {now} v h = kept_lengths (count_by is_some) old.vtocs now.vtocs v h.used

-- ---- accounts that count otherwise

module _ {a b : AccountMaps} {u n : ℕ} (re : Recounts a b u n) where
  pub recount_homes : (v : ℕ) → home_of b v ≡ home_of a v
  recount_homes v = rw (re.nodes, re.entries)

  pub recount_there : (v : ℕ) → is_there b.nodes v ≡ is_there a.nodes v
  recount_there v = cc

  pub recount_other : (v : ℕ) → v ≢ u → count_of b v ≡ count_of a v
  recount_other v ne = cc (re.counts v, ne_eqb u v (λ e. ne (sym e)))

  pub recount_here : count_of b u ≡ n
  recount_here = re.counts u ∙ rw (eq-eqb u u refl)
