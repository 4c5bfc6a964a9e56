-- What is above the nodes of a tree is a chain that ends at the root.
use Rattle.tree_model.proofs.Prelude.{◌≡◌, ◌≢◌, ℕ, suc, zero, ◌<◌, ◌≤◌, true, false, eqb, List, [], ◌∷◌, Option, Some, None, refl, sym, ap, subst, ◌∙◌, arith, inl, inr, ◌⊎◌, is_some, find, option_and_then, cases_Bool, both_ways, Term, above, has_directory, node_in, step_up, IsTree, AreUnder, IsChain, AreDirectories, EndsAtRoot, HasChains}
use Rattle.tree_model.proofs.TreeLaws.{superior_in, IsUp, superior_up, above_once, root_found}

node_found : (ns : List Term) (u : ℕ) → node_in ns u ≡ find (λ n. eqb n.uid u) ns
node_found [] u = refl
node_found (n ∷ ns) u = cc (node_found ns u)

directory_there : (ns : List Term) (u : ℕ) → has_directory ns u ≡ true → is_some (node_in ns u) ≡ true
directory_there [] u e = cc
directory_there (n ∷ ns) u e = elim (cases_Bool (eqb n.uid u))
    [ inl is ↦ rw is refl | inr isnt ↦ rw isnt (directory_there ns u (rw isnt at e)) ]

pub under_more : (u v : ℕ) (xs : List ℕ) → v < u → AreUnder v xs → AreUnder u xs
under_more u v [] lt a = tt
under_more u v (x ∷ xs) lt a = ((omega arith), under_more u v xs lt a.1)

module _ (ns : List Term) (t : IsTree ns) where
  record Facts (u : ℕ) : Type 0 where
    chain : IsChain (above ns) (above ns u)
    under : AreUnder u (above ns u)
    directories : AreDirectories ns (above ns u)

  facts_at : (u : ℕ) (o : Option ℕ) → superior_in ns u ≡ o → above ns u ≡ step_up (above ns) o → IsUp ns u o
      → ((s : ℕ) → s < u → Facts s) → Facts u
  facts_at u None is e up ih = record { chain = rw e tt; under = rw e tt; directories = rw e tt }
  facts_at u (Some s) is e up ih = (let f = ih s up.0 in
      record {
        chain = rw e (refl, f.under, f.chain);
        under = rw e (up.0, under_more u s (above ns s) up.0 f.under);
        directories = rw e (up.1, f.directories);
      })

  facts : (n : ℕ) {u : ℕ} → u < n → Facts u
  facts zero lt = absurd (omega arith)
  facts (suc n) {u} lt = facts_at u (superior_in ns u) refl (above_once ns t u) (superior_up ns t u)
      (λ s l. facts n (omega arith))

  -- a node is the root, or ends at it
  Ends : ℕ → Type 0
  Ends u = ((u ≡ 1) × (above ns u ≡ [])) ⊎ ((1 < u) × EndsAtRoot (above ns u))

  no_superior : (u : ℕ) (o : Option Term) → find (λ n. eqb n.uid u) ns ≡ o → is_some o ≡ true
      → option_and_then (λ n. n.superior) o ≡ None → u ≡ 1
  no_superior u None is some none = cc
  no_superior u (Some n) is some none = (root_found ns t u n is none).0

  under_root : (s : ℕ) (xs : List ℕ) → 1 < s → EndsAtRoot xs → EndsAtRoot (s ∷ xs)
  under_root s [] lt e = absurd e
  under_root s (x ∷ xs) lt e = (lt, e)

  ends_at : (u : ℕ) (o : Option ℕ) → superior_in ns u ≡ o → above ns u ≡ step_up (above ns) o → IsUp ns u o
      → is_some (node_in ns u) ≡ true → ((s : ℕ) → s < u → is_some (node_in ns s) ≡ true → Ends s) → Ends u
  unfolding Ends
  ends_at u None is e up there ih = inl (
    no_superior u (find (λ n. eqb n.uid u) ns) refl (cc (node_found ns u)) is,
    e,
  )
  ends_at u (Some s) is e up there ih = elim (ih s up.0 (directory_there ns s up.1)) [
    | inl root ↦ inr (
      (omega arith),
      subst EndsAtRoot (sym e) (rw root.1 root.0),
    )
    | inr below ↦ inr (
      (omega arith),
      subst EndsAtRoot (sym e) (under_root s (above ns s) below.0 below.1),
    )
  ]

  ends : (n u : ℕ) → u < n → is_some (node_in ns u) ≡ true → Ends u
  ends zero u lt there = absurd (omega arith)
  ends (suc n) u lt there = ends_at u (superior_in ns u) refl (above_once ns t u) (superior_up ns t u) there
      (λ s l h. ends n s (omega arith) h)

  root_at : (o : Option ℕ) → superior_in ns 1 ≡ o → above ns 1 ≡ step_up (above ns) o → IsUp ns 1 o → above ns 1 ≡ []
  unfolding Ends
  root_at None is e up = e
  root_at (Some s) is e up = elim (ends (suc s) s (omega arith) (directory_there ns s up.1)) [
    | inl root ↦ absurd (omega arith)
    | inr below ↦ absurd (omega arith)
  ]

  rooted_at : {u : ℕ} → Ends u → u ≢ 1 → EndsAtRoot (above ns u)
  unfolding Ends
  rooted_at (inl root) ne = absurd (ne root.0)
  rooted_at (inr below) ne = below.1

  first_at : {u : ℕ} → Ends u → 1 ≤ u
  unfolding Ends
  first_at {u} (inl root) = (omega arith)
  first_at {u} (inr below) = (omega arith)

  of_directory : (ms : List Term) (u : ℕ) {n : Term} → find (λ n. eqb n.uid u) ms ≡ Some n → has_directory ms u
      ≡ n.directory
  of_directory [] u e = cc
  of_directory (m ∷ ms) u {n} e = elim (cases_Bool (eqb m.uid u)) [
    | inl is ↦ (let z : Some m ≡ Some n = rw is at e in let same : m ≡ n = cc in rw is (cc))
    | inr isnt ↦ rw isnt (of_directory ms u (rw isnt at e))
  ]

  root_superior : (o : Option ℕ) → superior_in ns 1 ≡ o → IsUp ns 1 o → superior_in ns 1 ≡ None
  unfolding Ends
  root_superior None is up = is
  root_superior (Some s) is up = elim (ends (suc s) s (omega arith) (directory_there ns s up.1)) [
    | inl root ↦ absurd (omega arith)
    | inr below ↦ absurd (omega arith)
  ]

  root_is_directory : (o : Option Term) → find (λ n. eqb n.uid 1) ns ≡ o → is_some o ≡ true → has_directory ns 1 ≡ true
  root_is_directory None is some = cc
  root_is_directory (Some n) is some = of_directory ns 1 {n = n} is ∙ (root_found ns t 1 n is
      (cc (root_superior (superior_in ns 1) refl (superior_up ns t 1)))).1

  not_root : (u : ℕ) → is_some (node_in ns u) ≡ true → has_directory ns u ≡ false → u ≢ 1
  not_root u there isnt one = both_ways (has_directory ns u) isnt
      (rw one (root_is_directory (find (λ n. eqb n.uid 1) ns) refl
      (ap is_some (sym (node_found ns 1)) ∙ rw one at there)))

  pub has_chains : HasChains ns
  has_chains = record {
    chain = λ u. (facts (suc u) (omega arith)).chain;
    under = λ u. (facts (suc u) (omega arith)).under;
    directories = λ u. (facts (suc u) (omega arith)).directories;
    rooted = λ u there ne. rooted_at (ends (suc u) u (omega arith) there) ne;
    segments = λ u there isnt. rooted_at (ends (suc u) u (omega arith) there) (not_root u there isnt);
    root = root_at (superior_in ns 1) refl (above_once ns t 1) (superior_up ns t 1);
    first = λ u there. first_at (ends (suc u) u (omega arith) there);
  }
