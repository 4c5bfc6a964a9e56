-- A directory or a segment is made.
use Rattle.std.proofs.lemmas.Grind.{common_steps}
use Rattle.flat_store.proofs.Prelude.{◌≡◌, ℕ, ◌+◌, Bool, true, false, eqb, List, [], ◌∷◌, ◌++◌, set, Some, None, Ok, Err, refl, arith, inl, inr, cases_Bool, nat_tests, AccountMaps, Gains, Plan, Reply, Row, Node, entries_on, node_in, has_segment, node_at, parts_are, takes_effect, after_make, made_in, make_in, make_reply, is_stored, Store, taken_new, AreFlat, AreInside, Gauge, gauge_at, filled, is_full, Held, Holds}
use Rattle.laws.proofs.Bools.{not_both}
use Rattle.flat_store.proofs.GaugeLaws.{counts_more}
use Rattle.flat_store.proofs.PassLaws.{count-cons}

-- no segment where there is no node
pub no_segment : (ns : List Node) (u : ℕ) → node_in ns u ≡ None → has_segment ns u ≡ false
no_segment [] u e = refl
no_segment (n ∷ ns) u e = elim (cases_Bool (eqb n.uid u)) [
  | inl is ↦ (let z : Some n ≡ None = rw is at e in cc)
  | inr isnt ↦ rw isnt (no_segment ns u (rw isnt at e))
]

-- no page is stored of a segment that isn't there
unstored : (ns : List Node) (xs : List (ℕ × ℕ)) (u q : ℕ) → AreInside ns xs → node_in ns u ≡ None
    → is_stored xs u q ≡ false
unstored ns xs u q inside none = grind (arith, nat_tests, common_steps, not_both, no_segment ns u none)

inside_new : (n : Node) (ns : List Node) (xs : List (ℕ × ℕ)) → node_in ns n.uid ≡ None → AreInside ns xs
    → AreInside (n ∷ ns) xs
inside_new n ns xs none inside v q on = elim (cases_Bool (eqb n.uid v)) [
  | inl is ↦
      (let same : n.uid ≡ v = grind (arith, nat_tests) in
      absurd (not_both on (rw same at (unstored ns xs n.uid q inside none))))
  | inr isnt ↦ rw isnt (inside v q on)
]

flat_new : (n : Node) (ns : List Node) → (n.directory ≡ true → n.pages ≡ 0) → AreFlat ns → AreFlat (n ∷ ns)
flat_new n ns pages flat v is = grind (arith, nat_tests, common_steps)

pub added_shown : {p : Plan} {s : Store} {h : Held} {accounts : AccountMaps} {entries : List Gauge} {n : Node}
    {entry : ℕ} → Holds p h s → Gains h.accounts accounts n entry
    → entries ≡ set h.entries n.volume (filled (gauge_at h.entries n.volume)) → n.uid ≡ h.accounts.next
    → node_in h.accounts.nodes h.accounts.next ≡ None → is_full (gauge_at h.entries n.volume) ≡ false
    → (n.directory ≡ true → n.pages ≡ 0) → Holds p (record h { accounts = accounts; entries = entries })
    (record s { nodes = n ∷ s.nodes; next = s.next + 1 })
unfolding entries_on
added_shown {p} {s} {h} {n = n} holds gains filled_are uid fresh room flat =
    grind (arith, nat_tests, common_steps, inside_new, flat_new, taken_new, unstored, counts_more, count-cons)

-- ---- by its path

module _ (p : Plan) (s : Store) (path names : List (List ℕ)) (name : List ℕ) (volume : ℕ) (dir : Bool)
    (parts : path ≡ names ++ name ∷ []) where
  pub make_refused : (pages : ℕ) (rows : List Row) (r : Reply) → node_at s.nodes names ≡ Err r
      → after_make s path volume dir pages rows ≡ s
  unfolding after_make
  make_refused pages rows r found = rw (parts_are path names name parts, found) refl

  pub after_make_is : (pages : ℕ) (rows : List Row) (d : Node) → node_at s.nodes names ≡ Ok d
      → after_make s path volume dir pages rows ≡ made_in s volume dir pages rows name d
  unfolding after_make
  after_make_is pages rows d found = rw (parts_are path names name parts, found) refl

  pub make_asked : (d : Node) → node_at s.nodes names ≡ Ok d → takes_effect (make_reply p s path volume dir) ≡ true
      → (d.directory ≡ true) × (takes_effect (make_in p s volume dir name d) ≡ true)
  unfolding make_reply
  make_asked d found effect = grind (arith, nat_tests, common_steps, parts_are path names name parts)
