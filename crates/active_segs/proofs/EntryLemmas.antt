-- The entries after one of them changes: what is read there, and that they are still a part of a tree.
use Rattle.active_segs.proofs.Prelude.{Bool, Entry, HasNoInferior, IsActive, IsGrounded, IsOneToOne, IsTree, List, None, Option, Some, SuperiorsAreActive, ap, arith, cases_eq, cond, entry_at, eq-eqb, eqb, get_or-set_other, get_or-set_same, inl, inr, length, ne_eqb, none-some, refl, same_Some, set, shown_within, subst, superior_at, superior_in, sym, uid_at, uid_in, ℕ, ◌+◌, ◌<◌, ◌∙◌, ◌≡◌, ◌≢◌}

pub entry_set : (xs : List (Option Entry)) (p : ℕ) (e : Option Entry) → p < length xs → entry_at (set xs p e) p ≡ e
entry_set xs p e lt = get_or-set_same xs p e None lt

pub entry_kept : (xs : List (Option Entry)) (p : ℕ) (e : Option Entry) (q : ℕ) → q ≢ p → entry_at (set xs p e) q
    ≡ entry_at xs q
entry_kept xs p e q ne = get_or-set_other xs p q e None ne

pub uid_set : (xs : List (Option Entry)) (p : ℕ) (e : Option Entry) → p < length xs → uid_at (set xs p e) p ≡ uid_in e
uid_set xs p e lt = ap uid_in (entry_set xs p e lt)

pub uid_kept : (xs : List (Option Entry)) (p : ℕ) (e : Option Entry) (q : ℕ) → q ≢ p → uid_at (set xs p e) q
    ≡ uid_at xs q
uid_kept xs p e q ne = ap uid_in (entry_kept xs p e q ne)

-- where something is active the place is one of the table's
pub used_within : (xs : List (Option Entry)) (p uid : ℕ) → uid_at xs p ≡ Some uid → p < length xs
used_within xs p uid e = shown_within uid_in xs p None uid refl e

pub superior_within : (xs : List (Option Entry)) (p uid : ℕ) → superior_at xs p ≡ Some uid → p < length xs
superior_within xs p uid e = shown_within superior_in xs p None uid refl e

-- a place that has a superior is used
pub used_since_superior : (o : Option Entry) (s : ℕ) → superior_in o ≡ Some s → (uid : ℕ) × (uid_in o ≡ Some uid)
used_since_superior None s e = absurd (none-some s e)
used_since_superior (Some e) s h = (e.uid, refl)

-- ---- a segment becomes active

module _ (xs : List (Option Entry)) (p uid : ℕ) (superior : Option ℕ) (lt : p < length xs) (free : entry_at xs p ≡ None)
    (inactive : (q : ℕ) → uid_at xs q ≢ Some uid) (above : (s : ℕ) → superior ≡ Some s → IsActive xs s)
    (tree : IsTree xs) where
  new_entry : Entry
  new_entry = record { uid = uid; superior = superior }

  ys : List (Option Entry)
  ys = set xs p (Some new_entry)

  uid_new : uid_at ys p ≡ Some uid
  unfolding ys new_entry
  uid_new = ap uid_in (entry_set xs p (Some new_entry) lt)

  superior_new : superior_at ys p ≡ superior
  unfolding ys new_entry
  superior_new = ap superior_in (entry_set xs p (Some new_entry) lt)

  uid_old : (q : ℕ) → q ≢ p → uid_at ys q ≡ uid_at xs q
  unfolding ys
  uid_old q ne = ap uid_in (entry_kept xs p (Some new_entry) q ne)

  superior_old : (q : ℕ) → q ≢ p → superior_at ys q ≡ superior_at xs q
  unfolding ys
  superior_old q ne = ap superior_in (entry_kept xs p (Some new_entry) q ne)

  -- nothing was active there
  none_there : (u : ℕ) → uid_at xs p ≢ Some u
  none_there u e = none-some u (sym (ap uid_in free) ∙ e)

  -- what was active is so in its place
  still_active : (s : ℕ) → IsActive xs s → IsActive ys s
  still_active s (r, e) = (r, uid_old r (λ same. none_there s (rw same at e)) ∙ e)

  once_activated : IsOneToOne ys
  once_activated q r u e f = elim (cases_eq q p) [
    | inl at_q ↦ elim (cases_eq r p) [
      | inl at_r ↦ at_q ∙ sym at_r
      | inr off_r ↦
          (let same : uid ≡ u = same_Some _ _ (sym uid_new ∙ (rw at_q at e)) in
          absurd (inactive r (sym (uid_old r off_r) ∙ f ∙ ap (λ (k : ℕ). Some k) (sym same))))
    ]
    | inr off_q ↦ elim (cases_eq r p) [
      | inl at_r ↦
          (let same : uid ≡ u = same_Some _ _ (sym uid_new ∙ (rw at_r at f)) in
          absurd (inactive q (sym (uid_old q off_q) ∙ e ∙ ap (λ (k : ℕ). Some k) (sym same))))
      | inr off_r ↦ tree.once q r u (sym (uid_old q off_q) ∙ e) (sym (uid_old r off_r) ∙ f)
    ]
  ]

  superiors_activated : SuperiorsAreActive ys
  superiors_activated q s e = elim (cases_eq q p) [
    | inl at_q ↦ still_active s (above s (sym superior_new ∙ (rw at_q at e)))
    | inr off_q ↦ still_active s (tree.superiors q s (sym (superior_old q off_q) ∙ e))
  ]

  -- the new segment's rank is one above its superior's
  rank_in : (ℕ → ℕ) → Option ℕ → ℕ
  rank_in rank None = 0
  rank_in rank (Some s) = rank s + 1

  grounded_activated : IsGrounded ys
  unfolding rank_in
  grounded_activated =
      let rank = tree.grounded.0 in
      let rank' : ℕ → ℕ = λ u. cond (eqb u uid) (rank_in rank superior) (rank u) in
      let old : (s : ℕ) → IsActive xs s → rank' s ≡ rank s = λ s active.
      (let ne = ne_eqb s uid (λ same. inactive active.0 (active.1 ∙ ap (λ (k : ℕ). Some k) same)) in
      ap (λ (b : Bool). cond b (rank_in rank superior) (rank s)) ne) in
      let this : rank' uid ≡ rank_in rank superior = ap (λ (b : Bool). cond b (rank_in rank superior) (rank uid))
      (eq-eqb uid uid refl) in (
        rank',
        λ q u s e f. elim (cases_eq q p) [
          | inl at_q ↦
              (let is_uid = same_Some _ _ (sym uid_new ∙ subst (λ (k : ℕ). uid_at ys k ≡ Some u) at_q e) in
              let is_superior : superior ≡ Some s = sym superior_new
              ∙ subst (λ (k : ℕ). superior_at ys k ≡ Some s) at_q f in
              let high' : rank'
              u ≡ rank s + 1 = subst (λ (k : ℕ). rank' k ≡ rank s + 1) is_uid (this ∙ ap (rank_in rank) is_superior) in
              omega (arith, old s (above s is_superior)))
          | inr off_q ↦
              (let e' : uid_at xs q ≡ Some u = sym (uid_old q off_q) ∙ e in
              let f' : superior_at xs q ≡ Some s = sym (superior_old q off_q) ∙ f in
              omega (arith, tree.grounded.1 q u s e' f', old s (tree.superiors q s f'), old u (q, e')))
        ],
      )

  pub tree_activated : IsTree (set xs p (Some (record { uid = uid; superior = superior })))
  unfolding ys new_entry
  tree_activated = record { once = once_activated; superiors = superiors_activated; grounded = grounded_activated }

-- ---- nothing is active in a place any more

module _ (xs : List (Option Entry)) (p : ℕ) (lt : p < length xs) (leaf : HasNoInferior xs p) (tree : IsTree xs) where
  uid_left : (q u : ℕ) → uid_at (set xs p None) q ≡ Some u → (q ≢ p) × (uid_at xs q ≡ Some u)
  uid_left q u e = elim (cases_eq q p) [
    | inl at_q ↦ absurd (none-some u (sym (ap uid_in (entry_set xs p None lt)) ∙ (rw at_q at e)))
    | inr off_q ↦ (off_q, sym (ap uid_in (entry_kept xs p None q off_q)) ∙ e)
  ]

  superior_left : (q u : ℕ) → superior_at (set xs p None) q ≡ Some u → (q ≢ p) × (superior_at xs q ≡ Some u)
  superior_left q u e = elim (cases_eq q p) [
    | inl at_q ↦ absurd (none-some u (sym (ap superior_in (entry_set xs p None lt)) ∙ (rw at_q at e)))
    | inr off_q ↦ (off_q, sym (ap superior_in (entry_kept xs p None q off_q)) ∙ e)
  ]

  pub tree_deactivated : IsTree (set xs p None)
  tree_deactivated = record {
    once = λ q r u e f. tree.once q r u (uid_left q u e).1 (uid_left r u f).1;
    superiors = λ q s e. (let was : superior_at xs q ≡ Some s = (superior_left q s e).1 in
        let active : IsActive xs s = tree.superiors q s was in
        let r : ℕ = active.0 in
        let off : r ≢ p = λ same. leaf q s (rw same at active.1) was in
        (r, ap uid_in (entry_kept xs p None r off) ∙ active.1));
    grounded = (tree.grounded.0, λ q u s e f. tree.grounded.1 q u s (uid_left q u e).1 (superior_left q s f).1);
  }
