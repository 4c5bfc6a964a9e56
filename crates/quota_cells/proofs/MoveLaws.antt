-- What another quota of a directory, and quota that moves, do to the loads and to the accounts.
use Rattle.quota_cells.proofs.Prelude.{◌≡◌, ◌≢◌, ℕ, ◌+◌, ◌-◌, ◌≤◌, Bool, true, false, eqb, if◌then◌else◌, List, length, refl, sym, ◌∙◌, arith, inl, inr, sum, cases_Bool, cases_eq, eqb-true, eqb-false, eq-eqb, ne_eqb, above, Node, shapes, HasChains, look, has, covers, load, CellMaps, quota_in, load_in, Fits, loads_then, with_quota}
use Rattle.quota_cells.proofs.ColumnLaws.{look_with, look_changed, length_with, length_changed, sum_with}
use Rattle.quota_cells.proofs.AccountLaws.{appears, appears_own, covers_above, load_same}

-- the columns have the same lengths
pub record AreEven (c : CellMaps) : Type 0 where
  pub quotas : length c.quotas ≡ length c.directories
  pub loads : length c.loads ≡ length c.directories

-- a directory that can have another quota
pub record Changing (nodes : List Node) (c : CellMaps) (d : ℕ) : Type 0 where
  pub even : AreEven c
  pub fits : Fits nodes c
  pub chains : HasChains (shapes nodes)
  pub here : has c.directories d ≡ true

module _ {nodes : List Node} {c : CellMaps} {d : ℕ} (changing : Changing nodes c d) (v : ℕ) where
  open changing use {even, fits, chains, here}

  abbrev f : ℕ → List ℕ
  f = above (shapes nodes)

  abbrev q : ℕ → ℕ
  q = quota_in c

  abbrev c' : CellMaps
  c' = with_quota c (f d) d v

  abbrev r : ℕ → ℕ
  r = quota_in c'

  pub quota_is : (y : ℕ) → r y ≡ (if eqb d y then v else q y)
  quota_is y = look_with c.directories c.quotas d v y even.quotas here

  pub quota_own : r d ≡ v
  quota_own = quota_is d ∙ rw (eq-eqb d d refl) refl

  pub quota_other : (y : ℕ) → y ≢ d → r y ≡ q y
  quota_other y ne = quota_is y ∙ rw (ne_eqb d y (λ e. ne (sym e))) refl

  same_zero : (b : Bool) → eqb (q d) 0 ≡ b → eqb v 0 ≡ b → (y : ℕ) → eqb (r y) 0 ≡ eqb (q y) 0
  same_zero b is_q is_v y = elim (cases_eq y d)
      [ inl same ↦ rw (same, quota_own) (cc) | inr other ↦ rw (quota_other y other) refl ]

  -- how the loads change
  pub load_then : (e : ℕ) → has c.directories e ≡ true → (b w : Bool) → eqb (q d) 0 ≡ b → eqb v 0 ≡ w
      → load_in c' e ≡ look c.directories (loads_then c (f d) d b w) e
  load_then e there b w is_b is_w = rw (is_b, is_w) refl

  fits_at : (e : ℕ) → has c.directories e ≡ true → (b w : Bool) → eqb (q d) 0 ≡ b → eqb v 0 ≡ w
      → load_in c' e ≡ load f r c.segments c.stored e
  fits_at e there true true is_b is_w = load_then e there true true is_b is_w ∙ fits.loads e there
      ∙ sym (load_same f q r (same_zero true is_b is_w) c.segments c.stored e)
  fits_at e there false false is_b is_w = load_then e there false false is_b is_w ∙ fits.loads e there
      ∙ sym (load_same f q r (same_zero false is_b is_w) c.segments c.stored e)
  fits_at e there true false is_b is_w =
      let none : q d ≡ 0 = eqb-true (q d) 0 is_b in
      let some : r d ≢ 0 = λ z. eqb-false v 0 is_w (sym quota_own ∙ z) in
      let law = appears f q r d quota_other none some (chains.under d) chains.chain c.segments c.stored e in
      let own : load_in c d ≡ load f q c.segments c.stored d = fits.loads d here in
      let old : load_in c e ≡ load f q c.segments c.stored e = fits.loads e there in
      let l = look_changed (λ w. w - load_in c d) (covers q (f d)) c.directories c.loads e even.loads there in
      load_then e there true false is_b is_w ∙ l ∙ elim (cases_Bool (covers q (f d) e)) [
        | inl t ↦ (let law' = rw t at law in rw t (omega arith))
        | inr u ↦ (let law' = rw u at law in rw u (omega arith))
      ]
  fits_at e there false true is_b is_w =
      let some = eqb-false (q d) 0 is_b in
      let none = quota_own ∙ eqb-true v 0 is_w in
      let back : (y : ℕ) → y ≢ d → q y ≡ r y = λ y ne. sym (quota_other y ne) in
      let law = appears f r q d back none some (chains.under d) chains.chain c.segments c.stored e in
      let cover = covers_above q r d (f d) e quota_other (chains.under d) in
      let own' = appears_own f r q d back none some (chains.under d) chains.chain c.segments c.stored in
      let own = fits.loads d here in
      let old = fits.loads e there in
      let l = look_changed (λ w. w + load_in c d) (covers q (f d)) c.directories c.loads e even.loads there in
      load_then e there false true is_b is_w ∙ l ∙ elim (cases_Bool (covers q (f d) e)) [
        | inl t ↦ (let law' = rw (cover, t) at law in rw t (omega arith))
        | inr u ↦ (let law' = rw (cover, u) at law in rw u (omega arith))
      ]

  pub fits_quota : Fits nodes c'
  fits_quota = record {
    directories = fits.directories;
    segments = fits.segments;
    count = fits.count;
    loads = λ e there. fits_at e there (eqb (q d) 0) (eqb v 0) refl refl;
  }

  loads_length : (b w : Bool) → length (loads_then c (f d) d b w) ≡ length c.loads
  loads_length true true = refl
  loads_length false false = refl
  loads_length true false = length_changed (λ w. w - load_in c d) (covers q (f d)) c.directories c.loads even.loads
  loads_length false true = length_changed (λ w. w + load_in c d) (covers q (f d)) c.directories c.loads even.loads

  pub even_quota : AreEven c'
  even_quota = assumption (
    length_with c.directories c.quotas d v ∙ even.quotas,
    loads_length (eqb (q d) 0) (eqb v 0) ∙ even.loads,
  )

  pub total_quota : sum c'.quotas + q d ≡ sum c.quotas + v
  total_quota = sum_with c.directories c.quotas d v even.quotas here

  -- a load falls where the directory becomes an account, and rises where it is one no more
  pub load_falls : q d ≡ 0 → v ≢ 0 → (e : ℕ) → has c.directories e ≡ true
      → load_in c' e ≡ (if covers q (f d) e then load_in c e - load_in c d else load_in c e)
  load_falls none some e there = load_then e there true false (eq-eqb (q d) 0 none) (ne_eqb v 0 some)
      ∙ look_changed (λ w. w - load_in c d) (covers q (f d)) c.directories c.loads e even.loads there

  pub load_rises : q d ≢ 0 → v ≡ 0 → (e : ℕ) → has c.directories e ≡ true
      → load_in c' e ≡ (if covers q (f d) e then load_in c e + load_in c d else load_in c e)
  load_rises some none e there = load_then e there false true (ne_eqb (q d) 0 some) (eq-eqb v 0 none)
      ∙ look_changed (λ w. w + load_in c d) (covers q (f d)) c.directories c.loads e even.loads there

  pub load_stays : q d ≢ 0 → v ≢ 0 → (e : ℕ) → has c.directories e ≡ true → load_in c' e ≡ load_in c e
  load_stays some some_v e there = load_then e there false false (ne_eqb (q d) 0 some) (ne_eqb v 0 some_v)

-- what covers a directory has its pages too, where it is no account
pub covers_more : {nodes : List Node} {c : CellMaps} {d : ℕ} → Changing nodes c d → quota_in c d ≡ 0 → (e : ℕ)
    → has c.directories e ≡ true → covers (quota_in c) (above (shapes nodes) d) e ≡ true → load_in c d ≤ load_in c e
covers_more {nodes} {c} {d} changing none e there is =
    let f = above (shapes nodes) in
    let q = quota_in c in
    let one : (y : ℕ) → ℕ = λ y. if eqb d y then 1 else q y in
    let law = appears f q one d (λ y ne. rw (ne_eqb d y (λ e. ne (sym e))) refl) none
    (λ z. (let o : one d ≡ 1 = rw (eq-eqb d d refl) refl in omega arith)) (changing.chains.under d)
    changing.chains.chain c.segments c.stored e in
    let law' = rw is at law in omega (arith, changing.fits.loads d changing.here, changing.fits.loads e there)
