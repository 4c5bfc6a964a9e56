-- What keeps the cells fit for a tree.
use Rattle.quota_cells.proofs.Prelude.{common_steps, ◌≡◌, ◌≢◌, ℕ, ◌+◌, ◌-◌, ◌<◌, ◌≤◌, ◌^◌, true, eqb, List, [], ◌∷◌, refl, sym, ◌∙◌, arith, inl, inr, Ok, cases_Bool, cases_eq, eq-eqb, ne_eqb, and_parts, above, account, Node, is_segment, shapes, HasChains, IsChain, AreDirectories, EndsAtRoot, has, with_value, covers, load, is_an_account, changed_where, CellMaps, quota_in, load_in, stored_in, Fits, IsTable, charged, credited, charge_fault, CountsUsed, directory_shape, uid_shape, segment_in, segment_not, on_segments, AreThere, IsFalling, directory_in, on_directories, nat_tests}
use Rattle.quota_cells.proofs.ColumnLaws.{look_changed, length_with, length_changed, weigh_with, weigh_same, weigh_le_on, look_le_weigh, look_le_sum}
use Rattle.quota_cells.proofs.AccountLaws.{account_covers, account_through, account_is, account_of_chain}

pub falling : (f : ℕ → List ℕ) (xs : List ℕ) → IsChain f xs → IsFalling xs
falling f [] c = tt
falling f (x ∷ xs) c = (c.1, falling f xs c.2)

pub all_there : (nodes : List Node) (c : CellMaps) → Fits nodes c → (xs : List ℕ) → AreDirectories (shapes nodes) xs
    → AreThere c.directories xs
all_there nodes c fits [] a = tt
all_there nodes c fits (x ∷ xs) a = (fits.directories x ∙ a.0, all_there nodes c fits xs a.1)

pub account_there : (q : ℕ → ℕ) (ks xs : List ℕ) → AreThere ks xs → EndsAtRoot xs → has ks (account q xs) ≡ true
account_there q ks [] a e = absurd e
account_there q ks (x ∷ []) a e = elim (cases_Bool (eqb (q x) 0))
    [ inl none ↦ rw none (rw (← e) a.0) | inr some ↦ rw some a.0 ]
account_there q ks (x ∷ y ∷ ys) a e = elim (cases_Bool (eqb (q x) 0))
    [ inl none ↦ rw none (account_there q ks (y ∷ ys) a.1 e.1) | inr some ↦ rw some a.0 ]

pub covered_there : (q : ℕ → ℕ) (ks xs : List ℕ) (e : ℕ) → AreThere ks xs → covers q xs e ≡ true → has ks e ≡ true
covered_there q ks [] e a is = cc
covered_there q ks (x ∷ xs) e a is = elim (cases_eq x e) [
  | inl same ↦ rw (← same) a.0
  | inr other ↦ covered_there q ks xs e a.1 (and_parts (eqb (q x) 0) (covers q xs e) (rw (ne_eqb x e other) at is)).1
]

-- cells that hold together and fit a tree
pub record Settled (nodes : List Node) (c : CellMaps) : Type 0 where
  pub table : IsTable c
  pub fits : Fits nodes c
  pub chains : HasChains (shapes nodes)

module _ {nodes : List Node} {c : CellMaps} (settled : Settled nodes c) where
  open settled use {table, fits, chains}

  abbrev f : ℕ → List ℕ
  f = above (shapes nodes)

  abbrev q : ℕ → ℕ
  q = quota_in c

  -- another count of stored pages of a segment, where what covers it has its load changed by as much
  fits_with : (g : ℕ → ℕ) (s v : ℕ) → is_segment nodes s ≡ true → ((w x : ℕ) → x + stored_in c s ≡ w + v → g w ≡ x)
      → Fits nodes (record c {
        loads = changed_where g (covers q (f s)) c.directories c.loads;
        stored = with_value c.segments c.stored s v;
      })
  fits_with g s v is changes = record {
    directories = fits.directories;
    segments = fits.segments;
    count = fits.count;
    loads = λ e here. (let old : load_in c e ≡ load f q c.segments c.stored e = fits.loads e here in
        let w = weigh_with (λ k. covers q (f k) e) c.segments c.stored s v table.stored_count
        (on_segments nodes fits s ∙ is) in
        look_changed g (covers q (f s)) c.directories c.loads e table.load_count here
        ∙ elim (cases_Bool (covers q (f s) e)) [
          | inl t ↦ (let w' = rw t at w in rw t (changes (load_in c e) _ (omega arith)))
          | inr u ↦ (let w' = rw u at w in rw u (omega arith))
        ]);
  }

  -- a page more of a segment, and some less
  pub fits_charged : (s : ℕ) → is_segment nodes s ≡ true → Fits nodes (charged c (f s) s)
  fits_charged s is = fits_with (λ w. w + 1) s (stored_in c s + 1) is (λ w x e. omega arith)

  pub fits_credited : (s n : ℕ) → is_segment nodes s ≡ true → n ≤ stored_in c s → Fits nodes (credited c (f s) s n)
  fits_credited s n is some = fits_with (λ w. w - n) s (stored_in c s - n) is (λ w x e. omega arith)

  -- what a stored page of a segment adds to the loads that cover it
  stored_below : (s e : ℕ) → has c.directories e ≡ true → covers q (f s) e ≡ true → stored_in c s ≤ load_in c e
  stored_below s e here is = rw (fits.loads e here) (look_le_weigh (λ k. covers q (f k) e) c.segments c.stored s is)

  pub ends : (s : ℕ) → is_segment nodes s ≡ true → EndsAtRoot (f s)
  ends s is = chains.segments s (uid_shape nodes s ∙ segment_in nodes s is)
      (directory_shape nodes s ∙ segment_not nodes s is)

  pub ends_at : (d : ℕ) → has c.directories d ≡ true → d ≢ 1 → EndsAtRoot (f d)
  ends_at d here = chains.rooted d (uid_shape nodes d ∙ directory_in nodes d (sym (on_directories nodes fits d) ∙ here))

  pub there : (u : ℕ) → AreThere c.directories (f u)
  there u = all_there nodes c fits (f u) (chains.directories u)

  pub falls : (u : ℕ) → IsFalling (f u)
  falls u = falling f (f u) (chains.chain u)

  -- the account that a node is charged to, which is there and within its quota
  abbrev account_of : ℕ → ℕ
  account_of s = account q (f s)

  pub account_here : (s : ℕ) → EndsAtRoot (f s) → has c.directories (account q (f s)) ≡ true
  account_here s = account_there q c.directories (f s) (there s)

  account_within : (s : ℕ) → EndsAtRoot (f s) → load_in c (account_of s) ≤ q (account_of s)
  account_within s ends_s = table.within (account_of s) (account_here s ends_s) (account_of_chain q (f s))

  -- what covers a node has no more pages than its account
  load_up : (s e : ℕ) → EndsAtRoot (f s) → covers q (f s) e ≡ true → load_in c e ≤ load_in c (account_of s)
  load_up s e ends_s covered =
      let a = account_of s in
      rw (fits.loads e (covered_there q c.directories (f s) e (there s) covered), fits.loads a (account_here s ends_s))
      (weigh_le_on (λ k. covers q (f k) e) (λ k. covers q (f k) a) c.segments c.stored (λ k h k_covered.
      (let same = account_through f q (f k) e (chains.chain k) k_covered
      ∙ sym (account_through f q (f s) e (chains.chain s) covered) in
      rw same at (account_covers q (f k) (ends k (sym (on_segments nodes fits k) ∙ h))))))

  -- so it has no more than there is quota
  pub load_bound : (s e : ℕ) → EndsAtRoot (f s) → covers q (f s) e ≡ true → load_in c e < 2 ^ 32
  load_bound s e ends_s covered = grind (arith, nat_tests, common_steps, load_up, account_within, look_le_sum)

  -- where the account isn't full there is room for a page
  module _ (s : ℕ) (is : is_segment nodes s ≡ true) (ne : load_in c (account q (f s)) ≢ q (account q (f s))) where
    below_quota : load_in c (account_of s) < q (account_of s)
    below_quota = (omega (arith, account_within s (ends s is)))

    pub room_charged : (e : ℕ) → covers q (f s) e ≡ true → load_in c e + 1 < 2 ^ 32
    room_charged e covered = grind (arith, nat_tests, common_steps, load_up, ends, look_le_sum, below_quota, table)

    pub stored_room : stored_in c s + 1 < 2 ^ 32
    stored_room = grind (arith, nat_tests, common_steps, account_covers, ends, stored_below, account_here, room_charged)

    pub table_charged : IsTable (charged c (f s) s)
    table_charged =
        grind (
          arith,
          nat_tests,
          common_steps,
          table,
          length_changed,
          length_with,
          look_changed,
          account_is,
          ends,
          below_quota,
        )

  pub table_credited : (s n : ℕ) → IsTable (credited c (f s) s n)
  table_credited s n = grind (arith, nat_tests, common_steps, table, length_changed, length_with, look_changed)

  pub room_credited : (s n : ℕ) → n ≤ stored_in c s → (e : ℕ) → covers q (f s) e ≡ true → n ≤ load_in c e
  room_credited s n some e covered =
      omega (arith, stored_below s e (covered_there q c.directories (f s) e (there s) covered) covered)

pub counts_used : (nodes : List Node) (c : CellMaps) → Fits nodes c → HasChains (shapes nodes) → CountsUsed nodes c
counts_used nodes c fits chains a a_there = elim (cases_Bool (is_an_account (quota_in c) a)) [
  | inr isnt ↦ rw isnt refl
  | inl is ↦
      rw is (fits.loads a a_there ∙ weigh_same (λ k. covers (quota_in c) (above (shapes nodes) k) a)
      (λ k. eqb (account (quota_in c) (above (shapes nodes) k)) a) c.segments c.stored
      (λ k h. (let seg : is_segment nodes k ≡ true = sym (on_segments nodes fits k) ∙ h in
      account_is (quota_in c) (above (shapes nodes) k) a (chains.segments k (uid_shape nodes k ∙ segment_in nodes k seg)
      (directory_shape nodes k ∙ segment_not nodes k seg)) is)))
]

-- ---- what the code leaves

pub not_full : (c : CellMaps) (up : List ℕ) → charge_fault c up ≡ Ok tt
    → load_in c (account (quota_in c) up) ≢ quota_in c (account (quota_in c) up)
not_full c up e same = (let full = eq-eqb _ _ same in
    let z = rw full at e in cc)
