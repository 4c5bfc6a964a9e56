-- The first account above its quota once quota has moved down to a directory, or up from it.
use Rattle.quota_cells.proofs.Prelude.{common_steps, ◌≡◌, ◌≢◌, ℕ, ◌+◌, ◌-◌, ◌<◌, ◌≤◌, Bool, true, false, eqb, ltb, not, ◌&&◌, ◌||◌, if◌then◌else◌, List, [], ◌∷◌, length, Option, Some, None, Result, Ok, refl, sym, ap, ◌∙◌, arith, get_or, inl, inr, cases_Bool, cases_eq, both_ways, eqb-true, eq-eqb, ne_eqb, and_parts, or_left, false_from_ne_true, le-ltb, above, account, Node, is_directory, shapes, HasChains, AreUnder, IsChain, EndsAtRoot, AreDirectories, has, covers, CellMaps, quota_in, load_in, is_over, first_over, move_answer, over_answer, moved, superior_of, giver_of, MoveFault, uid_shape, directory_in, directory_shape, under_more, Fits, IsTable, on_directories, LiesIn, nat_tests}
use Rattle.quota_cells.proofs.PlaceLaws.{covers_under, covers_not}
use Rattle.quota_cells.proofs.AccountLaws.{account_is, account_covers, account_of_chain}
use Rattle.quota_cells.proofs.FitLaws.{Settled, account_here, ends_at}
use Rattle.quota_cells.proofs.OverLaws.{Moving, both_changed, first_passes, load1_falls, load1_stays, load2_rises, load2_stays, none_passes, one_changed, over_who, q1_g, q1_other, q2_g, q2_other, q2_v}

account_above : (q r : ℕ → ℕ) (x : ℕ) (xs : List ℕ) → ((y : ℕ) → y ≢ x → r y ≡ q y) → AreUnder x xs
    → account r xs ≡ account q xs
account_above q r x [] same a = refl
account_above q r x (y ∷ ys) same a = (let here : r y ≡ q y = same y (λ z. (omega arith)) in
    rw (here, account_above q r x ys same a.1) refl)

-- what stands above a directory that isn't the root
pub record IsBelow (nodes : List Node) (d s : ℕ) : Type 0 where
  pub chain : above (shapes nodes) d ≡ s ∷ above (shapes nodes) s
  pub below : s < d
  pub directory : is_directory nodes s ≡ true

top_of : (nodes : List Node) (d : ℕ) (xs : List ℕ) → above (shapes nodes) d ≡ xs → EndsAtRoot xs
    → IsChain (above (shapes nodes)) xs → AreUnder d xs
    → AreDirectories (shapes nodes) xs → IsBelow nodes d (get_or (above (shapes nodes) d) 0 0)
top_of nodes d [] e ends chain under dirs = absurd ends
top_of nodes d (x ∷ xs) e ends chain under dirs =
    let is : get_or (above (shapes nodes) d) 0 0 ≡ x = ap (λ (ys : List ℕ). get_or ys 0 0) e in
    rw is (record {
      chain = cc;
      below = under.0;
      directory = cc (directory_shape nodes x);
    })

pub top : (nodes : List Node) → HasChains (shapes nodes) → (d : ℕ) → is_directory nodes d ≡ true → d ≢ 1
    → IsBelow nodes d (get_or (above (shapes nodes) d) 0 0)
top nodes chains d is ne = top_of nodes d (above (shapes nodes) d) refl
    (chains.rooted d (uid_shape nodes d ∙ directory_in nodes d is) ne) (chains.chain d)
    (chains.under d) (chains.directories d)

pub not_empty : (nodes : List Node) → HasChains (shapes nodes) → (d : ℕ) → is_directory nodes d ≡ true → d ≢ 1
    → 0 < length (above (shapes nodes) d)
not_empty nodes chains d is ne = long (above (shapes nodes) d)
    (chains.rooted d (uid_shape nodes d ∙ directory_in nodes d is) ne)
  where
    long : (xs : List ℕ) → EndsAtRoot xs → 0 < length xs
    long [] e = absurd e
    long (x ∷ xs) e = omega arith

pub top_covers : (nodes : List Node) (r : ℕ → ℕ) (d s : ℕ) → above (shapes nodes) d ≡ s ∷ above (shapes nodes) s
    → covers r (above (shapes nodes) d) s ≡ true
top_covers nodes r d s up = rw up (or_left (eqb s s) (eqb (r s) 0 && covers r (above (shapes nodes) s) s)
    (eq-eqb s s refl))

-- a directory that isn't the root, below the one that it lies in, and pages that are to move between them
pub record Between (nodes : List Node) (c : CellMaps) (d s n : ℕ) : Type 0 where
  pub settled : Settled nodes c
  pub up : above (shapes nodes) d ≡ s ∷ above (shapes nodes) s
  pub here_d : has c.directories d ≡ true
  pub here_s : has c.directories s ≡ true
  pub below : s < d
  pub some : 0 < n

pub between_of : {nodes : List Node} {c : CellMaps} {d s n : ℕ} → IsTable c → Fits nodes c → LiesIn nodes d s → 0 < n
    → Between nodes c d s n
between_of {nodes} {d = d} {s = s} table fits lies some = record {
  settled = assumption;
  up = lies.chain;
  here_d = on_directories nodes fits d ∙ lies.directory;
  here_s = on_directories nodes fits s ∙ lies.upper;
  below = lies.below;
  some = some;
}

-- ---- down to the directory

module _ {nodes : List Node} {c : CellMaps} {d s n : ℕ} (between : Between nodes c d s n)
    (enough : n ≤ quota_in c s) where
  open between use {up, here_d, here_s, below, some, settled.{table, fits, chains}}

  abbrev f : ℕ → List ℕ
  f = above (shapes nodes)

  abbrev q : ℕ → ℕ
  q = quota_in c

  abbrev m1 : CellMaps
  m1 = one_changed nodes c d n

  abbrev m2 : CellMaps
  m2 = both_changed nodes c d s n

  pub moving : Moving nodes c d s n
  moving = record {
    settled = between.settled;
    other = λ e. omega arith;
    here_g = here_d;
    here_v = here_s;
    some = some;
    enough = enough;
  }

  abbrev left : ℕ
  left = if eqb (q d) 0 then load_in c s - load_in c d else load_in c s

  pub down_is : superior_of f d ≡ s → move_answer c f d true n ≡ over_answer (first_over m2)
  down_is is = rw is (rw (le-ltb (q s) n enough) refl)

  load1_s : load_in m1 s ≡ left
  load1_s = grind (arith, nat_tests, common_steps, load1_falls, moving, here_s, top_covers, up, load1_stays)

  load1_d : load_in m1 d ≡ load_in c d
  load1_d = grind (arith, nat_tests, common_steps, load1_falls, moving, here_d, covers_not, load1_stays)

  load_s : load_in m2 s ≡ left
  load_s = grind (arith, nat_tests, common_steps, load2_rises, moving, here_s, covers_not, load1_s, load2_stays)

  not_above : covers (quota_in m1) (f s) d ≡ false
  not_above = false_from_ne_true _ (λ is. (omega (arith, covers_under (quota_in m1) s (f s) d (chains.under s) is)))

  load_d : load_in m2 d ≡ load_in c d
  load_d = grind (arith, nat_tests, common_steps, load2_rises, moving, here_d, not_above, load1_d, load2_stays)

  -- the account above
  abbrev x : ℕ
  x = account q (f s)

  x_is : account (quota_in m1) (f s) ≡ x
  x_is = account_above q (quota_in m1) d (f s) (q1_other moving) (under_more d s (f s) below (chains.under s))

  load1_above : (b : ℕ) → has c.directories b ≡ true → b < s → load_in m1 b ≡ load_in c b
  load1_above b h lt = grind (arith, nat_tests, common_steps, load1_stays, moving, up, load1_falls)

  x_covers : s ≢ 1 → covers (quota_in m1) (f s) x ≡ true
  x_covers ne = rw x_is at (account_covers (quota_in m1) (f s) (ends_at between.settled s here_s ne))

  x_below : s ≢ 1 → x < s
  x_below ne = covers_under (quota_in m1) s (f s) x (chains.under s) (x_covers ne)

  x_there : s ≢ 1 → has c.directories x ≡ true
  x_there ne = account_here between.settled s (ends_at between.settled s here_s ne)

  load_x : q s ≡ n → s ≢ 1 → load_in m2 x ≡ load_in c x + left
  load_x all ne =
      grind (arith, nat_tests, common_steps, load2_rises, moving, x_there, x_covers, load1_above, x_below, load1_s)

  over_x : q s ≡ n → s ≢ 1 → is_over m2 x ≡ ltb (q x) (load_in c x + left)
  over_x all ne =
      let quota = q2_other moving x (λ e. omega (arith, x_below ne)) (λ e. omega (arith, x_below ne)) in
      rw (quota, load_x all ne, account_of_chain q (f s)) refl

  pub over_s : is_over m2 s ≡ ((eqb s 1 || not (eqb (q s - n) 0)) && ltb (q s - n) left)
  over_s = rw (q2_v moving, load_s) refl

  pub over_d : is_over m2 d ≡ ltb (q d + n) (load_in c d)
  over_d = rw (q2_g moving, load_d, ne_eqb (q d + n) 0 (λ e. omega arith))
      (elim (cases_Bool (eqb d 1)) [ inl t ↦ rw t refl | inr u ↦ rw u refl ])

  -- no other directory is above its quota
  who : (b : ℕ) → has c.directories b ≡ true → (b ≡ d → is_over m2 d ≡ false) → (b ≡ s → is_over m2 s ≡ false)
      → (q s ≡ n → s ≢ 1 → b ≡ x → is_over m2 x ≡ false) → is_over m2 b ≡ false
  who b h not_d not_s not_x = false_from_ne_true _ (λ over. elim (over_who moving b h over) [
    | inl at_d ↦ both_ways (is_over m2 b) (rw at_d (not_d at_d)) over
    | inr rest ↦ elim rest [
      | inl at_s ↦ both_ways (is_over m2 b) (rw at_s (not_s at_s)) over
      | inr w ↦
          (let not_root : s ≢ 1 = λ e. both_ways (covers (quota_in m1) (f s) b) (rw (e, chains.root) refl) w.1 in
          let is_x : account (quota_in m1) (f s) ≡ b = eqb-true _ _ (sym (account_is (quota_in m1) (f s) b
          (ends_at between.settled s here_s not_root) w.2) ∙ w.1) in
          let at_x : b ≡ x = sym is_x ∙ x_is in
          both_ways (is_over m2 b) (rw at_x (not_x w.0 not_root at_x)) over)
    ]
  ])

  first_is_x : q s ≡ n → s ≢ 1 → is_over m2 x ≡ true → first_over m2 ≡ Some x
  first_is_x all ne over = grind (arith, nat_tests, common_steps, x_below, first_passes, x_there, who)

  pub first_is_s : (q s ≡ n → s ≢ 1 → is_over m2 x ≡ false) → is_over m2 s ≡ true → first_over m2 ≡ Some s
  first_is_s not_x over = first_passes (is_over m2) c.directories s table.rising here_s over (λ b h lt. who b h
      (λ e. absurd (omega arith)) (λ e. absurd (omega arith)) (λ all ne e. not_x all ne))

  pub first_is_d : (q s ≡ n → s ≢ 1 → is_over m2 x ≡ false) → is_over m2 s ≡ false → is_over m2 d ≡ true
      → first_over m2 ≡ Some d
  first_is_d not_x not_s over = first_passes (is_over m2) c.directories d table.rising here_d over (λ b h lt. who b h
      (λ e. absurd (omega arith)) (λ e. not_s) (λ all ne e. not_x all ne))

  pub none_down : (q s ≡ n → s ≢ 1 → is_over m2 x ≡ false) → is_over m2 s ≡ false → is_over m2 d ≡ false
      → first_over m2 ≡ None
  none_down not_x not_s not_d = none_passes (is_over m2) c.directories
      (λ b h. who b h (λ e. not_d) (λ e. not_s) (λ all ne e. not_x all ne))

  -- the test that the code makes
  abbrev above_test : Bool
  above_test = eqb (q s - n) 0 && (not (eqb s 1) && ltb (q x) (load_in c x + left))

  pub above_yes : above_test ≡ true → first_over m2 ≡ Some x
  above_yes e = grind (arith, nat_tests, common_steps, and_parts, both_ways, first_is_x, over_x)

  pub above_no : above_test ≡ false → q s ≡ n → s ≢ 1 → is_over m2 x ≡ false
  above_no e all ne = over_x all ne ∙ (rw (eq-eqb (q s - n) 0 (omega arith), ne_eqb s 1 ne) at e)

-- ---- up from the directory

module _ {nodes : List Node} {c : CellMaps} {d s n : ℕ} (between : Between nodes c d s n)
    (enough : n ≤ quota_in c d) where
  open between use {up, here_d, here_s, below, some, settled.{table, fits, chains}}

  abbrev g : ℕ → List ℕ
  g = above (shapes nodes)

  abbrev r : ℕ → ℕ
  r = quota_in c

  abbrev u1 : CellMaps
  u1 = one_changed nodes c s n

  abbrev u2 : CellMaps
  u2 = both_changed nodes c s d n

  pub rising : Moving nodes c s d n
  rising = record {
    settled = between.settled;
    other = λ e. omega arith;
    here_g = here_s;
    here_v = here_d;
    some = some;
    enough = enough;
  }

  pub up_is : superior_of g d ≡ s → move_answer c g d false n ≡ over_answer (first_over u2)
  up_is is = rw is (rw (le-ltb (r d) n enough) refl)

  up1_s : load_in u1 s ≡ load_in c s
  up1_s = grind (arith, nat_tests, common_steps, load1_falls, rising, here_s, covers_not, load1_stays)

  up1_d : load_in u1 d ≡ load_in c d
  up1_d = elim (cases_eq (r s) 0) [
    | inl none ↦
        (let off = false_from_ne_true _ (λ is. (omega (arith, covers_under r s (g s) d (chains.under s) is))) in
        rw (load1_falls rising none d here_d, off) refl)
    | inr is ↦ load1_stays rising is d here_d
  ]

  abbrev more : ℕ
  more = if eqb (r d - n) 0 then load_in c s + load_in c d else load_in c s

  up_load_s : load_in u2 s ≡ more
  up_load_s =
      grind (arith, nat_tests, common_steps, load2_rises, rising, here_s, top_covers, up, up1_s, up1_d, load2_stays)

  up_load_d : load_in u2 d ≡ load_in c d
  up_load_d = grind (arith, nat_tests, common_steps, load2_rises, rising, here_d, covers_not, up1_d, load2_stays)

  pub up_over_s : is_over u2 s ≡ ltb (r s + n) more
  up_over_s = rw (q2_g rising, up_load_s, ne_eqb (r s + n) 0 (λ e. omega arith))
      (elim (cases_Bool (eqb s 1)) [ inl t ↦ rw t refl | inr u ↦ rw u refl ])

  pub up_over_d : d ≢ 1 → is_over u2 d ≡ (not (eqb (r d - n) 0) && ltb (r d - n) (load_in c d))
  up_over_d ne = rw (q2_v rising, up_load_d, ne_eqb d 1 ne) refl

  up_who : (b : ℕ) → has c.directories b ≡ true → (b ≡ s → is_over u2 s ≡ false) → (b ≡ d → is_over u2 d ≡ false)
      → is_over u2 b ≡ false
  up_who b h not_s not_d = false_from_ne_true _ (λ over. elim (over_who rising b h over) [
    | inl at_s ↦ both_ways (is_over u2 b) (rw at_s (not_s at_s)) over
    | inr rest ↦ elim rest [
      | inl at_d ↦ both_ways (is_over u2 b) (rw at_d (not_d at_d)) over
      | inr w ↦ elim (cases_eq b s) [
        | inl at_s ↦ both_ways (is_over u2 b) (rw at_s (not_s at_s)) over
        | inr far ↦
            (let stop = ne_eqb (quota_in u1 s) 0 (λ e. omega (arith, q1_g rising)) in
            both_ways (covers (quota_in u1) (g d) b) (rw (up, ne_eqb s b (λ e. far (sym e)), stop) refl) w.1)
      ]
    ]
  ])

  pub up_first_s : is_over u2 s ≡ true → first_over u2 ≡ Some s
  up_first_s over = first_passes (is_over u2) c.directories s table.rising here_s over
      (λ b h lt. up_who b h (λ e. absurd (omega arith)) (λ e. absurd (omega arith)))

  pub up_first_d : is_over u2 s ≡ false → is_over u2 d ≡ true → first_over u2 ≡ Some d
  up_first_d not_s over = first_passes (is_over u2) c.directories d table.rising here_d over
      (λ b h lt. up_who b h (λ e. not_s) (λ e. absurd (omega arith)))

  pub up_none : is_over u2 s ≡ false → is_over u2 d ≡ false → first_over u2 ≡ None
  up_none not_s not_d = none_passes (is_over u2) c.directories (λ b h. up_who b h (λ e. not_s) (λ e. not_d))

-- ---- what an answer says

pub none_over : (o : Option ℕ) → over_answer o ≡ Ok tt → o ≡ None
none_over None e = refl
none_over (Some a) e = cc

pub answer_ok : (c : CellMaps) (up : ℕ → List ℕ) (d : ℕ) (b : Bool) (n : ℕ) → move_answer c up d b n ≡ Ok tt
    → (n ≤ quota_in c (giver_of up d b)) × (first_over (moved c up d b n) ≡ None)
answer_ok c up d b n e = grind (arith, nat_tests, common_steps, none_over, le-ltb)

-- the same of what a call answered, and of the numbers that it was asked with
pub may_go : (c : CellMaps) (up : ℕ → List ℕ) (d n : ℕ) (down : Bool) {r : Result (Unit {0}) MoveFault} → r
    ≡ move_answer c up d down n → r ≡ Ok tt → (b : Bool) → down ≡ b → (pages : ℕ) → pages ≡ n
    → (pages ≤ quota_in c (giver_of up d b)) × (first_over (moved c up d b pages) ≡ None)
may_go c up d n down answer ok b is pages same = answer_ok c up d b pages (rw same (rw is at (sym answer ∙ ok)))
