-- What tree commands leave as it is.
use Rattle.storage_ops.proofs.Prelude.{get_or-set_other, nat_tests, cases_eq, ne_eqb, ◌≢◌, ◌+◌, ◌*◌, ◌/◌, ◌%◌, ◌≤◌, nat_le, ◌||◌, [], arith, inl, inr, ◌≡◌, ℕ, Bool, true, false, eqb, ◌&&◌, List, Option, Some, None, refl, sym, ap, ◌∙◌, AccountMaps, VtocEntry, Entry, IsOneToOne, deactivated, uid_in_place, Ptw, Home, erased, binding_at, bindings, plain, Links, IsInactive, CutsPages, KeepsRest, TakesOut, Unstores, unbound, Storage, with_known, with_vtocs, from_first}
use Rattle.storage_ops.proofs.Less.{was_active}
use Rattle.storage_ops.proofs.Removed.{inactive_now}
use Rattle.storage_ops.proofs.Unstored.{unstores_both}

pub rest_both : {D : Type 0} {old mid new : Storage D} → KeepsRest old mid → KeepsRest mid new → KeepsRest old new
rest_both x y = record {
  descriptors = cc;
  trailers = cc;
  moving = cc;
  whos = cc;
  drives = cc;
  reads = cc;
  sizes = cc;
  hands = cc;
  active = λ place u e. x.active place u (y.active place u e);
  bound = λ f u q e. x.bound f u q (y.bound f u q e);
}

was_bound : (uid : ℕ) (test : ℕ → Bool) (o : Option (ℕ × ℕ)) (u q : ℕ) → unbound uid test o ≡ Some (u, q)
    → o ≡ Some (u, q)
was_bound uid test o u q h1 = grind arith

pub rest_unstored : {D : Type 0} (old new : Storage D) (u : ℕ) (test : ℕ → Bool) → Unstores old new u test
    → KeepsRest old new
rest_unstored {D} old new u test x =
    assumption (ap (λ (l : Links). l.descriptors) x.links, ap (λ (l : Links). l.trailers) x.links, active, bound)
  where
    active : (place v : ℕ) → uid_in_place new.segs.ast.entries place ≡ Some v
        → uid_in_place old.segs.ast.entries place ≡ Some v
    active place v e = rw x.places at e

    bound : (f v q : ℕ) → binding_at (bindings new.segs.pages.core) f ≡ Some (v, q)
        → binding_at (bindings old.segs.pages.core) f ≡ Some (v, q)
    bound f v q e = was_bound u test (binding_at (bindings old.segs.pages.core) f) v q (sym (x.bound f) ∙ e)

-- whatever the tree, the VTOCs, what numbers stand for and the page tables are, where nothing has become active
rest_left : {D : Type 0} (old new : Storage D) (a : AccountMaps) (vtocs : List (List (Option VtocEntry)))
    (known : List (List (Option ℕ))) (entries : List (Option Entry)) (tables : List (List Ptw))
    → ((place u : ℕ) → uid_in_place entries place ≡ Some u → uid_in_place old.segs.ast.entries place ≡ Some u)
    → new ≡ record old {
      accounts = a;
      segs = record (with_vtocs (with_known old known).segs vtocs) {
        ast = record old.segs.ast { entries = entries; tables = tables };
      };
    } → KeepsRest old new
rest_left {D} old new a vtocs known entries tables active is = rw is (assumption active)

pub rest_none : {D : Type 0} (t : Storage D) → KeepsRest t t
rest_none t = rest_left t t t.accounts t.segs.pages.volumes.vtocs t.segs.links.known t.segs.ast.entries
    t.segs.ast.tables (λ place u e. e) refl

-- the tree alone
pub rest_accounts : {D : Type 0} {old new : Storage D} (a : AccountMaps) → new ≡ record old { accounts = a }
    → KeepsRest old new
rest_accounts {old} {new} a is = rest_left old new a old.segs.pages.volumes.vtocs old.segs.links.known
    old.segs.ast.entries old.segs.ast.tables (λ place u e. e) is

-- the tree and the VTOCs
pub rest_made : {D : Type 0} {old new : Storage D} (a : AccountMaps) (vtocs : List (List (Option VtocEntry)))
    → new ≡ record old { accounts = a; segs = with_vtocs old.segs vtocs } → KeepsRest old new
rest_made {old} {new} a vtocs is = rest_left old new a vtocs old.segs.links.known old.segs.ast.entries
    old.segs.ast.tables (λ place u e. e) is

-- what numbers stand for
pub rest_known : {D : Type 0} {old new : Storage D} (known : List (List (Option ℕ))) → new ≡ with_known old known
    → KeepsRest old new
rest_known {old} {new} known is = rest_left old new old.accounts old.segs.pages.volumes.vtocs known old.segs.ast.entries
    old.segs.ast.tables (λ place u e. e) is

-- a segment less is active
pub rest_inactive : {D : Type 0} {old new : Storage D} (place : ℕ)
    → new ≡ record old { segs = record old.segs { ast = deactivated old.segs.ast place } } → KeepsRest old new
rest_inactive {old} {new} place is = rest_left old new old.accounts old.segs.pages.volumes.vtocs old.segs.links.known
    (deactivated old.segs.ast place).entries (deactivated old.segs.ast place).tables
    (λ q u e. was_active old.segs.ast.entries place q e) is

-- a home is free
pub rest_erased : {D : Type 0} (drive : D → List (List ℕ)) {t n : Storage D} (home : Home)
    → plain drive n.segs.pages ≡ erased (plain drive t.segs.pages) home → n.segs.ast ≡ t.segs.ast
    → n.segs.links ≡ t.segs.links → n.segs.moving ≡ t.segs.moving → n.whos ≡ t.whos
    → n.segs.pages.volumes.drives ≡ t.segs.pages.volumes.drives → KeepsRest t n
rest_erased drive home effect ast links moving whos drives = grind arith

-- ---- the pages that a cut takes

pub cuts_even : {D : Type 0} {old new : Storage D} {u words : ℕ} → Unstores old new u (λ q. nat_le (words / 1024) q)
    → CutsPages old new u words
cuts_even {words} x = record {
  test = λ q. nat_le (words / 1024) q;
  within = λ q on. grind (arith, nat_tests);
  past = λ q le. (let at : words / 1024 ≤ q = omega arith in grind (arith, nat_tests));
  unstores = x;
}

pub cuts_odd : {D : Type 0} {old mid new : Storage D} {u words : ℕ} (lost : Bool) → words % 1024 ≢ 0
    → Unstores old mid u (λ q. nat_le (words / 1024 + 1) q)
    → Unstores mid new u (λ q. lost && eqb q (words / 1024)) → CutsPages old new u words
cuts_odd {old} {mid} {new} {u} {words} lost odd x y = record {
  test = λ q. nat_le (words / 1024 + 1) q || (lost && eqb q (words / 1024));
  within = λ q on. within q (nat_le (words / 1024 + 1) q) refl lost (eqb q (words / 1024)) refl on;
  past = λ q le. past q le;
  unstores = unstores_both x y;
}
  where
    within : (q : ℕ) (a : Bool) → nat_le (words / 1024 + 1) q ≡ a → (b c : Bool) → eqb q (words / 1024) ≡ c
        → (a || (b && c)) ≡ true → words / 1024 ≤ q
    within q true e b c f on = (let le : words / 1024 + 1 ≤ q = grind (arith, nat_tests) in omega arith)
    within q false e true true f on = (let is : q ≡ words / 1024 = grind (arith, nat_tests) in omega arith)
    within q false e true false f on = cc
    within q false e false c f on = cc

    past : (q : ℕ) → words ≤ 1024 * q → (nat_le (words / 1024 + 1) q || (lost && eqb q (words / 1024))) ≡ true
    past q le =
        let at : words / 1024 + 1 ≤ q = omega arith in
        let on : nat_le (words / 1024 + 1) q ≡ true = grind (arith, nat_tests) in rw on refl

-- ---- what is taken out

pub out_active : {D : Type 0} (old mid new : Storage D) (place u : ℕ) → IsOneToOne old.segs.ast.entries
    → uid_in_place old.segs.ast.entries place ≡ Some u → Unstores old mid u (λ q. nat_le 0 q)
    → new ≡ record mid { segs = record mid.segs { ast = deactivated mid.segs.ast place } } → TakesOut old new u
out_active {D} old mid new place u once at x is = rw is (record {
  inactive = rw x.places (inactive_now old.segs.ast.entries place u once at);
  entries = λ p apart. cc (get_or-set_other mid.segs.ast.entries place p None None (other p apart), x.places);
  tables = λ p apart. get_or-set_other mid.segs.ast.tables place p _ [] (other p apart) ∙ x.tables p apart;
  bound = λ f. x.bound f
      ∙ ap (λ (t : ℕ → Bool). unbound u t (binding_at (bindings old.segs.pages.core) f)) (λ i. λ q. from_first q i);
})
  where
    other : (p : ℕ) → uid_in_place old.segs.ast.entries p ≢ Some u → p ≢ place
    other p apart same = apart (ap (uid_in_place old.segs.ast.entries) same ∙ at)

-- a segment that isn't active has no page in a frame
pub out_inactive : {D : Type 0} {t : Storage D} {u : ℕ} → IsInactive t.segs.ast.entries u
    → ((f q : ℕ) → binding_at (bindings t.segs.pages.core) f ≢ Some (u, q)) → TakesOut t t u
out_inactive {t} {u} inactive unframed = record {
  inactive = inactive;
  entries = λ p apart. refl;
  tables = λ p apart. refl;
  bound = λ f. by f (binding_at (bindings t.segs.pages.core) f) refl;
}
  where
    by : (f : ℕ) (o : Option (ℕ × ℕ)) → binding_at (bindings t.segs.pages.core) f ≡ o → o ≡ unbound u (λ q. true) o
    by f None e = refl
    by f (Some x) e = elim (cases_eq x.0 u) [
      | inl same ↦ absurd (unframed f x.1 (e ∙ ap (λ (n : ℕ). Some (n, x.1)) same))
      | inr apart ↦ rw (ne_eqb x.0 u apart) refl
    ]

pub out_still : {D : Type 0} {old mid new : Storage D} {u : ℕ} → TakesOut old mid u → new.segs.ast ≡ mid.segs.ast
    → new.segs.pages.core ≡ mid.segs.pages.core → TakesOut old new u
out_still x ast core = record {
  inactive = rw ast x.inactive;
  entries = rw ast x.entries;
  tables = rw ast x.tables;
  bound = rw core x.bound;
}
