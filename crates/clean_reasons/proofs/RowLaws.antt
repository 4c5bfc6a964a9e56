-- How what rows tell of their parts tells of the whole.
use Rattle.clean_reasons.proofs.Prelude.{◌≡◌, ℕ, ◌<◌, ◌≤◌, true, false, Option, Some, None, sym, ap, subst, ◌∙◌, leb, MatchOption, IfNone, IfSome, IsSomeAnd, count_by, unwrap_or, is_some, Decides, le-leb, leb-true, Plan, Node, node_in, pool_of, Store, pool_at, superior_at, MayActivate, MayJoin, is_active_in, pool_size, AreNodes, Tables, active_at, custody_of, is_in_pool, count_active, ActiveSays, ActiveReason}
use Rattle.clean_reasons.specs.declared.reasons.ActiveReason.TheVariants as active

-- ---- active segments

-- a pool is as full as the table says
pub full : (s : Store) (t : Tables) (z m : ℕ) → AreNodes s.nodes t.active → m ≤ count_by (is_in_pool z) t.active
    → m ≤ count_by (is_active_in (custody_of t) z) s.nodes
full s t z m nodes h = subst (λ (x : ℕ). m ≤ x) (sym (count_active s.nodes t.active z nodes)) h

pub activates : (p : Plan) (s : Store) (t : Tables) (u z : ℕ) (superior pool : Option ℕ)
    → superior ≡ superior_at (node_in s.nodes u) → pool ≡ pool_at (node_in s.nodes u) → pool ≡ Some z
    → AreNodes s.nodes t.active → is_some (active_at t.active u) ≡ false
    → IfSome superior (λ v. is_some (active_at t.active v) ≡ true)
    → count_by (is_in_pool z) t.active < pool_size p z → MayActivate p s (custody_of t) u
activates p s t u z superior pool is of some nodes inactive above room = record {
  inactive = inactive;
  node = by (node_in s.nodes u) is of;
}
  where
    by : (o : Option Node) → superior ≡ superior_at o → pool ≡ pool_at o → IsSomeAnd o (MayJoin p s (custody_of t))
    by None e f = let x : Some z ≡ None = sym some ∙ f in let no : ⊥ = cc in absurd no
    by (Some n) e f =
        let same : z ≡ pool_of n = ap (λ (x : Option ℕ). unwrap_or x z) (sym some ∙ f) in record {
          superior = subst (λ (x : Option ℕ). IfSome x (λ v. is_some (active_at t.active v) ≡ true)) e above;
          room = subst (λ (y : ℕ). count_by (is_active_in (custody_of t) y) s.nodes < pool_size p y) same
              (subst (λ (x : ℕ). x < pool_size p z) (sym (count_active s.nodes t.active z nodes)) room);
        }

-- the pool of a node that is there
pub in_pool : (o : Option Node) (pool : Option ℕ) (z : ℕ) → pool ≡ pool_at o → pool ≡ Some z
    → IsSomeAnd o (λ n. pool_of n ≡ z)
in_pool None pool z e f = let x : Some z ≡ None = sym f ∙ e in let no : ⊥ = cc in absurd no
in_pool (Some n) pool z e f = ap (λ (x : Option ℕ). unwrap_or x z) (sym e ∙ f)

-- a pool's reason, by the table's count
pub pool_decides : (s : Store) (t : Tables) (z m n : ℕ) (r : ActiveReason) → r ≡ active.Pool z m
    → n ≡ count_by (is_in_pool z) t.active → AreNodes s.nodes t.active
    → Decides (leb m n) (ActiveSays s (custody_of t) r)
pool_decides s t z m n r is of nodes = subst (λ (x : ActiveReason). Decides (leb m n) (ActiveSays s (custody_of t) x))
    (sym is) (
      λ e. full s t z m nodes (subst (λ (x : ℕ). m ≤ x) of (leb-true m n e)),
      λ h. le-leb m n (subst (λ (x : ℕ). m ≤ x) (count_active s.nodes t.active z nodes ∙ sym of) h),
    )

-- ---- how rows tell of an entry

pub and_some : {X : Type 0} (P : X → Type 0) (o : Option X) (x : X) → o ≡ Some x → P x → IsSomeAnd o P
and_some P o x e h = subst (λ (y : Option _). IsSomeAnd y P) (sym e) h

pub if_some : {X : Type 0} (P : X → Type 0) (o : Option X) (x : X) → o ≡ Some x → P x → IfSome o P
if_some P o x e h = subst (λ (y : Option _). IfSome y P) (sym e) h

pub if_none : {X : Type 0} (P : X → Type 0) (o : Option X) → o ≡ None → IfSome o P
if_none P o e = subst (λ (y : Option _). IfSome y P) (sym e) tt

pub maps : {R : Type 0} (A B : Type 0) (Q : R → Type 0) (r : Option R) → (A → B) → MatchOption r A Q → MatchOption r B Q
maps A B Q None f h = f h
maps A B Q (Some x) f h = h

pub both_tell : {R : Type 0} (A B C : Type 0) (Q : R → Type 0) (r : Option R) → (A → B → C) → IfNone r A → IfNone r B
    → IfSome r Q → MatchOption r C Q
both_tell A B C Q None f a b h = f a b
both_tell A B C Q (Some x) f a b h = h
