-- Whether a stored page is all zeros.
use Rattle.std.proofs.lemmas.Grind.{common_steps}
use Rattle.flat_store.proofs.Prelude.{nat_tests, ◌≡◌, ℕ, suc, zero, ◌<◌, arith, Bool, true, false, cond, List, [], ◌∷◌, Option, Some, None, IsTrue, ◌↔◌, is_some, All, refl, sym, ap, subst, ◌∙◌, IfNone, IfSome, IsSomeAnd, slice_get, Decides, AreZero, Plan, MayRelease, Store, Held, Holds, Paged, is_key, page_at, HasZeroPage, KeepsZeroPage, zero_words}
use Rattle.laws.proofs.Lists.{get_or_any}
use Rattle.flat_store.proofs.DropLaws.{held_inside, word_at}
use Rattle.flat_store.proofs.ReleaseLaws.{may_release}

-- a page of zeros is among those that are still to come
abbrev pub StillToCome : Paged → Paged → Type 0
StillToCome pages rest = (u q : ℕ) (ws : List ℕ) → page_at pages u q ≡ Some ws → AreZero ws → page_at rest u q ≡ Some ws

pub all_to_come : (pages : Paged) → StillToCome pages pages
all_to_come pages u q ws found zeros = found

pub passed_over : (pages rest left : Paged) (k : ℕ × ℕ) (w : List ℕ) → rest ≡ (k, w) ∷ left → (AreZero w → ⊥)
    → StillToCome pages rest → StillToCome pages left
passed_over pages rest left k w is other h u q ws found zeros =
    here (is_key u q k) refl (sym (ap (λ (x : Paged). page_at x u q) is) ∙ h u q ws found zeros)
  where
    here : (z : Bool) → is_key u q k ≡ z → cond (is_key u q k) (Some w) (page_at left u q) ≡ Some ws → page_at left u q
        ≡ Some ws
    here true e got = let same : w ≡ ws = cc in absurd (other (subst AreZero (sym same) zeros))
    here false e got = sym (rw e refl) ∙ got

pub none_left : (pages : Paged) → StillToCome pages [] → KeepsZeroPage pages → ⊥
unfolding KeepsZeroPage
none_left pages h (u, q, there) = grind (arith, nat_tests, common_steps)

-- an element that stands at a place
pub all_at : {A : Type 0} (P : A → Type 0) (xs : List A) (i : ℕ) (x : A) → slice_get xs i ≡ Some x → All P xs → P x
all_at P [] i x at all = absurd cc
all_at P (y ∷ ys) zero x at all = let same : y ≡ x = cc in subst P same (all 0 y (omega arith))
all_at P (y ∷ ys) (suc i) x at all = all_at P ys i x at (λ k d lt. all (suc k) d (omega arith))

pub found_zero : {pages now : Paged} (u q : ℕ) {ws : List ℕ} {r : Bool} → pages ≡ now → page_at pages u q ≡ Some ws
    → (IsTrue r ↔ AreZero ws) → r ≡ true → IsSomeAnd (page_at now u q) AreZero
found_zero u q is found told zeros = rw (← is, found) (told.0 zeros)

-- what is kept is what is stored
pub kept_zero_told : {p : Plan} {s : Store} {h now : Held} (at : Option (ℕ × ℕ)) → h ≡ now → Holds p now s
    → IfSome at (λ k. IsSomeAnd (page_at h.pages k.0 k.1) AreZero) → IfSome at (λ k. MayRelease s k.0 k.1)
kept_zero_told None same holds told = tt
kept_zero_told {s = s} {h} (Some k) same holds told = each (page_at h.pages k.0 k.1) refl told
  where
    each : (x : Option (List ℕ)) → page_at h.pages k.0 k.1 ≡ x → IsSomeAnd x AreZero → MayRelease s k.0 k.1
    each None e z = absurd z
    each (Some ws) e z = (may_release k.0 k.1 true (held_inside same holds) e (λ t. z, λ t. refl)).0 refl

pub no_zero_told : {p : Plan} {s : Store} {h now : Held} (at : Option (ℕ × ℕ)) → h ≡ now → Holds p now s
    → IfNone at (KeepsZeroPage h.pages → ⊥) → IfNone at (HasZeroPage s → ⊥)
unfolding HasZeroPage KeepsZeroPage
no_zero_told (Some k) same holds told = tt
no_zero_told {s = s} {h} None same holds told = λ (u, q, may). told (u, q, each u q may (page_at h.pages u q) refl)
  where
    each : (u q : ℕ) → MayRelease s u q → (x : Option (List ℕ)) → page_at h.pages u q ≡ x → IsSomeAnd x AreZero
    each u q may None e =
        let clash : true ≡ false = sym may.there ∙ rw ((held_inside same holds).pages.there u q, e) refl in cc
    each u q may (Some ws) e = λ i d lt.
        let pages = (held_inside same holds).pages in
        let below : i < 1024 = (let size = pages.sizes u q ws e in omega (arith, lt)) in
        get_or_any ws i d 0 lt ∙ sym (word_at u q pages e i below) ∙ zero_words s.words u q i may.zeros below

-- that there is a stored page of zeros, by the look for the first
pub zero_decides : (s : Store) (at : Option (ℕ × ℕ)) → IfSome at (λ k. MayRelease s k.0 k.1)
    → IfNone at (HasZeroPage s → ⊥) → Decides (is_some at) (HasZeroPage s)
unfolding HasZeroPage
zero_decides s None found none = (λ e. let z : false ≡ true = e in cc, λ has. absurd (none has))
zero_decides s (Some k) found none = (λ e. (k.0, k.1, found), λ has. refl)

-- what the proof of `zero_page` is given
pub ruleset zero_page_steps = (all_to_come, passed_over, none_left)
