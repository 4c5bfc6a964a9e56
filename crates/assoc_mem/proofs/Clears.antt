-- What dropping leaves where it drops nothing, or everything.
use Rattle.std.proofs.Common.{◌≡◌, ℕ, ◌==◌, Bool, true, false, not, cond, List, [], ◌∷◌, filter, refl, ap, ◌||◌}
use Rattle.std.specs.List.{list_any}
use Rattle.assoc_mem.specs.declared.HeldSeg.{HeldSeg}
use Rattle.assoc_mem.specs.declared.HeldPage.{HeldPage}
use Rattle.assoc_mem.specs.declared.What.{What}
use Rattle.assoc_mem.specs.declared.What.TheVariants.{All, Page}
use Rattle.assoc_mem.specs.Held.{Held, cleared}

pub none_dropped : {X : Type 0} (p : X → Bool) (xs : List X) → list_any p xs ≡ false → xs ≡ filter (λ x. not (p x)) xs
none_dropped p [] h = refl
none_dropped {X} p (x ∷ xs) h = kept (none_dropped p xs) (p x) h
  where
    kept : (list_any p xs ≡ false → xs ≡ filter (λ y. not (p y)) xs) → (b : Bool) → (b || list_any p xs) ≡ false
        → x ∷ xs ≡ cond (not b) (x ∷ filter (λ y. not (p y)) xs) (filter (λ y. not (p y)) xs)
    kept ih true h = absurd (cc)
    kept ih false h = ap (λ (ys : List X). x ∷ ys) (ih h)

all_dropped : {X : Type 0} (xs : List X) → [] ≡ filter (λ x. false) xs
all_dropped [] = refl
all_dropped (x ∷ xs) = all_dropped xs

all_kept : {X : Type 0} (xs : List X) → xs ≡ filter (λ x. true) xs
all_kept [] = refl
all_kept {X} (x ∷ xs) = ap (λ (ys : List X). x ∷ ys) (all_kept xs)

pub all_cleared : (old : Held) (segs : List HeldSeg) (pages : List HeldPage) (w : What) → w ≡ All → segs ≡ []
    → pages ≡ [] → record { segs = segs; pages = pages } ≡ cleared old w
all_cleared old segs pages w is s p =
    rw (is, s, p) (let a = all_dropped old.segs in let b = all_dropped old.pages in cc)

pub page_cleared : (old : Held) (segs : List HeldSeg) (before pages : List HeldPage) (w : What) (frame : ℕ)
    → record { segs = segs; pages = before } ≡ old → w ≡ Page frame
    → pages ≡ filter (λ entry. not (entry.frame == frame)) before
    → record { segs = segs; pages = pages } ≡ cleared old w
page_cleared old segs before pages w frame shown is left =
    rw (is, ← shown, left) (let a = all_kept segs in cc)
