-- Lists of ready processes, of what is held, and of processors, as they are changed in place.
use Rattle.std.proofs.lemmas.Grind.{common_steps}
use Rattle.custody.proofs.Prelude.{nat_tests, ◌≡◌, ◌≢◌, ◌<◌, ◌≤◌, ◌+◌, ℕ, Bool, true, false, not, cond, eqb, List, [], ◌∷◌, ◌++◌, Option, None, get_or, length, set, take, refl, sym, ap, ◌∙◌, arith, length-set, append-nil, append_assoc, ext_get_or, filter, eqb_tells, get_or-set_same, get_or-set_other, What, Seat, offline, range, FrameUse, DescriptorUse, frame_at, seat_at, dropped, names_held, names_use, warn_from, warned, range_end}
use Rattle.laws.proofs.Lists.{get_or_any}
use Rattle.custody.proofs.AdvanceLaws.{warn_at, warn_length}

-- ---- the ready list

pub unpushed : (b : Bool) (old new xs : List ℕ) → new ≡ cond b xs old → b ≡ false → new ≡ old
unpushed b old new xs e f = rw f at e

pub pushed : (b : Bool) (old new xs : List ℕ) → new ≡ cond b xs old → b ≡ true → new ≡ xs
pushed b old new xs e f = rw f at e

front : {X : Type 0} (xs ys : List X) → take (length xs) (xs ++ ys) ≡ xs
front [] ys = refl
front (x ∷ xs) ys = ap (λ (zs : List _). x ∷ zs) (front xs ys)

-- a list is cut back to what it began with
pub cut_back : {X : Type 0} (n l : ℕ) (xs ys zs ws : List X) → ws ≡ take n zs → n ≡ l → l ≡ length xs → zs ≡ xs ++ ys
    → ws ≡ xs
cut_back n l xs ys zs ws e a b f = e ∙ (λ i. take ((a ∙ b) i) (f i)) ∙ front xs ys

pub none_released : (xs : List ℕ) → xs ≡ xs ++ range 1 0
none_released xs = sym (append-nil xs)

pub one_released : (n : ℕ) (xs before after : List ℕ) → before ≡ xs ++ range 1 n → after ≡ before ++ (n + 1) ∷ []
    → after ≡ xs ++ range 1 (n + 1)
one_released n xs before after e f =
    grind (arith, nat_tests, common_steps, range_end 1 n, append_assoc xs (range 1 n) ((n + 1) ∷ []))

-- ---- a processor without a process drops no descriptor

all_kept : (xs : List ℕ) → xs ≡ filter (λ n. not false) xs
all_kept [] = refl
all_kept (x ∷ xs) = ap (λ (ys : List ℕ). x ∷ ys) (all_kept xs)

none_named : (rows : List (List DescriptorUse)) (w : What) (o : Option ℕ) (xs : List ℕ) → o ≡ None → xs
    ≡ filter (λ n. not (names_held rows w o n)) xs
none_named rows w o xs e = rw e (all_kept xs)

pub dropped_idle : (frames : List FrameUse) (rows : List (List DescriptorUse)) (w : What) (s : Seat) (pages : List ℕ)
    → s.process ≡ None
    → pages ≡ filter (λ f. not (names_use w f (frame_at frames f))) s.pages → record s { pages = pages }
    ≡ dropped frames rows w s
dropped_idle frames rows w s pages none is = λ i. record s
    { segs = none_named rows w s.process s.segs none i; pages = is i }

-- ---- processors told one after the other

pub record WarnedBelow (d : ℕ) (w : What) (n : ℕ) (old new : List Seat) : Type 0 where
  pub size : length new ≡ length old
  pub below : (j : ℕ) → j < n → seat_at new j ≡ cond (eqb j d) (seat_at old j) (warned w (seat_at old j))
  pub rest : (j : ℕ) → n ≤ j → seat_at new j ≡ seat_at old j

pub none_warned : (d : ℕ) (w : What) (old new : List Seat) → new ≡ old → WarnedBelow d w 0 old new
none_warned d w old new e = grind (arith, nat_tests, common_steps)

pub one_warned : (d : ℕ) (w : What) (n : ℕ) (old mid new : List Seat) (s t : Seat) → n < length mid → n ≢ d
    → WarnedBelow d w n old mid
    → s ≡ get_or mid n s → t ≡ warned w s → new ≡ set mid n t → WarnedBelow d w (n + 1) old new
one_warned d w n old mid new s t l other h is told made =
    grind (arith, nat_tests, common_steps, length-set, eqb_tells, get_or-set_same, get_or_any, get_or-set_other)

pub one_passed : (d : ℕ) (w : What) (n : ℕ) (old mid new : List Seat) → n ≡ d → WarnedBelow d w n old mid → new ≡ mid
    → WarnedBelow d w (n + 1) old new
one_passed d w n old mid new this h made = grind (arith, nat_tests, common_steps, eqb_tells)

pub all_warned : (d : ℕ) (w : What) (n : ℕ) (old new : List Seat) → length new ≤ n → WarnedBelow d w n old new → new
    ≡ warn_from d w 0 old
all_warned d w n old new all h = ext_get_or offline new (warn_from d w 0 old) (h.size ∙ sym (warn_length d 0 w old))
    (λ j l.
    let z : 0 + j ≡ j = omega arith in
    h.below j (omega (arith, l, all))
    ∙ ap (λ (i : ℕ). cond (eqb i d) (seat_at old j) (warned w (seat_at old j))) (sym z) ∙ sym (warn_at d 0 j w old))
