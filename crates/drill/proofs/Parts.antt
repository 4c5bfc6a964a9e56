-- What the keeper has of each pass once all were taken in.
use Rattle.drill.proofs.Adds.{weigh, weigh_done}
pub use Rattle.drill.proofs.Sums.{AreDone, Holder, In, List, Made, Out, PagesModel, PassModel, [], ap, arith, deed, done, get_or, get_or-set_other, get_or-set_same, last_same, last_sum, length, made_count, map, missing, parts_stay, range_same, range_sum, refl, set, subst, sym, taking_all_in, touches_in, words_mono, words_to, ℕ, ◌+◌, ◌<◌, ◌∙◌, ◌∷◌, ◌≡◌, ◌≢◌, ◌≤◌}
use mathlib.Core.Logic.{dite}
use native.Mathlib.Decide.{ℕ_discrete}

pub same_ended : (ps : List PassModel) (k : Holder) → (taking_all_in ps k).ended ≡ k.ended
same_ended [] k = refl
same_ended (p ∷ ps) k = same_ended ps k

-- the touches that the keeper has of a processor
abbrev pub touches_at : List PassModel → Holder → ℕ → List Made
touches_at ps k c = touches_in (get_or (taking_all_in ps k).parts c Out)

part_here : (p : PassModel) (ps : List PassModel) (k : Holder) (c : ℕ) → p.walker.walk.cpu ≡ c → c < length k.parts
    → touches_at (p ∷ ps) k c ≡ p.walker.made
part_here p ps k c is below =
    ap (λ i. touches_in (get_or (set (taking_all_in ps k).parts i (In p.walker.made)) c Out)) is ∙ ap touches_in
    (get_or-set_same (taking_all_in ps k).parts c (In p.walker.made) Out (omega (arith, parts_stay ps k)))

part_else : (p : PassModel) (ps : List PassModel) (k : Holder) (c : ℕ) → c ≢ p.walker.walk.cpu
    → touches_at (p ∷ ps) k c ≡ touches_at ps k c
part_else p ps k c other = ap touches_in (get_or-set_other (taking_all_in ps k).parts p.walker.walk.cpu c
    (In p.walker.made) Out other)

-- the first n adds of a processor's work, as they stand among the touches of a pass
pub record IsWorkTo (pages : PagesModel) (seed adds cpu : ℕ) (made : List Made) : Type 0 where
  pub deeds : map deed made ≡ done pages.frames (seed + cpu) (length made)
  pub few : length made ≤ adds

pub parts_work : (pages : PagesModel) (seed adds : ℕ) (ps : List PassModel) (first : ℕ) (k : Holder)
    → AreDone pages seed adds first ps → first + length ps ≤ length k.parts
    → (c : ℕ) → first ≤ c → c < first + length ps → IsWorkTo pages seed adds c (touches_at ps k c)
parts_work pages seed adds [] first k all room c from to = absurd (omega arith)
parts_work pages seed adds (p ∷ ps) first k all room c from to = dite (ℕ_discrete c first) (λ (here : c ≡ first).
    let cpu : p.walker.walk.cpu ≡ c = all.1 ∙ sym here in
    let own : IsWorkTo pages seed adds p.walker.walk.cpu p.walker.made = record { deeds = all.2.made; few = all.3 } in
    subst (IsWorkTo pages seed adds c) (sym (part_here p ps k c cpu (omega arith)))
    (subst (λ i. IsWorkTo pages seed adds i p.walker.made) cpu own)) (λ (else : c ≢ first).
    let other : c ≢ p.walker.walk.cpu = (λ is. else (is ∙ all.1)) in
    subst (IsWorkTo pages seed adds c) (sym (part_else p ps k c other))
    (parts_work pages seed adds ps (first + 1) k all.0 (omega arith) c (omega arith) (omega arith)))

-- a measure of the touches of each pass, added up
abbrev pub made_by_all : (List Made → ℕ) → List PassModel → ℕ
made_by_all measure [] = 0
made_by_all measure (p ∷ ps) = made_by_all measure ps + measure p.walker.made

-- the words that the passes added, added up
abbrev pub made_sum : List PassModel → ℕ
made_sum ps = made_by_all weigh ps

pub parts_sum : (measure : List Made → ℕ) (pages : PagesModel) (seed adds : ℕ) (ps : List PassModel) (first : ℕ)
    (k : Holder) → AreDone pages seed adds first ps → first + length ps ≤ length k.parts
    → range_sum (λ c. measure (touches_at ps k c)) first (length ps) ≡ made_by_all measure ps
parts_sum measure pages seed adds [] first k all room = refl
parts_sum measure pages seed adds (p ∷ ps) first k all room =
    let here = ap measure (part_here p ps k first all.1 (omega arith)) in
    let rest = parts_sum measure pages seed adds ps (first + 1) k all.0 (omega arith) in
    let same = range_same (λ c. measure (touches_at (p ∷ ps) k c)) (λ c. measure (touches_at ps k c)) (length ps)
    (first + 1) (λ c le. let cpu = all.1 in ap measure (part_else p ps k c (λ is. absurd (omega arith)))) in
    omega (arith, here, rest, same)

pub count_all : (ps : List PassModel) → made_by_all (λ (es : List Made). length es) ps ≡ made_count ps
count_all [] = refl
count_all (p ∷ ps) = ap (λ n. n + length p.walker.made) (count_all ps)

-- what was added and what was not is all of the work
pub made_missing : (pages : PagesModel) (seed adds first : ℕ) (ps : List PassModel) → AreDone pages seed adds first ps
    → made_sum ps + missing adds ps ≡ last_sum (λ i. words_to adds) (length ps)
made_missing pages seed adds first [] all = refl
made_missing pages seed adds first (p ∷ ps) all =
    let rest = made_missing pages seed adds (first + 1) ps all.0 in
    let own = weigh_done pages.frames (seed + p.walker.walk.cpu) (length p.walker.made) p.walker.made all.2.made in
    let mono = words_mono (length p.walker.made) adds all.3 in
    omega (arith, rest, own, mono)
