-- What the end hands out.
pub use Rattle.live_pages.proofs.Ends.{All, All-append, All-pop, AllIn, AreAll, Bool, EndIsLegal, Final, Free, HavePages, Held, Holder, In, InOrder, IsLeftAfterAll, IsPassOf, IsTrue, KeeperModel, Keeping, List, Made, None, Option, Out, PagesModel, PassModel, Seat, Seen, Size, Some, [], all_bindings, all_in_is_legal, ap, arith, ended_bindings, false, filled, get_or, get_or-set_other, get_or-set_same, get_or_append_left, get_or_push, last_are_left, last_bindings, length, length-set, length_push, option_to_list, page_given, refl, rules, set, slots_items, suc, sym, taking_all_in, taking_in, zero, ℕ, ◌++◌, ◌+◌, ◌<◌, ◌∙◌, ◌∷◌, ◌≡◌, ◌≢◌, ◌≤◌}
use mathlib.Core.Logic.{dite}
use mathlib.Core.Option as M
use native.Mathlib.Decide.{ℕ_discrete}
use lib.ListN.{get_elem?}

-- the last of the passes goes first
pub taking_last : (ps : List PassModel) (p : PassModel) (k : Holder) → taking_all_in (ps ++ p ∷ []) k
    ≡ taking_all_in ps (taking_in p k)
taking_last [] p k = refl
taking_last (q ∷ qs) p k = cc (taking_last qs p k)

pub parts_stay : (ps : List PassModel) (k : Holder) → length (taking_all_in ps k).parts ≡ length k.parts
parts_stay [] k = refl
parts_stay (p ∷ ps) k = length-set (taking_all_in ps k).parts p.walker.walk.cpu (In p.walker.made) ∙ parts_stay ps k

-- the touches of a pass that is among them were taken in
in_all : (ps : List PassModel) (k : Holder) (cpu i : ℕ) → cpu < length k.parts → i < length ps
    → ((d : PassModel) → (get_or ps i d).walker.walk.cpu ≡ cpu)
    → (made : List Made) × (get_or (taking_all_in ps k).parts cpu Out ≡ In made)
in_all [] k cpu i inside none is = absurd (omega arith)
in_all (p ∷ ps) k cpu zero inside some is = (
  p.walker.made,
  rw (← is p) (get_or-set_same (taking_all_in ps k).parts p.walker.walk.cpu (In p.walker.made) Out
      (omega (arith, parts_stay ps k, is p))),
)
in_all (p ∷ ps) k cpu (suc i) inside some is = dite (ℕ_discrete cpu p.walker.walk.cpu)
    (λ (same : cpu ≡ p.walker.walk.cpu). (
      p.walker.made,
      rw same (get_or-set_same (taking_all_in ps k).parts p.walker.walk.cpu (In p.walker.made) Out
          (omega (arith, parts_stay ps k))),
    )) (λ (other : cpu ≢ p.walker.walk.cpu).
    let rest = in_all ps k cpu i inside (omega arith) is in
    (rest.0, get_or-set_other (taking_all_in ps k).parts p.walker.walk.cpu cpu (In p.walker.made) Out other ∙ rest.1))

pub all_are_in : (pages : PagesModel) (ps : List PassModel) (k : Holder) → length k.parts ≡ pages.cpus
    → AreAll pages ps → AllIn pages.cpus (taking_all_in ps k)
all_are_in pages ps k row all cpu inside =
    let there = all cpu inside in in_all ps k cpu there.0 (omega arith) there.1 there.2

-- the slots at the end, each of which has what was at home there
pub record AtEnd (frames cpus : ℕ) (k : Holder) (slots : List (Option Held)) : Type 0 where
  pub homes : List (M.Option (Option Held))
  pub legal : EndIsLegal frames cpus homes k
  pub home : (f : ℕ) (y : Option Held) → get_elem? homes f ≡ M.some (M.some y) → get_elem? slots f ≡ M.some y

-- what the slots have at the end
pub ended : (z : Size) (id : ℕ) {m : Seat} {frames cpus : ℕ} {k k' : Holder} (words : List ℕ)
    (slots : List (Option Held)) → z.frames ≡ frames → z.cpus ≡ cpus → m ≡ (Keeping k', []) → k' ≡ k → k'.hand ≡ Free
    → AllIn cpus k → Final (Seen (InOrder z) id m.0) words slots → AtEnd frames cpus k slots
ended z id {k' = k'} words slots rows count is known free all (s, held, same, many, home) = record {
  homes = s.homes;
  legal = rw (← rows, ← count, ← known) (all_in_is_legal z s.words s.homes s.views id k' held.0 (rw is at held.1) free
      (rw (← count, ← known) at all));
  home = home;
}

-- each slot has a page
pub slots_held : {frames cpus : ℕ} {k : Holder} {slots : List (Option Held)} → AtEnd frames cpus k slots
    → (f : ℕ) → f < frames → (h : Held) × (get_elem? slots f ≡ M.some (Some h))
slots_held end f inside = let there = end.legal.2 f inside in (there.0, end.home f (Some there.0) there.1)

held_of : Held → M.Option (Option Held) → Held
held_of d (M.some (Some h)) = h
held_of d _ = d

-- and the pages handed out are those of their bindings
pub pages_left : {frames cpus : ℕ} {k : Holder} {slots : List (Option Held)} (pages : List (List ℕ)) → AtEnd
    frames cpus k slots → length pages ≡ frames → HavePages slots pages → All (IsLeftAfterAll k) (all_bindings pages k)
unfolding held_of
pages_left {k = k} pages end count have =
    All-append (IsLeftAfterAll k) (ended_bindings (page_given k.ended) k.ended) (last_bindings (length pages) pages k)
    end.legal.1 (last_are_left (length pages) pages k (λ f inside.
    let there = end.legal.2 f (omega arith) in
    let got = have f inside in
    cc (end.home f (Some there.0) there.1)))

-- one pass was taken in
pub taking_goes_on : {all next : KeeperModel} (now : KeeperModel) {items : List PassModel}
    (left : List PassModel) {o : Option PassModel} {p : PassModel} → items ≡ left ++ option_to_list o → o ≡ Some p
    → next ≡ record now { holder = taking_in p now.holder } → record now { holder = taking_all_in items now.holder }
    ≡ all → record next { holder = taking_all_in left next.holder } ≡ all
taking_goes_on now left {p = p} popped some is so = rw (is, ← taking_last left p now.holder) (rw (popped, some) at so)

-- a slot that has a page is not empty
pub not_empty : (slots slots' : List (Option Held)) (f : ℕ) {found : Option Held} → slots' ≡ slots
    → get_elem? slots' f ≡ M.some found → found ≡ None → (h : Held) × (get_elem? slots f ≡ M.some (Some h)) → ⊥
not_empty slots slots' f same there none (h, is) = cc

-- one page more was taken
pub pages_push : {slots slots' : List (Option Held)} (pages : List (List ℕ)) {pages' : List (List ℕ)} {f : ℕ}
    {found : Option Held} {h : Held} → pages' ≡ pages ++ h.page ∷ [] → length pages ≡ f → slots' ≡ slots
    → get_elem? slots' f ≡ M.some found → found ≡ Some h → HavePages slots pages → HavePages slots pages'
pages_push {slots} pages {f = f} {h = h} pushed count same there some have = rw pushed (λ g inside.
    dite (ℕ_discrete g f) (λ (here : g ≡ f). (
      h,
      rw (here, ← some, ← same) there,
      get_or_push pages h.page [] g (omega arith),
    )) (λ (other : g ≢ f).
    let below : g < length pages = (omega (arith, length_push pages h.page)) in
    let old = have g below in
    (old.0, old.1, get_or_append_left pages (h.page ∷ []) [] g below ∙ old.2)))

set_default : (l : List Bool) (i : ℕ) → get_or (set l i false) i false ≡ false
set_default [] i = refl
set_default (x ∷ xs) zero = refl
set_default (x ∷ xs) (suc i) = set_default xs i

pub taken_more : (filled : List Bool) {filled' : List Bool} {f : ℕ} → filled' ≡ set filled f false
    → ((k : ℕ) → k < f → get_or filled k false ≡ false) → (k : ℕ) → k < f + 1 → get_or filled' k false ≡ false
taken_more filled {f = f} is before k below = rw is (dite (ℕ_discrete k f) (λ (here : k ≡ f). rw here
    (set_default filled f)) (λ (other : k ≢ f). get_or-set_other filled f k false false other ∙ before k (omega arith)))

pub still_there : (filled : List Bool) {filled' : List Bool} {f frames : ℕ} → filled' ≡ set filled f false
    → ((k : ℕ) → f ≤ k → k < frames → IsTrue (get_or filled k false))
    → (k : ℕ) → f + 1 ≤ k → k < frames → IsTrue (get_or filled' k false)
still_there filled {f = f} is before k above below =
    rw (is, get_or-set_other filled f k false false (λ e. omega arith)) (before k (omega arith) below)
