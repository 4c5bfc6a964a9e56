-- Pages of a segment that are taken one after the other.
use Rattle.machine_tables.proofs.Prelude.{◌≡◌, ◌≢◌, ◌+◌, ◌<◌, ◌≤◌, ℕ, true, List, [], ◌∷◌, ◌++◌, length, set, Some, None, refl, sym, ap, ◌∙◌, arith, drop_more, get_or-set_other, get_or-set_same, drop_of_length-le, What, Frame, bound_page, is_bound, Ptw, Null, ActiveSegs, IsActive, frame_in, number_in, uid_in, place_of, table_of, word_of, worded, Aim, take_all, take_one, frames_from, frames_in, frames_of_owner, here_in, State, leaving_moving, none_some, HasOwner, LeavesPast, take_long, page_is, list_within}

-- what a frame that a page is in is bound to
pub bound_parts : (x : Frame) (u p : ℕ) → bound_page x ≡ Some (u, p)
    → (is_bound x ≡ true) × (uid_in x ≡ u) × (number_in x ≡ p)
bound_parts x u p h1 = grind (arith, page_is)

-- ---- the list of what is taken

take_all-append : (s : State) (c : ℕ) (a : Aim) (w : What) (fs gs : List ℕ)
    → take_all s c a w (fs ++ gs) ≡ take_all (take_all s c a w fs) c a w gs
take_all-append s c a w [] gs = refl
take_all-append s c a w (f ∷ fs) gs = take_all-append (take_one s c a w f) c a w fs gs

pub owner_still : (s : State) (c : ℕ) (a : Aim) (w : What) (fs : List ℕ) → HasOwner s.owner
    → HasOwner (take_all s c a w fs).owner
owner_still s c a w [] has = has
owner_still s c a w (f ∷ fs) has = owner_still (take_one s c a w f) c a w fs (λ none. none_some (sym none))

pub room_less : (s : State) (c : ℕ) (a : Aim) (w : What) (fs : List ℕ) → length fs ≤ s.spare
    → (take_all s c a w fs).spare + length fs ≡ s.spare
room_less s c a w [] le = omega arith
room_less s c a w (f ∷ fs) le =
    let rest = room_less (take_one s c a w f) c a w fs (omega arith) in omega arith

-- ---- a table whose pages are taken in order

pub frames_here : (ast : ActiveSegs) (u p : ℕ) → p < length (table_of ast u)
    → frames_from ast u p ≡ here_in (word_of ast u p) ++ frames_from ast u (p + 1)
frames_here ast u p lt = ap frames_in (drop_more (table_of ast u) p Null lt)

pub frames_past : (ast : ActiveSegs) (u p : ℕ) → length (table_of ast u) ≤ p → frames_from ast u p ≡ []
frames_past ast u p le = ap frames_in (drop_of_length-le (table_of ast u) le)

pub table_worded : (ast : ActiveSegs) (u p : ℕ) (w : Ptw) → p < length (table_of ast u)
    → table_of (worded ast u p w) u ≡ set (table_of ast u) p w
table_worded ast u p w lt = rw (get_or-set_same, list_within ast.tables (place_of ast.entries u) p lt)

pub word_put : (ast : ActiveSegs) (u p : ℕ) (w : Ptw) → p < length (table_of ast u) → word_of (worded ast u p w) u p ≡ w
word_put ast u p w lt = rw (table_worded, get_or-set_same)

-- the other words of the page table stay
pub word_other : (ast : ActiveSegs) (u p q : ℕ) (w : Ptw) → p < length (table_of ast u) → q ≢ p
    → word_of (worded ast u p w) u q ≡ word_of ast u q
word_other ast u p q w lt ne = rw (table_worded, get_or-set_other)

-- no segment moves while pages are taken
takes_still : (s : State) (c : ℕ) (a : Aim) (w : What) (fs : List ℕ) → s.store.moving ≡ None
    → (take_all s c a w fs).store.moving ≡ None
takes_still s c a w [] h = h
takes_still s c a w (f ∷ fs) h = takes_still (take_one s c a w f) c a w fs
    (leaving_moving s.store f (bound_page (frame_in s.store.pages f)) ∙ h)

-- so far as the pages of a segment are taken from a number on, the rest leads to the same
pub record TakesOn (now first : State) (c : ℕ) (a : Aim) (w : What) (u p low : ℕ) : Type 0 where
  pub same : take_all now c a w (frames_from now.store.ast u p)
      ≡ take_all first c a w (frames_from first.store.ast u low)
  pub active : IsActive now.store.ast.entries u
  pub long : length (table_of now.store.ast u) ≡ length (table_of first.store.ast u)
  pub owner : HasOwner now.owner
  pub few : length (frames_of_owner now.owner) + length (frames_from now.store.ast u p) ≤ 256
  pub room : length (frames_from now.store.ast u p) ≤ now.spare
  pub still : now.store.moving ≡ None

-- what the next page asks
pub here_few : {s first : State} {c : ℕ} {a : Aim} {w : What} {u p low : ℕ} → TakesOn s first c a w u p low
    → p < length (table_of s.store.ast u)
    → (length (frames_of_owner s.owner) + length (here_in (word_of s.store.ast u p)) ≤ 256)
    × (length (here_in (word_of s.store.ast u p)) ≤ s.spare)
here_few {s} {u = u} {p = p} on lt = grind (arith, frames_here)

pub takes_next : {s t first : State} {c : ℕ} {a : Aim} {w : What} {u p low : ℕ} → TakesOn s first c a w u p low
    → p < length (table_of s.store.ast u) → t ≡ take_all s c a w (here_in (word_of s.store.ast u p))
    → LeavesPast s.store.ast t.store.ast u p → TakesOn t first c a w u (p + 1) low
takes_next {s} {t} {first} {c} {a} {w} {u} {p} on lt is past =
    grind (arith, frames_here, take_long, room_less, take_all-append, owner_still, takes_still)

pub takes_end : {s first : State} {c : ℕ} {a : Aim} {w : What} {u p low : ℕ} → TakesOn s first c a w u p low
    → length (table_of s.store.ast u) ≤ p → s ≡ take_all first c a w (frames_from first.store.ast u low)
takes_end {s} {first} {c} {a} {w} {u} {p} on le = cc (frames_past s.store.ast u p le)
