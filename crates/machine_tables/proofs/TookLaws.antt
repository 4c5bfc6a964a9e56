-- What stays while pages are taken, and what is taken of a segment.
use Rattle.machine_tables.proofs.Prelude.{◌≡◌, ◌+◌, ◌<◌, ◌≤◌, ℕ, true, false, not, List, [], ◌∷◌, ◌++◌, length, arith, drop, drop_of_length-le, drop_more, What, ptw_at, Ptw, Null, IsActive, Aim, cut_all, take_all, took, is_empty, cut_of_owner, frames_in, here_in, trailers_in, State, HasOwner, Parts, with_state, is_bare, take_cut}
use Rattle.machine_model.proofs.TakeWhole.{take_rest}
use Rattle.machine_tables.proofs.TakeLaws.{owner_still, room_less}

pub entries_still : (s : State) (c : ℕ) (a : Aim) (w : What) (fs : List ℕ)
    → (take_all s c a w fs).store.ast.entries ≡ s.store.ast.entries
entries_still s c a w fs = (take_rest s c a w fs).2

pub links_still : (s : State) (c : ℕ) (a : Aim) (w : What) (fs : List ℕ)
    → (take_all s c a w fs).store.links ≡ s.store.links
links_still s c a w fs = (take_rest s c a w fs).1

pub trailers_still : (s : State) (c : ℕ) (a : Aim) (w : What) (fs : List ℕ) (u : ℕ)
    → trailers_in (take_all s c a w fs).store u ≡ trailers_in s.store u
trailers_still s c a w fs u = cc (entries_still s c a w fs, links_still s c a w fs)

-- ---- whether there is something to take

nonempty_append : (xs ys : List ℕ) → not (is_empty xs) ≡ true → not (is_empty (xs ++ ys)) ≡ true
nonempty_append xs ys h1 = grind arith

none_of : (xs : List ℕ) → not (is_empty xs) ≡ false → xs ≡ []
none_of xs h1 = grind arith

pub some_here : (ws : List Ptw) (p low : ℕ) → frames_in (drop p ws) ≡ frames_in (drop low ws) → p < length ws
    → not (is_empty (here_in (ptw_at ws p))) ≡ true → not (is_empty (frames_in (drop low ws))) ≡ true
some_here ws p low same lt here = grind (arith, drop_more, nonempty_append)

pub next_here : (ws : List Ptw) (p low : ℕ) → frames_in (drop p ws) ≡ frames_in (drop low ws) → p < length ws
    → not (is_empty (here_in (ptw_at ws p))) ≡ false → frames_in (drop (p + 1) ws) ≡ frames_in (drop low ws)
next_here ws p low same lt none = cc (drop_more ws p Null lt, none_of (here_in (ptw_at ws p)) none)

pub none_here : (ws : List Ptw) (p low : ℕ) → frames_in (drop p ws) ≡ frames_in (drop low ws) → length ws ≤ p
    → not (is_empty (frames_in (drop low ws))) ≡ false
none_here ws p low same past = cc (drop_of_length-le ws past)

pub bare_pages : (fs : List ℕ) (pairs : List (ℕ × ℕ)) → not (is_empty fs) ≡ true → is_bare fs pairs ≡ false
bare_pages fs pairs h1 = grind arith

pub bare_trailers : (fs : List ℕ) (pairs rest : List (ℕ × ℕ)) (pair : ℕ × ℕ) → pairs ≡ pair ∷ rest
    → is_bare fs pairs ≡ false
bare_trailers fs pairs rest pair is = grind arith

pub bare_none : (fs : List ℕ) (pairs : List (ℕ × ℕ)) → not (is_empty fs) ≡ false → pairs ≡ [] → is_bare fs pairs ≡ true
bare_none fs pairs none is = cc (none_of fs none)

-- ---- pages, and then descriptors

-- what the cuts ask, once the pages are taken
pub record CanCut (t : State) (u : ℕ) : Type 0 where
  pub active : IsActive t.store.ast.entries u
  pub owner : HasOwner t.owner
  pub few : length (cut_of_owner t.owner) + length (trailers_in t.store u) ≤ 256
  pub room : length (trailers_in t.store u) ≤ t.spare

pub after_pages : (s t : State) (c : ℕ) (a : Aim) (w : What) (fs : List ℕ) (u : ℕ) → t ≡ take_all s c a w fs
    → IsActive s.store.ast.entries u → HasOwner s.owner
    → length (cut_of_owner s.owner) + length (trailers_in s.store u) ≤ 256
    → length fs + length (trailers_in s.store u) ≤ s.spare → CanCut t u
after_pages s t c a w fs u is active owner few room =
    grind (arith, entries_still, owner_still, take_cut, trailers_still, room_less)

pub took_is : {D : Type 0} (old mid new : Parts D) (c : ℕ) (a : Aim) (w : What) (fs : List ℕ) (u : ℕ)
    → mid ≡ with_state old (take_all old.state c a w fs)
    → new ≡ with_state mid (cut_all mid.state c a w (trailers_in mid.state.store u))
    → new ≡ with_state old (took old.state c a w fs (trailers_in old.state.store u))
took_is old mid new c a w fs u took cut = cc (trailers_still old.state c a w fs u)

pub ruleset taken_here = (next_here, none_here, some_here)

pub ruleset bare_taken = (bare_none, bare_pages, bare_trailers)
