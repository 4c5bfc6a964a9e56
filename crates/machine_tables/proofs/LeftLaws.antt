-- How a page leaves its frame, and what comes back where it can't.
use Rattle.machine_tables.proofs.Prelude.{◌≡◌, ◌↔◌, ◌<◌, ℕ, suc, zero, length, get_or, true, false, eqb, List, [], ◌∷◌, refl, arith, IfOk, OnErr, Result, Ok, Err, AreZero, Left, Released, HasColumns, IsSettled, are_zeros, left_of, page_back, page_in, pages_back, with_left, cut_of_owner, frames_of_owner, State, MayRelink, with_all_here, with_store, Parts, with_accounts, with_drives, with_state, zero_word, zeros_to, Bools_and_parts as and_parts}
use Rattle.machine_tables.proofs.ColumnLaws.{settled_is}

-- ---- pages of zeros

zeros_from : (ws : List ℕ) → are_zeros ws ≡ true → (k d : ℕ) → k < length ws → get_or ws k d ≡ 0
zeros_from [] h k d lt = absurd (omega arith)
zeros_from (w ∷ ws) h zero d lt = zero_word w (and_parts (eqb w 0) (are_zeros ws) h).0
zeros_from (w ∷ ws) h (suc k) d lt = zeros_from ws (and_parts (eqb w 0) (are_zeros ws) h).1 k d (omega arith)

left_released : (ws : List ℕ) → are_zeros ws ≡ true → Released ≡ left_of ws
left_released ws h = cc

pub left_is : {E : Type 0} (r : Result Left E) (ws : List ℕ) → (r ≡ Ok Released) ↔ AreZero ws
    → IfOk r (λ left. left ≡ left_of ws)
left_is r ws h1 = grind (arith, left_released, zeros_to, zeros_from)

-- one that stays in its frame, since the drive failed, isn't all zeros
pub left_stays : {E : Type 0} (r : Result Left E) (ws : List ℕ) → (r ≡ Ok Released) ↔ AreZero ws
    → OnErr r (are_zeros ws ≡ false)
left_stays r ws h1 = grind (arith, zeros_from)

-- a page that has left its frame, and what its account is then
pub left_exact : {D E : Type 0} (old new : Parts D) (f : ℕ) (r : Result Left E) → HasColumns old.state.store.accounts
    → HasColumns new.state.store.accounts
    → IsSettled old.state.store.accounts new.state.store.accounts (page_in old.state.store f).0 r
    → IfOk r (λ left. new ≡ with_drives (with_state old (with_store old.state (with_accounts
    (with_left old.state.store f left (page_in old.state.store f)) new.state.store.accounts))) new.drives
    new.state.faults) → IfOk r (λ left. new ≡ with_drives (with_state old (with_store old.state
    (with_left old.state.store f left (page_in old.state.store f)))) new.drives new.state.faults)
left_exact old new f (Err e) before after settled is = tt
left_exact {D} {E} old new f (Ok how) before after settled is =
    cc (settled_is {E = E} old.state.store.accounts new.state.store.accounts (page_in old.state.store f).0 (Ok how) how
    refl before after settled)

-- ---- what comes back

back_store : (s : State) (fs : List ℕ) → (pages_back s fs).store ≡ with_all_here s.store fs
back_store s [] = refl
back_store s (f ∷ fs) = back_store (page_back s f) fs

pub relink_after : {D : Type 0} (old mid new : Parts D) (x : State) → mid ≡ with_state old x
    → x.store ≡ old.state.store → x.owner ≡ old.state.owner
    → new ≡ with_state mid (pages_back mid.state (frames_of_owner mid.state.owner))
    → cut_of_owner new.state.owner ≡ cut_of_owner mid.state.owner
    → MayRelink (with_all_here old.state.store (frames_of_owner old.state.owner)) (cut_of_owner old.state.owner)
    → MayRelink new.state.store (cut_of_owner new.state.owner)
relink_after old mid new x is store owner effect cut may = grind (arith, back_store)
