-- Some processor goes on just where the machine wasn't stopped and some process hasn't ended.
use Rattle.machine.proofs.Prelude.{◌≡◌, ◌≤◌, ◌<◌, ◌+◌, ℕ, Bool, true, false, List, refl, sym, ap, ◌∙◌, inl, inr, le_refl, arith, ◌↔◌, Contains, Result, Ok, Err, IfOk, list_any, list_any_at, action_of, is_over, KeepsAll, State, moves, IsDone, NamesAll, would_move, some_moves}
use Rattle.machine.proofs.EndedLaws.{over_ended}

stopped_still : (s : State) (c : ℕ) → s.stopped ≡ true → would_move s c ≡ false
unfolding action_of
stopped_still s c h = rw h refl

over_still : (s : State) (c : ℕ) → is_over s ≡ true → would_move s c ≡ false
unfolding action_of
over_still s c h = grind arith

-- where the machine was stopped or every process has ended, no processor does anything
pub done_still : (s : State) (c : ℕ) → KeepsAll s → IsDone s → would_move s c ≡ false
done_still s c keeps (inl stopped) = stopped_still s c stopped
done_still s c keeps (inr ended) = over_still s c ((over_ended s keeps).1 ended)

pub moves_not : (s : State) (c : ℕ) → KeepsAll s → IsDone s → would_move s c ≡ true → ⊥
moves_not s c keeps done moves = let no : true ≡ false = sym moves ∙ done_still s c keeps done in cc

-- none of the first ones does anything, nor does the next
pub one_more : (s : State) (c : ℕ) → ((d : ℕ) → d < c → would_move s d ≡ false) → would_move s c ≡ false
    → (d : ℕ) → d < c + 1 → would_move s d ≡ false
one_more s c before here d within = grind arith

-- where no processor does anything, the machine was stopped or every process has ended
pub still_done : (s : State) → KeepsAll s → (n : ℕ) → n ≡ s.plan.processors → (c : ℕ) → n ≤ c
    → ((d : ℕ) → d < c → would_move s d ≡ false) → IsDone s
still_done s keeps n is c all still = grind (arith, over_ended, some_moves)

-- none of a list moves, which has each processor
pub none_moves : (s : State) (cpus : List ℕ) → KeepsAll s → list_any (would_move s) cpus ≡ false → NamesAll s cpus
    → IsDone s
none_moves s cpus keeps none all = still_done s keeps s.plan.processors refl s.plan.processors (le_refl _)
    (λ d there. by d (all d there) (would_move s d) refl)
  where
    by : (d : ℕ) → Contains cpus d → (b : Bool) → would_move s d ≡ b → b ≡ false
    by d found false e = refl
    by d found true e = cc (sym (list_any_at (would_move s) cpus found.0 d found.1 (ap (would_move s) found.2 ∙ e))
        ∙ none)

pub run_done : {E : Type 0} (s : State) (cpus : List ℕ) (r : Result ℕ E) → KeepsAll s
    → IfOk r (λ n. (n ≡ 0) ↔ (list_any (would_move s) cpus ≡ false)) → IfOk r (λ n. n ≡ 0 → NamesAll s cpus → IsDone s)
run_done s cpus (Ok n) keeps zero = λ none all. none_moves s cpus keeps (zero.0 none) all
run_done s cpus (Err e) keeps zero = tt
