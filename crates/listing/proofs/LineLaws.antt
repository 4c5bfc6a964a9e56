-- Laws of the lines of a listing.
use Rattle.listing.proofs.Prelude.{◌≡◌, ℕ, ◌+◌, ◌<◌, ◌≤◌, Bool, true, false, cond, eqb, List, [], ◌∷◌, ◌++◌, length, take, get_or, refl, sym, ap, ◌∙◌, arith, filter, append-nil, flat_map, nat_tests, common_steps, take_more, flat_map_more, append_assoc, names_text, Who, Plan, ProcessPlan, nobody, who_of, command_at, Entry, part, is_part, answer_line, entry_line, own_line, process_line, process_lines, processes_lines}
use Rattle.book.specs.declared.entries.Entry.TheVariants as entry

own_lines : (p : Plan) (k : ℕ) (es : List Entry) → flat_map (own_line p k) es ≡ flat_map (entry_line p) (part k es)
unfolding part
own_lines p k [] = refl
own_lines p k (entry.Do process place cpu frame r ∷ es) = chosen (eqb process k) refl (own_lines p k es)
  where
    chosen : (z : Bool) → eqb process k ≡ z → flat_map (own_line p k) es
        ≡ flat_map (entry_line p) (filter (is_part k) es)
        → cond z (answer_line p (command_at p k place) r) [] ++ flat_map (own_line p k) es ≡ flat_map (entry_line p)
        (cond z (entry.Do process place cpu frame r ∷ filter (is_part k) es) (filter (is_part k) es))
    chosen true h ih =
        let same : process ≡ k = grind (arith, nat_tests) in
        cc
    chosen false h ih = ih
own_lines p k (e ∷ es) = own_lines p k es

-- the text before, and the lines of the elements so far
abbrev pub HasEach : {X : Type 0} → (X → List ℕ) → List ℕ → List X → List ℕ → Type 0
HasEach line before xs now = now ≡ before ++ flat_map line xs

pub each_start : {X : Type 0} (line : X → List ℕ) (before : List ℕ) (xs : List X)
    → HasEach line before (take 0 xs) before
each_start line before xs = sym (append-nil before)

pub each_more : {X : Type 0} (line : X → List ℕ) (before : List ℕ) (xs : List X) (i : ℕ) (x : X) (now new : List ℕ)
    → i < length xs → x ≡ get_or xs i x
    → HasEach line before (take i xs) now → new ≡ now ++ line x → HasEach line before (take (i + 1) xs) new
each_more {X} line before xs i x now new lt at h add =
    let more = take_more xs i x lt ∙ ap (λ (y : X). take i xs ++ y ∷ []) (sym at) in
    cc (flat_map_more line before (take i xs) x)

pub each_end : {X : Type 0} (line : X → List ℕ) (before : List ℕ) (xs : List X) (i : ℕ) (now : List ℕ) → length xs ≤ i
    → HasEach line before (take i xs) now → now ≡ before ++ flat_map line xs
each_end {X} line before xs i now le h =
    let whole : take i xs ≡ xs = grind (arith, common_steps) in
    cc

pub lines_end : (before : List ℕ) (p : Plan) (k : ℕ) (es : List Entry) (i : ℕ) (now : List ℕ) → length es ≤ i
    → HasEach (own_line p k) before (take i es) now → now ≡ before ++ flat_map (entry_line p) (part k es)
lines_end before p k es i now le h = cc (each_end (own_line p k) before es i now le h, own_lines p k es)

-- the text before, and the lines of the first so many processes
abbrev pub HasProcesses : List ℕ → Plan → List Entry → ℕ → List ℕ → Type 0
HasProcesses before p es k now = now ≡ before ++ processes_lines p es 0 (take k p.processes)

abbrev pub no_process : ProcessPlan
no_process = record { who = nobody; commands = [] }

processes_push : (p : Plan) (es : List Entry) (k : ℕ) (xs : List ProcessPlan) (y : ProcessPlan)
    → processes_lines p es k (xs ++ y ∷ []) ≡ processes_lines p es k xs ++ process_lines p es (k + length xs) y.who
processes_push p es k [] y = let same : k ≡ k + 0 = omega arith in cc (append-nil (process_lines p es k y.who))
processes_push p es k (x ∷ xs) y =
    let same : k + 1 + length xs ≡ k + length (x ∷ xs) = omega arith in
    cc (
      processes_push p es (k + 1) xs y,
      append_assoc (process_lines p es k x.who) (processes_lines p es (k + 1) xs)
          (process_lines p es (k + length (x ∷ xs)) y.who),
    )

pub processes_start : (before : List ℕ) (p : Plan) (es : List Entry) → HasProcesses before p es 0 before
processes_start before p es = sym (append-nil before)

pub processes_more : (before : List ℕ) (p : Plan) (es : List Entry) (k : ℕ) (w : Who) (now middle new : List ℕ)
    → k < length p.processes
    → w ≡ who_of p k → HasProcesses before p es k now → middle ≡ now ++ process_line k w → new ≡ middle
    ++ flat_map (entry_line p) (part k es) → HasProcesses before p es (k + 1) new
unfolding process_lines
processes_more before p es k w now middle new lt who h first second =
    let more = take_more p.processes k no_process lt in
    let size : 0 + length (take k p.processes) ≡ k = grind (arith, common_steps) in
    let so_far : List ℕ = processes_lines p es 0 (take k p.processes) in
    let lines : List ℕ = flat_map (entry_line p) (part k es) in
    second ∙ ap (λ (t : List ℕ). t ++ lines) (cc) ∙ append_assoc now (process_line k (who_of p k)) lines
    ∙ ap (λ (t : List ℕ). t ++ process_lines p es k (who_of p k)) h
    ∙ append_assoc before so_far (process_lines p es k (who_of p k))
    ∙ ap (λ (t : List ℕ). before ++ t) (cc (processes_push p es 0 (take k p.processes)
    (get_or p.processes k no_process)))

pub processes_end : (before : List ℕ) (p : Plan) (es : List Entry) (k : ℕ) (now : List ℕ) → length p.processes ≤ k
    → HasProcesses before p es k now → now ≡ before ++ processes_lines p es 0 p.processes
processes_end before p es k now le h =
    let whole : take k p.processes ≡ p.processes = grind (arith, common_steps) in
    cc

-- the text before, and the names so far, each with `>` before it
abbrev pub HasNames : List ℕ → List (List ℕ) → List ℕ → Type 0
HasNames before names now = now ≡ before ++ names_text names

pub names_start : (before : List ℕ) (names : List (List ℕ)) → HasNames before (take 0 names) before
names_start before names = sym (append-nil before)

pub names_more : (before : List ℕ) (names : List (List ℕ)) (i : ℕ) (name : List ℕ) (now new : List ℕ)
    → i < length names → name ≡ get_or names i name
    → HasNames before (take i names) now → new ≡ now ++ 62 ∷ name → HasNames before (take (i + 1) names) new
names_more before names i name now new lt at h add =
    let more = take_more names i name lt ∙ ap (λ (x : List ℕ). take i names ++ x ∷ []) (sym at) in
    cc (flat_map_more (λ (x : List ℕ). 62 ∷ x) before (take i names) name)

pub names_end : (before : List ℕ) (names : List (List ℕ)) (i : ℕ) (now : List ℕ) → length names ≤ i
    → HasNames before (take i names) now → now ≡ before ++ names_text names
names_end before names i now le h =
    let whole : take i names ≡ names = grind (arith, common_steps) in
    cc

-- what the proof of `push_names` is given
pub ruleset push_names_steps = (names_start, names_more, names_end)

-- what the proofs of `push_accounts`, `push_entries` and `push_volumes` are given
pub ruleset push_each_steps = (each_start, each_more, each_end, common_steps)

-- what the proof of `push_part` is given
pub ruleset push_part_steps = (each_start, each_more, lines_end)

-- what the proof of `push_processes` is given
pub ruleset push_processes_steps = (processes_start, processes_more, processes_end)
