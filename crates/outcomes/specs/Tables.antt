-- The outcomes of runs: those with the same replies together, each with its seeds and the accounts that it left (own).
use Rattle.std.specs.Prelude.{ℕ, ◌==◌, Bool, if◌then◌else◌, List, [], ◌∷◌, ◌++◌, Option, Some, None, length, position, slice_index_or, slice_set}
use Rattle.std.specs.List.{list_any}
use Rattle.std.specs.Str.{bytes_eq}
use Rattle.outcomes.specs.declared.table.Seen.{Seen}

-- the runs with these replies: their seeds in the order in which they were added, and the accounts that they left, each
-- once
pub record Outcome : Type 0 where
  pub replies : List ℕ
  pub seeds : List ℕ
  pub seen : List Seen

-- the outcomes in the order of their first runs, and the accounts that all runs left, each once
pub record Table : Type 0 where
  pub outcomes : List Outcome
  pub accounts : List (List ℕ)

abbrev pub no_runs : Table
no_runs = record { outcomes = []; accounts = [] }

-- where a text stands among others
abbrev pub place_in : List (List ℕ) → List ℕ → Option ℕ
place_in texts text = position (λ t. bytes_eq t text) texts

-- the accounts of a table with some that stand at this place, or at none
abbrev pub with_accounts : Option ℕ → List (List ℕ) → List ℕ → List (List ℕ)
with_accounts (Some place) all accounts = all
with_accounts None all accounts = all ++ accounts ∷ []

abbrev pub place_or_next : Option ℕ → List (List ℕ) → ℕ
place_or_next (Some place) all = place
place_or_next None all = length all

abbrev pub has_seen : List Seen → ℕ → Bool
has_seen seen accounts = list_any (λ s. s.accounts == accounts) seen

abbrev pub with_seen : List Seen → Seen → List Seen
with_seen seen run = if has_seen seen run.accounts then seen else seen ++ run ∷ []

-- the outcome of a run alone
abbrev pub new_outcome : List ℕ → Seen → Outcome
new_outcome replies run = record { replies = replies; seeds = run.seed ∷ []; seen = run ∷ [] }

-- an outcome with a run more
abbrev pub joined : Outcome → Seen → Outcome
joined o run = record { replies = o.replies; seeds = o.seeds ++ run.seed ∷ []; seen = with_seen o.seen run }

-- where the outcome with these replies stands
abbrev pub outcome_in : List Outcome → List ℕ → Option ℕ
outcome_in outcomes replies = position (λ o. bytes_eq o.replies replies) outcomes

abbrev pub no_outcome : Outcome
no_outcome = record { replies = []; seeds = []; seen = [] }

-- the outcomes with a run more, whose replies those at this place have, or none
abbrev pub with_run : Option ℕ → List Outcome → List ℕ → Seen → List Outcome
with_run None outcomes replies run = outcomes ++ new_outcome replies run ∷ []
with_run (Some place) outcomes replies run =
    slice_set outcomes place (joined (slice_index_or outcomes place no_outcome) run)

-- a table with some accounts, and with a run more that left accounts of the table
abbrev pub placed : Table → List ℕ → Table
placed t accounts = record {
  outcomes = t.outcomes;
  accounts = with_accounts (place_in t.accounts accounts) t.accounts accounts;
}

abbrev pub put : Table → List ℕ → Seen → Table
put t replies run = record {
  outcomes = with_run (outcome_in t.outcomes replies) t.outcomes replies run;
  accounts = t.accounts;
}

abbrev pub run_of : Table → List ℕ → ℕ → Seen
run_of t accounts seed = record {
  accounts = place_or_next (place_in t.accounts accounts) t.accounts;
  seed = seed;
}

-- a table with the run of a seed more, which was answered so and left these accounts
unfoldable pub added : Table → List ℕ → List ℕ → ℕ → Table
added t replies accounts seed = put (placed t accounts) replies (run_of t accounts seed)
