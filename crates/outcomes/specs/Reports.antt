-- What is printed of a table of outcomes (own).
use Rattle.std.specs.Prelude.{ℕ, ◌+◌, Bool, if◌then◌else◌, List, [], ◌∷◌, ◌++◌, Option, Some, None, codes, length, slice_get}
use Rattle.std.specs.Fmt.{decimal}
use Rattle.std.specs.List.{flat_map, list_all, list_any}
use Rattle.std.specs.Str.{bytes_eq}
use Rattle.text_model.specs.Lines.{lines_of}
use Rattle.outcomes.specs.Tables.{Outcome, Table}
use Rattle.outcomes.specs.declared.table.Seen.{Seen}

abbrev pub seed_or_zero : Option ℕ → ℕ
seed_or_zero None = 0
seed_or_zero (Some seed) = seed

abbrev pub first_seed : List ℕ → ℕ
first_seed seeds = seed_or_zero (slice_get seeds 0)

-- `outcome K: M of N, first by seed S`
unfoldable pub outcome_head : ℕ → Outcome → ℕ → List ℕ
outcome_head number o runs =
    codes "outcome " ++ (decimal number ++ (codes ": " ++ (decimal (length o.seeds) ++ (codes " of "
    ++ (decimal runs ++ (codes ", first by seed " ++ (decimal (first_seed o.seeds) ++ codes "\n")))))))

-- each outcome from a number on, with its replies
abbrev pub outcomes_text : ℕ → List Outcome → ℕ → List ℕ
outcomes_text number [] runs = []
outcomes_text number (o ∷ os) runs = outcome_head number o runs ++ (o.replies ++ outcomes_text (number + 1) os runs)

-- whether a line stands in a text, in each of some texts
abbrev pub has_line : List ℕ → List ℕ → Bool
has_line line text = list_any (λ l. bytes_eq l line) (lines_of text)

unfoldable pub is_common : List (List ℕ) → List ℕ → Bool
is_common texts line = list_all (has_line line) texts

-- whether each line of each of some texts stands in all of them
unfoldable pub are_alike : List (List ℕ) → Bool
are_alike texts = list_all (λ text. list_all (is_common texts) (lines_of text)) texts

-- a line that doesn't stand in each of some texts
unfoldable pub differing_line : List (List ℕ) → List ℕ → List ℕ
differing_line texts line = if is_common texts line then [] else line ++ 10 ∷ []

abbrev pub differing_in : List (List ℕ) → List ℕ → List ℕ
differing_in texts text = flat_map (differing_line texts) (lines_of text)

abbrev pub differing_of : List (List ℕ) → Option (List ℕ) → List ℕ
differing_of texts None = []
differing_of texts (Some text) = differing_in texts text

-- `accounts of outcome K, first by seed S`
unfoldable pub accounts_head : ℕ → ℕ → List ℕ
accounts_head number seed =
    codes "accounts of outcome " ++ (decimal number ++ (codes ", first by seed " ++ (decimal seed ++ codes "\n")))

-- accounts that runs of an outcome left: the lines that aren't the same in all runs
unfoldable pub block_of : ℕ → List (List ℕ) → Seen → List ℕ
block_of number texts s = accounts_head number s.seed ++ differing_of texts (slice_get texts s.accounts)

abbrev pub blocks_of : ℕ → List (List ℕ) → List Seen → List ℕ
blocks_of number texts seen = flat_map (block_of number texts) seen

-- the same of each outcome from a number on
abbrev pub accounts_text : ℕ → List (List ℕ) → List Outcome → List ℕ
accounts_text number texts [] = []
accounts_text number texts (o ∷ os) = blocks_of number texts o.seen ++ accounts_text (number + 1) texts os

abbrev pub accounts_part : Table → List ℕ
accounts_part t =
    if are_alike t.accounts then codes "accounts alike\n" else accounts_text 1 t.accounts t.outcomes

-- what is printed of the outcomes of so many runs
unfoldable pub report_text : Table → ℕ → List ℕ
report_text t runs = outcomes_text 1 t.outcomes runs ++ accounts_part t
