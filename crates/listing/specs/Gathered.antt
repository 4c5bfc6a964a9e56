-- What an account and a volume add to a summary.
use Rattle.std.specs.Prelude.{ℕ, List, [], ◌∷◌, Option, Some, None}
use Rattle.script.specs.declared.plan.VolumeLine.{VolumeLine}
use Rattle.tree_model.specs.Tree.{Node, taken_on, entries_on}
use Rattle.flat_model.specs.Store.{Store}
use Rattle.listing.specs.Listings.{AccountCount, VolumeCount, account_count}

-- the account of a node, where there is one and it is an account
abbrev pub account_at : Store → Option Node → List AccountCount
account_at s None = []
account_at s (Some n) = account_count s n

abbrev pub as_list : Option AccountCount → List AccountCount
as_list None = []
as_list (Some a) = a ∷ []

-- the volume of a number
abbrev pub volume_of : Store → ℕ → VolumeLine → VolumeCount
volume_of s v x = record { volume = x; taken = taken_on s.nodes s.stored v; used = entries_on s.nodes v }

-- what comes after the first
abbrev pub rest_of : List ℕ → List ℕ
rest_of [] = []
rest_of (x ∷ xs) = xs
