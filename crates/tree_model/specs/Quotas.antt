-- Quota that moves between a directory and the one that it lies in, and the accounts that are above their quotas
-- (Organick 1972).
use Rattle.std.specs.Prelude.{ℕ, ◌+◌, ◌-◌, Bool, ◌&&◌, ◌||◌, not, ◌==◌, nat_le, nat_lt, if◌then◌else◌, map, List, [], ◌∷◌, Option, Some, None, slice_index}
use Rattle.tree_model.specs.Tree.{Node, above, has_directory, quota_in, used_by}

-- Between a directory and its superior: down to the directory, or up from it. One gets the quota, the other gives it.
abbrev pub superior_of : (ℕ → List ℕ) → ℕ → ℕ
superior_of up d = slice_index (up d) 0

abbrev pub getter_of : (ℕ → List ℕ) → ℕ → Bool → ℕ
getter_of up d down = if down then d else superior_of up d

abbrev pub giver_of : (ℕ → List ℕ) → ℕ → Bool → ℕ
giver_of up d down = if down then superior_of up d else d

-- a node with its quota changed, if it has this uid
abbrev pub with_quota_of : ℕ → (ℕ → ℕ) → Node → Node
with_quota_of u change n = if n.uid == u then record n { quota = change n.quota } else n

-- the nodes once one directory has given quota to another
abbrev pub with_moved : List Node → ℕ → ℕ → ℕ → List Node
with_moved nodes giver getter pages = map (λ n. with_quota_of giver (λ q. q - pages)
    (with_quota_of getter (λ q. q + pages) n)) nodes

-- the nodes once so many pages of quota have moved down to a directory, or up from it
abbrev pub tree_moved : List Node → ℕ → Bool → ℕ → List Node
tree_moved nodes d down pages = with_moved nodes (giver_of (above nodes) d down) (getter_of (above nodes) d down) pages

-- an account with more stored pages than its quota
abbrev pub is_over : List Node → List (ℕ × ℕ) → ℕ → Bool
is_over nodes stored u = has_directory nodes u && ((u == 1 || not (quota_in nodes u == 0))
    && nat_lt (quota_in nodes u) (used_by nodes stored u))

abbrev pub lesser : ℕ → Option ℕ → ℕ
lesser u None = u
lesser u (Some v) = if nat_le u v then u else v

-- the least of some uids that passes a test
abbrev pub least_where : (ℕ → Bool) → List ℕ → Option ℕ
least_where test [] = None
least_where test (u ∷ us) = if test u then Some (lesser u (least_where test us)) else least_where test us

-- the account with the least uid that is above its quota
unfoldable pub over_in : List Node → List (ℕ × ℕ) → Option ℕ
over_in nodes stored = least_where (is_over nodes stored) (map (λ n. n.uid) nodes)
