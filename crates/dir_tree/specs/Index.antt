-- The index of branches by superior and name.
use Rattle.std.specs.Prelude.{false, ◌≡◌, ℕ, zero, suc, ◌<◌, ◌≤◌, ◌+◌, ◌*◌, ◌/◌, ◌%◌, ◌^◌, List, [], ◌∷◌, length, drop, fold, Option, None, slice_index, slice_index_or}
use Rattle.std.specs.Int.{from_be_bytes, w64}
use Rattle.std.specs.Simd.{first_chunks}
use Rattle.std.specs.declared.cmp.Ordering.{Ordering}
use Rattle.std.specs.declared.cmp.Ordering.TheVariants.{Less}
use Rattle.std.specs.Ordering.{nat_cmp, ordering_then}
use Rattle.std.specs.Option.{option_cmp, unwrap_or}
use Rattle.std.specs.Cmp.Lexicographic.{slice_cmp}
use Rattle.dir_tree.specs.declared.node.Node.{Node}

-- the places of branches, the hash that stands in the slot of each place, and how many branches there is room for
pub record Places : Type 0 where
  pub places : List ℕ
  pub hashes : List ℕ
  pub room : ℕ

-- a place is one of these
pub record HasPlace (places : List ℕ) (place : ℕ) : Type 0 where
  pub at : ℕ
  pub within : at < length places
  pub is : slice_index places at ≡ place

-- what is in no place
abbrev pub no_node : Node
no_node = record { uid = 0; superior = None; name = []; dir = false; volume = 0; entry = 0; length = 0; acl = [] }

abbrev pub node_at : List Node → ℕ → Node
node_at nodes place = slice_index_or nodes place no_node

-- what a branch is looked up by: its superior and its name
abbrev pub Key : Type 0
Key = Option ℕ × List ℕ

abbrev pub key_of : Node → Key
key_of n = (n.superior, n.name)

-- a hash with eight bytes more
abbrev pub mixed : ℕ → ℕ → ℕ
mixed hash word = (hash + word) * 11400714819323198485 % 2 ^ 64

-- a hash with these words of a name more, each of eight bytes
abbrev pub words_mixed : ℕ → List (List ℕ) → ℕ
words_mixed hash words = fold (λ h word. mixed h (from_be_bytes w64 word)) hash words

-- bytes as a number
abbrev pub last_word : List ℕ → ℕ
last_word bytes = fold (λ word byte. (word * 256 + byte) % 2 ^ 64) 0 bytes

-- the hash of a key: its superior, then eight bytes of its name at a time, and what is left of it
unfoldable pub key_hash : Key → ℕ
key_hash k = mixed (words_mixed (unwrap_or k.0 0) (first_chunks 8 (length k.1 / 8) k.1))
    (last_word (drop (length k.1 / 8 * 8) k.1)) / 2 ^ 32

-- keys are in the order of their hashes, those of one hash in that of superiors, and then in that of names
unfoldable pub key_cmp : Key → Key → Ordering
key_cmp a b = ordering_then (ordering_then (nat_cmp (key_hash a) (key_hash b)) (option_cmp nat_cmp a.0 b.0))
    (slice_cmp nat_cmp a.1 b.1)

-- the key of the branch in the k-th place
abbrev pub key_at : List Node → List ℕ → ℕ → Key
key_at nodes places k = key_of (node_at nodes (slice_index places k))

-- the branches stand in the order of their keys, and no two have the same
abbrev pub IsSorted : List Node → List ℕ → Type 0
IsSorted nodes places = (i j : ℕ) → i < j → j < length places → key_cmp (key_at nodes places i) (key_at nodes places j)
    ≡ Less

-- each place is that of a node
abbrev pub AreWithin : List Node → List ℕ → Type 0
AreWithin nodes places = (k : ℕ) → k < length places → slice_index places k < length nodes

-- The branches stand in the order of their keys, and the hash of each in the slot of its place.
pub record IsOrdered (nodes : List Node) (places hashes : List ℕ) : Type 0 where
  pub sorted : IsSorted nodes places
  pub hashed : (place : ℕ) → HasPlace places place → slice_index hashes place ≡ key_hash (key_of (node_at nodes place))
  pub slots : (place : ℕ) → HasPlace places place → place < length hashes

-- the hash of the branch in the k-th place
abbrev pub hash_at : List ℕ → List ℕ → ℕ → ℕ
hash_at places hashes k = slice_index hashes (slice_index places k)

-- each place has a slot, and the hashes stand in their order
pub record AreRising (places hashes : List ℕ) : Type 0 where
  pub rising : (i j : ℕ) → i < j → j < length places → hash_at places hashes i ≤ hash_at places hashes j
  pub slots : (k : ℕ) → k < length places → slice_index places k < length hashes

-- how many places stand on the shelves before the m-th
abbrev pub before : List (List ℕ) → ℕ → ℕ
before [] m = 0
before (shelf ∷ shelves) zero = 0
before (shelf ∷ shelves) (suc m) = length shelf + before shelves m

-- the m-th shelf
abbrev pub shelf_at : List (List ℕ) → ℕ → List ℕ
shelf_at shelves m = slice_index_or shelves m []

-- the shelf of a hash: its first six bits
abbrev pub shelf_of : ℕ → ℕ
shelf_of hash = hash / 2 ^ 26

-- each place stands on the shelf of its hash
pub record AreShelved (shelves : List (List ℕ)) (hashes : List ℕ) : Type 0 where
  pub count : length shelves ≡ 64
  pub shelved : (m place : ℕ) → HasPlace (shelf_at shelves m) place → shelf_of (slice_index hashes place) ≡ m
