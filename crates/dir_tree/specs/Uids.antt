-- The places of nodes by uid.
use Rattle.std.specs.Prelude.{◌≡◌, ◌≢◌, ℕ, ◌<◌, ◌==◌, if◌then◌else◌, List, [], ◌∷◌, length, slice_index}
use Rattle.std.specs.List.{remove}
use Rattle.dir_tree.specs.declared.entries.Entry.{Entry}
use Rattle.dir_tree.specs.Kept.{entry_at}

-- the places that stand in a table, in the order of uids: 65535 stands for a uid that no node has
unfoldable pub taken : List ℕ → List ℕ
taken [] = []
taken (p ∷ ps) = if p == 65535 then taken ps else p ∷ taken ps

-- the entry in the place of a uid is of that uid
pub record IsTabled (slots : List Entry) (table : List ℕ) : Type 0 where
  pub uids : (u : ℕ) → u < length table → slice_index table u ≢ 65535
      → (entry_at slots (slice_index table u)).uid ≡ u

-- the entry of a uid is taken out
pub record IsRemoved (old : List Entry) (uid : ℕ) (entry : Entry) (new : List Entry) : Type 0 where
  pub at : ℕ
  pub within : at < length old
  pub entry_is : entry ≡ entry_at old at
  pub uid_is : (entry_at old at).uid ≡ uid
  pub rest : new ≡ remove old at
