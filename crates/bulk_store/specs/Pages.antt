-- The pages that a store over two drives has (own).
use Rattle.std.specs.Prelude.{ℕ, List, [], length, map, slice_index_or, Option, None, Some}
use Rattle.std.specs.List.{range_with_len}
use Rattle.bulk_store.specs.declared.index.Held.{Held}
use Rattle.bulk_store.specs.Held.{place_of}

-- the page of a record: the fast store's where it is held, and the disk's where not
abbrev pub page_of : List (List ℕ) → List (List ℕ) → List Held → ℕ → List ℕ
page_of fast disk held r = page_at (place_of held r)
  where
    page_at : Option ℕ → List ℕ
    page_at (Some p) = slice_index_or fast p []
    page_at None = slice_index_or disk r []

-- the pages of the store, one for each of the disk's
unfoldable pub pages_of : List (List ℕ) → List (List ℕ) → List Held → List (List ℕ)
pages_of fast disk held = map (page_of fast disk held) (range_with_len 0 (length disk))
