-- Pages that are stored though each of their words is 0 (own).
use Rattle.std.specs.Prelude.{ℕ, IsSomeAnd}
use Rattle.mword.specs.Words.{AreZero}
use Rattle.flat_model.specs.Legal.{MayRelease}
use Rattle.flat_model.specs.Store.{Store}
use Rattle.flat_store.specs.Shown.{Paged, page_at}

-- there is a page that could be given up: it is stored, and all zeros
unfoldable pub HasZeroPage : Store → Type 0
HasZeroPage s = (uid : ℕ) × (page : ℕ) × MayRelease s uid page

-- the same of the pages that are kept
unfoldable pub KeepsZeroPage : Paged → Type 0
KeepsZeroPage pages = (uid : ℕ) × (page : ℕ) × IsSomeAnd (page_at pages uid page) AreZero
