-- Which books are clean, and the custody that results from one.
use Rattle.std.specs.Prelude.{List, [], ◌∷◌}
use Rattle.script.specs.Plans.{Plan}
use Rattle.book.specs.declared.entries.Entry.{Entry}
use Rattle.flat_model.specs.Legal.{after_entry}
use Rattle.flat_model.specs.Store.{Store, boot}
use Rattle.custody_model.specs.Allowed.{IsAllowed}
use Rattle.custody_model.specs.Custody.{Custody, nothing_held}
use Rattle.custody_model.specs.Next.{custody_next}

-- each entry is allowed in the flat store and the custody that those before it leave
unfoldable pub IsCleanFrom : Plan → Store → Custody → List Entry → Type 0
IsCleanFrom p s c [] = Unit {0}
IsCleanFrom p s c (e ∷ es) = IsAllowed p s c e × IsCleanFrom p (after_entry p s e) (custody_next p s c e) es

unfoldable pub custody_from : Plan → Store → Custody → List Entry → Custody
custody_from p s c [] = c
custody_from p s c (e ∷ es) = custody_from p (after_entry p s e) (custody_next p s c e) es

-- A book is clean: from the boot on, each of its entries is allowed.
unfoldable pub IsClean : Plan → List Entry → Type 0
IsClean p entries = IsCleanFrom p (boot p) (nothing_held p) entries

unfoldable pub custody_after : Plan → List Entry → Custody
custody_after p entries = custody_from p (boot p) (nothing_held p) entries
