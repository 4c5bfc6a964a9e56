use Rattle.std.specs.Prelude.{◌++◌, ◌-◌, ◌≤◌, replicate, ◌≡◌, ℕ, ◌<◌, ◌^◌, Bool, List, length, Option, None, Some, map, is_some, slice_index_or}
use Rattle.vtoc.specs.FileMap.{no_records}
use Rattle.vtoc.specs.Vtoc.{Entry}
use Rattle.vtoc.specs.declared.slots.Slot.{Slot}

-- the entry that a slot stands for: none where it has no uid (own)
abbrev pub seen_as : Option ℕ → List (Option ℕ) → Option Entry
seen_as None records = None
seen_as (Some uid) records = Some (record { uid = uid; records = records })

abbrev pub entry_of : Slot → Option Entry
entry_of slot = seen_as slot.uid slot.map

-- the table that the slots stand for (own)
unfoldable pub table_of : List Slot → List (Option Entry)
table_of slots = map entry_of slots

-- a slot that is free
abbrev pub free_slot : Slot
free_slot = record { uid = None; map = no_records }

abbrev pub slot_at : List Slot → ℕ → Slot
slot_at slots e = slice_index_or slots e free_slot

-- so many slots, of which the first are held, and the rest are free (own)
unfoldable pub slots_of : List Slot → ℕ → List Slot
slots_of held size = held ++ replicate (size - length held) free_slot

-- the held slots are at most all, and there is room for all (own)
pub record AreRoomy (held : List Slot) (size room : ℕ) : Type 0 where
  pub within : length held ≤ size
  pub roomy : size ≤ room

-- What ties the bits of used slots and the slots together (own): a bit is on where the slot has a uid, a free slot has
-- an empty map, and each map has 256 places.
pub record IsMarked (in_use : List Bool) (slots : List Slot) : Type 0 where
  pub short : length slots < 2 ^ 32
  pub marks : in_use ≡ map (λ slot. is_some slot.uid) slots
  pub empty : (e : ℕ) → (slot_at slots e).uid ≡ None → (slot_at slots e).map ≡ no_records
  pub places : (e : ℕ) → length (slot_at slots e).map ≡ 256
