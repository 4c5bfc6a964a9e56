-- The names that the proofs of this crate take from elsewhere.
pub use Rattle.std.proofs.Common.{All, Bool, IsSome, IsTrue, List, None, Option, Some, [], ap, arith, cond, count_by, false, get_or, inl, inr, is_none, is_some, length, map, not, refl, replicate, set, suc, sym, take, true, zero, ℕ, ◌&&◌, ◌++◌, ◌+◌, ◌-◌, ◌<◌, ◌==◌, ◌^◌, ◌↔◌, ◌∙◌, ◌∷◌, ◌≡◌, ◌≢◌, ◌≤◌}
pub use Rattle.std.proofs.lemmas.Bool.{cases_eq}
pub use Rattle.std.proofs.lemmas.Bool.Decides.{eqb_tells}
pub use Rattle.std.proofs.lemmas.Grind.{common_steps}
pub use Rattle.std.proofs.lemmas.List.{append_assoc, ext_get_or, get_or-append_right, get_or-map, get_or-replicate, get_or-set_other, get_or-set_same, get_or_append_left, get_or_past, get_or_read, length-append, length-map, length-replicate, length-set, length_push, map-set, set-append_left, set-append_right, set-get_or}
pub use Rattle.std.proofs.lemmas.List.Elements.{All-from_get_or, All-get_or}
pub use Rattle.std.proofs.lemmas.List.Sums.{sum_by-cons, sum_by-set}
pub use Rattle.std.specs.List.{list_all, prefix_len}
pub use Rattle.bitmap.specs.Bitmap.{IsLeastFree, in_use, least_free}
pub use Rattle.laws.proofs.Lists.{blank}
pub use Rattle.laws.proofs.Numbers.{below_or_past}
pub use Rattle.laws.proofs.Options.{none_there}
pub use Rattle.vtoc.specs.FileMap.{record_of}
unfoldable pub use Rattle.vtoc.specs.FileMap.{no_records, records_of}
pub use Rattle.vtoc.specs.Slots.{AreRoomy, IsMarked, entry_of, free_slot, seen_as, slot_at}
unfoldable pub use Rattle.vtoc.specs.Slots.{slots_of, table_of}
pub use Rattle.vtoc.specs.Vtoc.{Entry, IsLeastFreeEntry, NamesNoRecord, entry_at, fresh_entry, least_free_entry, record_at, records_in, uid_of, with_record}
pub use Rattle.vtoc.specs.declared.slots.Slot.{Slot}
