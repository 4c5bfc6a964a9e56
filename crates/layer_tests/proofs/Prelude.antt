-- The names that the proofs of this crate take from elsewhere.
pub use Rattle.std.proofs.Common.{Bool, IsSome, List, None, Option, Some, [], ap, arith, count_by, false, get_or, inl, inr, is_some, length, map, refl, replicate, rules, set, subst, suc, sym, take, true, zero, ℕ, ◌<◌, ◌∙◌, ◌∷◌, ◌≡◌, ◌≢◌, ◌≤◌, ◌⊎◌}
pub use Rattle.std.proofs.Math.ListN.{get_or-map}
pub use Rattle.std.proofs.lemmas.Bool.{cases_eq}
pub use Rattle.std.proofs.lemmas.List.{get_or-set_other, get_or-set_same, get_or_past, length-replicate, length-set}
pub use Rattle.std.specs.Prelude.{Err, IfOk, Ok, Result}
pub use Rattle.bitmap.specs.Bitmap.{IsLeastFree, in_use}
pub use Rattle.core_map.specs.CoreMap.{Core, frame_at, reads_of, started_page}
pub use Rattle.core_map.specs.declared.Frame.TheVariants.{Free, Started}
pub use Rattle.laws.proofs.Bools.{off_and_on}
pub use Rattle.laws.proofs.Lists.{all_same, within_from}
pub use Rattle.laws.proofs.Numbers.{below_or_past}
pub use Rattle.laws.proofs.Options.{not_none, some_same}
pub use Rattle.laws.proofs.Places.{list_within, put_here, some_within}
pub use Rattle.page_control.proofs.Facts.{here_within, plain_volume}
pub use Rattle.page_control.specs.Plain.{bindings}
pub use Rattle.page_control.specs.Tied.{AreFiled, IsBlank, IsNotStarted, IsTableOf, flags_in, frame_of, has_record, uid_in, vtoc_in}
pub use Rattle.page_table.specs.PageTable.{ptw_at}
pub use Rattle.page_table.specs.declared.Ptw.{Ptw}
pub use Rattle.page_table.specs.declared.Ptw.TheVariants.{Here, Leaving, Null}
pub use Rattle.seg_mover.specs.Homes.{entry_of, map_at}
pub use Rattle.seg_mover.specs.Moves.{IsMoving}
pub use Rattle.seg_mover.specs.Records.{AreKept}
pub use Rattle.volumes.specs.CoreDrive.{DriveState}
pub use Rattle.volumes.specs.Volumes.{Vols, made_of, records_at, vtoc_at, with_record_used, with_vtoc}
pub use Rattle.volumes.specs.declared.Part.{Part}
pub use Rattle.vtoc.proofs.Table.{no_record}
pub use Rattle.vtoc.specs.Vtoc.{Entry, entry_at, record_at, records_in, uid_of, with_record}
pub use Rattle.layer_tests.specs.Homes.{IsHome}
