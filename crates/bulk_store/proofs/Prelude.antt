-- The names that the proofs of this crate take from elsewhere.
pub use Rattle.std.proofs.Common.{Bool, Err, IfNone, IfSome, IsOk, List, None, Ok, OnErr, OnOk, Option, Result, Some, [], ap, arith, false, get_or, inl, inr, is_some, length, length-append, max, nat_lt, refl, set, subst, sym, true, zero-add, ℕ, ◌+◌, ◌<◌, ◌∙◌, ◌∷◌, ◌≡◌, ◌≢◌, ◌≤◌, ◌⊎◌}
pub use Rattle.std.proofs.lemmas.Bool.{cases_eq, lt-ltb}
pub use Rattle.std.proofs.lemmas.Bool.Decides.{eqb_tells}
pub use Rattle.std.proofs.lemmas.List.{ext_get_or, get_or-set_other, get_or-set_same, get_or_past, length-set}
pub use Rattle.std.proofs.lemmas.List.Elements.{All-from_get_or, All-get_or}
pub use Rattle.std.proofs.lemmas.List.FromFn.{get_or-map-range_with_len, length-map-range_with_len}
pub use Rattle.laws.proofs.Bools.{second_false}
pub use Rattle.laws.proofs.Numbers.{below_or_past, lt_from}
pub use Rattle.site_io.specs.Faults.{Rose}
pub use Rattle.volumes.proofs.Faults.{named_none}
pub use Rattle.volumes.specs.CoreDrive.{DriveState, faults_of}
pub use Rattle.volumes.specs.FailLine.{IsOneMore}
pub use Rattle.volumes.specs.FullPages.{HaveFullPages}
pub use Rattle.bulk_store.specs.Contents.{AfterFailed, Contents, CountsBoth, IsStore, gave_up_oldest, took_in, wrote}
pub use Rattle.bulk_store.specs.Held.{BulkAfter, IsLeastFreePlace, oldest_of, place_of, with_newest}
pub use Rattle.bulk_store.specs.Index.{Holdings, IsIndexed, NoneTwice, with_record, without_oldest}
pub use Rattle.bulk_store.specs.Pages.{page_of}
unfoldable pub use Rattle.bulk_store.specs.Pages.{pages_of}
pub use Rattle.bulk_store.specs.Store.{Store, store_pages}
pub use Rattle.bulk_store.specs.declared.index.Held.{Held}
