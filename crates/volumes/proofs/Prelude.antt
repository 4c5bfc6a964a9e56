-- The names that the proofs of this crate take from elsewhere.
pub use Rattle.std.proofs.Common.{Bool, Err, IfNone, IfSome, List, None, Ok, OnErr, OnOk, Option, Result, Some, [], ap, arith, cond, eqb, false, get_or, inl, inr, length, map, refl, replicate, set, slice_get, suc, sum_by, sym, true, vec_capacity, zero, ℕ, ◌&&◌, ◌++◌, ◌+◌, ◌-◌, ◌<◌, ◌^◌, ◌||◌, ◌∙◌, ◌∷◌, ◌≡◌, ◌≢◌, ◌≤◌, ◌⊎◌}
pub use Rattle.std.proofs.Math.Seq.{map-set_same}
pub use Rattle.std.proofs.lemmas.Bool.{le-ltb, lt-ltb, or_parts}
pub use Rattle.std.proofs.lemmas.Bool.Decides.{eqb_tells}
pub use Rattle.std.proofs.lemmas.Grind.{common_steps}
pub use Rattle.std.proofs.lemmas.List.{append_assoc, drop-replicate, get_or-append_right, get_or-map, get_or-replicate, get_or-set_same, get_or_append_left, length-append, length-map, length-replicate, length-set, length_push, map-append, map-set, replicate_more, set-append_left, set-append_right, set-get_or, set_split, take-replicate}
pub use Rattle.std.proofs.lemmas.List.Elements.{All-append, All-get_or, All-push, All-replicate, All-set}
pub use Rattle.std.proofs.lemmas.List.Sums.{get_or-le-sum_by, sum_by-set}
pub use Rattle.std.specs.Bool.{beq}
pub use Rattle.std.specs.List.{list_any}
pub use Rattle.laws.proofs.Numbers.{below_or_past}
pub use Rattle.site_io.specs.Faults.{Rose, counted}
pub use Rattle.site_io.specs.declared.stream.Failed.{Failed}
pub use Rattle.vtoc.specs.Vtoc.{Entry}
pub use Rattle.volumes.specs.CorePages.{AreHeld}
unfoldable pub use Rattle.volumes.specs.CorePages.{pages_of}
pub use Rattle.volumes.specs.FailLine.{HasFewFaults, IsOneMore, names, names_next}
unfoldable pub use Rattle.volumes.specs.FailLine.{named_calls}
pub use Rattle.volumes.specs.FullPages.{HaveFullPages}
pub use Rattle.volumes.specs.Volumes.{HasParts, HaveFewFaults, HaveFull, KeepsOthers, Vols}
pub use Rattle.volumes.specs.declared.Part.{Part}
pub use Rattle.volumes.specs.declared.drive.FailLine.{FailLine}
