-- The names that the proofs of this crate take from elsewhere.
pub use Rattle.std.proofs.Common.{All, Bool, IfNone, IfSome, List, None, Option, Some, [], ap, append_assoc, arith, cond, false, get_or, inl, inr, length, map, not, refl, replicate, set, suc, sym, true, zero, ℕ, ◌++◌, ◌+◌, ◌-◌, ◌<◌, ◌==◌, ◌^◌, ◌∙◌, ◌∷◌, ◌≡◌, ◌≢◌, ◌≤◌}
pub use Rattle.std.proofs.lemmas.Bool.{cases_eq}
pub use Rattle.std.proofs.lemmas.List.{append-nil, ext_get_or, get_or-map, get_or-set_other, get_or-set_same, get_or_past, get_or_read, length-map, length-replicate, length-set, map-set, set_past}
pub use Rattle.std.proofs.lemmas.List.Elements.{All-from_get_or, All-get_or}
pub use Rattle.std.specs.List.{find, list_any, prefix_len, range_with_len}
pub use Rattle.bitmap.specs.Bitmap.{IsLeastFree, in_use, least_free}
pub use Rattle.laws.proofs.Numbers.{below_or_past}
pub use Rattle.laws.proofs.Places.{map_kept}
pub use Rattle.core_map.specs.Clock.{after_choice, clock_choice, frame_in, is_idle, or_else, round_frames, unmarked}
unfoldable pub use Rattle.core_map.specs.Clock.{passed_over}
pub use Rattle.core_map.specs.CoreMap.{Core, IsLeastFreeFrame, after_reference, is_bound, is_free, is_taken, least_free_frame, started_page, with_modified}
pub use Rattle.core_map.specs.Taken.{IsTied}
pub use Rattle.core_map.specs.Turns.{GoesAround, HasNone, IsFirst, IsFirstBound, IsTurned, IsUnmarked, PassesAll, PassesTo}
pub use Rattle.core_map.specs.declared.Frame.{Frame}
pub use Rattle.core_map.specs.declared.Frame.TheVariants.{Bound, Free}
