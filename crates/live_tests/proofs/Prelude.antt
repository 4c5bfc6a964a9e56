-- The names that the proofs of this crate take from elsewhere.
pub use Rattle.std.proofs.Common.{All, List, [], ap, arith, get_or, length, refl, subst, sym, ℕ, ◌%◌, ◌<◌, ◌∙◌, ◌∷◌, ◌≡◌, ◌≢◌, ◌≤◌}
pub use Rattle.std.proofs.lemmas.List.{get_or-replicate}
pub use Rattle.std.proofs.lemmas.Option.{IfSome_then}
pub use Rattle.live_doors.specs.Doors.{IsAdmitted, IsKeeperOf, IsPassOf, OnlyNoted}
pub use Rattle.live_pages.specs.Models.{AreAll, PagesModel, PassModel, first_passes}
pub use Rattle.live_pages.specs.Turns.{first_walker}
