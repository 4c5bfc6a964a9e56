-- The names that the proofs of this crate take from elsewhere.
pub use Rattle.std.proofs.Common.{All, Bool, IsTrue, List, None, Option, Some, [], ap, arith, drop, eqb, false, get_or, inl, inr, length, refl, replicate, rules, set, slice_index, subst, suc, sym, take, true, vec_len, zero, ℕ, ⊎_elim, ◌%◌, ◌++◌, ◌+◌, ◌<◌, ◌↔◌, ◌∙◌, ◌∷◌, ◌≡◌, ◌≢◌, ◌≤◌, ◌⊎◌}
pub use Rattle.std.proofs.lemmas.Grind.{common_steps}
pub use Rattle.std.proofs.lemmas.List.{ext_get_or, get_or-append-add, get_or-replicate, get_or_append_left, length-append, length-replicate, length-set, set-get_or}
pub use Rattle.std.proofs.lemmas.List.Elements.{All-append}
pub use Rattle.std.specs.Mem.Slots.{slots_items}
pub use Rattle.atomic_table.specs.Seated.{TableId}
pub use Rattle.atomic_table.specs.Table.{Allows, Final, Joins, Me, Seen, Splits, State, keeps, step}
pub use Rattle.laws.proofs.Places.{valued, valued_else, valued_here}
pub use Rattle.live_doors.specs.Beside.{AreEntriesOf, AreRowsOf, EntryRows, KeeperRows}
pub use Rattle.live_doors.specs.Doors.{AreNew, DoorsModel, HasNoted, IsKeeperOf, IsPassOf, IsShut, KeeperModel, MayBind, OnlyNoted, PassModel, acknowledged, blank, first_passes, first_watch, forgotten, having_noted, raised, shut}
pub use Rattle.live_doors.specs.Kept.{Kept, MayBindHasNoHolder, NeverBoundHasNoHolder, NotedIsClear, PassOk, PlanOk, SeatOk}
pub use Rattle.live_doors.specs.Laws.{acknowledged_ok, blank_ok, entries_filled, entry_gone, entry_never, filled_ok, filled_row, forgotten_ok, holds_entry, may_bind_by, noted_still, pass_admits, pass_raised, pass_shut, pass_stays, plan_acknowledged, plan_admits, plan_noted, plan_raised, plan_shut, rows_noted, seats_stay, when_admitted, when_bound, when_closed}
pub use Rattle.live_doors.specs.Steps.{Acknowledges, Closes, Fills, Forgets, KeeperFits, Looks, PassFits, Raises, ack_at, door_at, filled, filled_if, first_words, keeper_with_pass, pass_of_keeper, walk_of, watch_of}
pub use Rattle.live_doors.specs.declared.rule.Size.{Size}
pub use Rattle.live_doors.specs.declared.views.View.{View}
pub use Rattle.live_doors.specs.declared.views.View.TheVariants.{Keeping, Spent, Walking}
pub use Rattle.live_doors.specs.declared.views.Walk.{Walk}
pub use Rattle.live_doors.specs.declared.views.Watch.{Watch}
