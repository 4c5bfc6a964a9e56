-- The names that the proofs of this crate take from elsewhere.
pub use Rattle.std.proofs.Common.{All, Bool, IsTrue, List, None, Option, Some, [], ap, arith, cond, eqb, false, get_or, inl, inr, length, map, mul-le-mul_right, option_to_list, refl, replicate, reverse, rules, set, slice_index_or, subst, suc, suc-mul, sym, true, vec_capacity, vec_len, zero, ℕ, ⊎_elim, ◌%◌, ◌&&◌, ◌*◌, ◌++◌, ◌+◌, ◌/◌, ◌<◌, ◌^◌, ◌∙◌, ◌∷◌, ◌≡◌, ◌≢◌, ◌≤◌, ◌⊎◌}
pub use Rattle.std.proofs.lemmas.Bool.{eq-eqb, ne_eqb}
pub use Rattle.std.proofs.lemmas.List.{append-nil, append_assoc, get_or-append-add, get_or-replicate, get_or-set_other, get_or-set_same, get_or_append_left, get_or_push, length-append, length-replicate, length-reverse, length-set, length_push, replicate-append-replicate, reverse-append, set-get_or}
pub use Rattle.std.proofs.lemmas.List.Elements.{All-append, All-cons, All-nil, All-pop}
pub use Rattle.std.proofs.lemmas.Option.{none-some, same_Some}
pub use Rattle.std.specs.Mem.Slots.{slots_filled, slots_items, slots_len}
pub use Rattle.atomic_table.proofs.Lists.{at_last, at_longer, at_map, exchanged, set_again, set_else, set_here}
pub use Rattle.atomic_table.specs.Seated.{TableId}
pub use Rattle.atomic_table.specs.Table.{Act, Allows, Final, Joins, Me, Seen, Splits, State, Valid, carried_after, gives, homes_after, keeps, rest, step, takes}
pub use Rattle.laws.proofs.Bools.{and_false}
pub use Rattle.laws.proofs.Places.{valued, valued_else, valued_here}
pub use Rattle.live_doors.proofs.Calls.{NotedSoFar}
pub use Rattle.live_doors.specs.Beside.{AreEntriesOf, AreRowsOf, EntryRows, KeeperRows}
pub use Rattle.live_doors.specs.Doors.{HasNoted, HoldsEntry, IsShut, MayBind, acknowledged, first_watch, forgotten, having_noted, having_read, raised, shut}
pub use Rattle.live_doors.specs.Kept.{PassOk, PlanOk}
pub use Rattle.live_doors.specs.Laws.{acknowledged_ok, blank_ok, entries_filled, entry_gone, entry_never, filled_ok, filled_row, forgotten_ok, may_bind_by, noted_still, pass_admits, pass_raised, pass_shut, pass_stays, pass_stored, plan_acknowledged, plan_admits, plan_noted, plan_raised, plan_shut, plan_stored, rows_noted, seats_stay, when_admitted, when_bound, when_closed}
pub use Rattle.live_doors.specs.Steps.{ack_at, door_at, filled}
pub use Rattle.live_doors.specs.declared.rule.TheConstants.{MOST_CPUS}
pub use Rattle.live_doors.specs.declared.views.Walk.{Walk}
pub use Rattle.live_doors.specs.declared.views.Watch.{Watch}
pub use Rattle.live_pages.specs.Ending.{AllInIsLegal, EndIsLegal, HasNext, IsLeftAfterAll, IsOfOneThread, all_bindings, ended_bindings, in_order, last_bindings, pages_after, touches_in, touches_in_first}
pub use Rattle.live_pages.specs.Kept.{AllIn, AreOfBindings, BookOk, EntryIsCurrent, HandOk, HaveLeft, IsClearOf, IsCurrent, Kept, Known, MayBindHasNoHolder, SeatOk, SlotsOk, TurnsOk, WalkerOk}
pub use Rattle.live_pages.specs.Models.{AreAll, AreNew, HavePages, HaveZeroPages, IsKeeperOf, IsPassOf, KeeperFits, KeeperModel, PagesModel, PassFits, PassModel, SameButWatch, first_passes, having_touched, rebound, taking_all_in, taking_in}
pub use Rattle.live_pages.specs.Touches.{AreBelow, AreOfOneThread, Given, IsLegal, after, after_all, answer, by_ticket, ended_of, is_of, mine, mine_if, page_given, touched, touched_if, touching, with_ticket}
pub use Rattle.live_pages.specs.Turns.{Acknowledges, Binds, Closes, Draws, Fills, Forgets, Gives, KeeperGives, KeeperTakes, Looks, Raises, Seat, Takes, admitted, binding_at, binding_in, bound_anew, current, first_holder, hand_of, having_made, holder_of, keeper_with_pass, opening_words, page_of, pass_of_keeper, shown, taken, taken_in, ticket_at, turn_at, turn_of, walker_of, walking, watching}
pub use Rattle.live_pages.specs.declared.rule.Held.{Held}
pub use Rattle.live_pages.specs.declared.rule.Size.{Size}
pub use Rattle.live_pages.specs.declared.touch.Bound.{Bound}
pub use Rattle.live_pages.specs.declared.touch.Made.{Made}
pub use Rattle.live_pages.specs.declared.views.Hand.{Hand}
pub use Rattle.live_pages.specs.declared.views.Hand.TheVariants.{Free, Has}
pub use Rattle.live_pages.specs.declared.views.Holder.{Holder}
pub use Rattle.live_pages.specs.declared.views.Part.{Part}
pub use Rattle.live_pages.specs.declared.views.Part.TheVariants.{In, Out}
pub use Rattle.live_pages.specs.declared.views.View.{View}
pub use Rattle.live_pages.specs.declared.views.View.TheVariants.{Keeping, Passing, Spent}
pub use Rattle.live_pages.specs.declared.views.Walker.{Walker}
