-- The names that the proofs of this crate take from elsewhere.
pub use Rattle.std.proofs.Common.{All, Bool, List, Option, Some, [], add-one, ap, arith, cond, drop, eqb, false, get_or, get_or-set_other, get_or-set_same, length, length-set, map, mod-lt, option_to_list, refl, replicate, reverse, rules, set, slice_index, string_bytes, subst, suc, sum, sym, take, true, vec_capacity, vec_len, zero, ℕ, ◌%◌, ◌&&◌, ◌*◌, ◌++◌, ◌+◌, ◌-◌, ◌/◌, ◌<◌, ◌^◌, ◌∙◌, ◌∷◌, ◌≡◌, ◌≢◌, ◌≤◌}
pub use Rattle.std.proofs.Math.Seq.{get_or-append_seam}
pub use Rattle.std.proofs.lemmas.Bool.{eq-eqb, ne_eqb}
pub use Rattle.std.proofs.lemmas.List.{get_or-append-add, get_or-replicate, get_or_append_left, length-append, length-replicate, length-reverse, map-append, reverse-append, reverse-reverse, take-append-le, take_all}
pub use Rattle.std.proofs.lemmas.List.Elements.{All-pop, All-push}
pub use Rattle.std.proofs.lemmas.List.Sums.{sum_by-append}
unfoldable pub use Rattle.draws.specs.Draws.{drawn, next_state}
pub use Rattle.live_doors.specs.Doors.{OnlyNoted}
pub use Rattle.live_doors.specs.declared.rule.TheConstants.{MOST_CPUS}
pub use Rattle.live_doors.specs.declared.views.Watch.{Watch}
pub use Rattle.live_pages.proofs.AllIn.{parts_stay}
pub use Rattle.live_pages.proofs.Calls.{first_count}
pub use Rattle.live_pages.specs.Ending.{Binding, IsLeftAfterAll, IsOfOneThread, all_bindings, ended_bindings, in_order, last_bindings, made_by, pages_after, touches_in}
pub use Rattle.live_pages.specs.Kept.{AreOfBindings}
pub use Rattle.live_pages.specs.Models.{AreAll, IsKeeperOf, IsPassOf, KeeperModel, PagesModel, PassModel, SameButWatch, first_passes, taking_all_in}
pub use Rattle.live_pages.specs.Touches.{AreInTurn, Given, after_all, ended_of, is_of, mine, mine_if, page_given, touched, touched_if, touching}
pub use Rattle.live_pages.specs.Turns.{current, first_walker}
pub use Rattle.live_pages.specs.declared.touch.Bound.{Bound}
pub use Rattle.live_pages.specs.declared.touch.Made.{Made}
pub use Rattle.live_pages.specs.declared.touch.Touch.{Touch}
pub use Rattle.live_pages.specs.declared.touch.Touch.TheVariants.{Add}
pub use Rattle.live_pages.specs.declared.views.Holder.{Holder}
pub use Rattle.live_pages.specs.declared.views.Part.TheVariants.{In, Out}
pub use Rattle.drill.specs.Roles.{AreDone, EachRole, HasDone, IsFresh, IsKept, RoleDone, RoleFresh, TookZeros, done, first_words, made_count, missing, words_left, words_to}
pub use Rattle.drill.specs.Texts.{sum_lines}
pub use Rattle.drill.specs.Work.{AreFirstOf, add_at, added, deed, state_after, sum_of, sums_of, word_at, work_of}
pub use Rattle.drill.specs.declared.roles.Role.{Role}
pub use Rattle.drill.specs.declared.roles.Role.TheVariants.{Works}
pub use Rattle.drill.specs.declared.worker.Worker.{Worker}
