-- The names that the proofs of this crate take from elsewhere.
pub use Rattle.std.proofs.Common.{Bool, Err, List, [], add-one, ap, arith, drop, drop-cons, false, get_or, inl, inr, length, map, refl, rules, subst, suc, sym, take, true, zero, ℕ, ◌++◌, ◌+◌, ◌-◌, ◌<◌, ◌^◌, ◌∙◌, ◌∷◌, ◌≡◌, ◌≤◌}
pub use Rattle.std.proofs.lemmas.Bool.{false≢true}
pub use Rattle.std.proofs.lemmas.Grind.{common_steps}
pub use Rattle.std.proofs.lemmas.List.{append-nil, append_assoc, length-append, map-append, replicate_more, take_more}
pub use Rattle.std.proofs.lemmas.List.Elements.{All-append, All-nil, All-push, All-same}
pub use Rattle.std.proofs.lemmas.List.Folds.{list_any-append}
pub use Rattle.std.proofs.lemmas.List.Sums.{sum_by-cons}
pub use Rattle.std.specs.List.{flat_map, list_any}
pub use Rattle.std.specs.Prelude.{All, IfOk, Ok, OnOk, Result, replicate, string_bytes, sum_by}
pub use Rattle.book.specs.Books.{is_answer}
pub use Rattle.book.specs.declared.entries.Entry.{Entry}
pub use Rattle.bulk_store.specs.AnyDrive.{any_places}
pub use Rattle.draws.proofs.Bounds.{drawn_below}
unfoldable pub use Rattle.draws.specs.Draws.{drawn, next_state}
pub use Rattle.flat_model.proofs.SharedLaws.{front_dropped}
pub use Rattle.listing.proofs.LineLaws.{HasEach}
pub use Rattle.listing.specs.Listings.{AccountCount}
unfoldable pub use Rattle.listing.specs.Listings.{account_text, summary_text}
pub use Rattle.machine.proofs.CallLaws.{counted_on, keeps_on}
pub use Rattle.machine.proofs.RunLaws.{round_made, run_grows, run_keeps}
pub use Rattle.machine.specs.Schedules.{Grows, is_moved, tally, with_room}
pub use Rattle.machine.specs.Turns.{Appends, HaveCounted, IsTurn, KeepsParts, TellsFaults}
pub use Rattle.machine.specs.declared.turn.Turn.{Turn}
pub use Rattle.machine_model.specs.Reads.{flat_of, process_at}
pub use Rattle.outcomes.specs.Tables.{Table}
unfoldable pub use Rattle.outcomes.specs.Tables.{added}
pub use Rattle.runner.proofs.DriveLaws.{all_counted, told_faults, told_still}
pub use Rattle.runner.specs.Drives.{AreTold, faults_in, plan_of}
pub use Rattle.runner.specs.Runs.{IsBooted, Machine}
pub use Rattle.schedule.specs.declared.orders.Line.{Line}
unfoldable pub use Rattle.script.specs.Grammar.{script_of}
pub use Rattle.script.specs.Plans.{Plan}
pub use Rattle.lab_runs.specs.Drawn.{AreAnswered, AreLast, AreTo, Draws, DrawsOne, DrawsOut, DrawsUntil, HasDrawn, IsAnswering, IsEnding, answers, found_end}
pub use Rattle.lab_runs.specs.Orders.{Adds, AreFollowed, CameTo, FollowsOrder, IsAstray, IsFollowed, Strays, StraysIn, Tries, TriesOne, appends, drawn_cpus, entry_begins, is_end, numbers, rounds, state_after}
pub use Rattle.lab_runs.specs.Outcomes.{AddsDrawn, AddsRun, Gathers, accounts_after, replies_of}
pub use Rattle.lab_runs.specs.Runs.{EndsRan, HasRunBy, IsTraceable, RunsAstray}
pub use Rattle.lab_runs.specs.Steps.{AreMade, IsMade, MakesAll, Runs, entries_in, moves_of, processor_of}
pub use Rattle.lab_runs.specs.Traces.{entry_lines, steps_text}
unfoldable pub use Rattle.lab_runs.specs.Traces.{entry_line, step_line}
pub use Rattle.lab_runs.specs.declared.following.Astray.{Astray}
pub use Rattle.lab_runs.specs.declared.following.Trial.{Trial}
pub use Rattle.lab_runs.specs.declared.running.Ran.{Ran}
pub use Rattle.lab_runs.specs.declared.steps.Step.{Step}
