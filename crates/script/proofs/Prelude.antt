-- The names that the proofs of this crate take from elsewhere.
pub use lib.Count.{count_trailing_zeros}
pub use lib.Lanes.{chunk, mask_l, top}
pub use Rattle.std.proofs.Common.{Bool, Err, Fits, List, None, Ok, Option, Result, Some, [], add-one, ap, append_assoc, arith, codes, cond, drop, drop-cons, eqb, false, flat_map, fold, get_or, inl, inr, length, ltb, map, nat_le, nat_lt, neg_ℤ, negsuc, not, pos, refl, slice_index_or, string_bytes, subst, suc, sum_by, sym, take, true, w8, zero, ℕ, ℤ, ◌%◌, ◌&&◌, ◌*◌, ◌++◌, ◌+◌, ◌-◌, ◌/◌, ◌<◌, ◌^◌, ◌∙◌, ◌∷◌, ◌≡◌, ◌≢◌, ◌≤◌, ◌⊎◌}
pub use Rattle.std.proofs.Math.Nat.{pow-le-pow_right}
pub use Rattle.std.proofs.lemmas.Bool.{agree_below, agree_below_at, and_from, cases_lt, false_from_ne_true, not-false, not-true, or_from, or_parts}
pub use Rattle.std.proofs.lemmas.Bool.Decides.{nat_tests}
pub use Rattle.std.proofs.lemmas.Fmt.{decimal_by_steps, decimal_nonempty, length-decimal-le}
pub use Rattle.std.proofs.lemmas.Grind.{common_steps}
pub use Rattle.std.proofs.lemmas.List.{length-append, length-map, take_all, take_at}
pub use Rattle.std.proofs.lemmas.List.Folds.{list_all-append, list_all_more, list_any-append}
pub use Rattle.std.proofs.lemmas.List.Sums.{sum_by-append, sum_by-cons}
pub use Rattle.std.proofs.lemmas.Nat.{pow-add}
pub use Rattle.std.proofs.lemmas.Simd.{leading_from_mask_l, length-chunk, map-map, mask_l-mod, run_in_chunk_fails, run_in_chunk_le, run_in_chunk_stops, trailing_mask_l, zip2_of_maps, zip2_splat, zip2_splat_left}
pub use Rattle.std.proofs.lemmas.Slice.Eq.{bytes_eq-Decides}
pub use Rattle.std.specs.Char.{is_ascii_digit}
pub use Rattle.std.specs.Fmt.{decimal}
pub use Rattle.std.specs.Int.{is_negative}
pub use Rattle.std.specs.Int.RustNames.{unsigned_abs}
pub use Rattle.std.specs.List.{AllByRecursion, list_all, list_any, prefix_len}
pub use Rattle.std.specs.Prelude.{IfSome}
pub use Rattle.std.specs.Str.{bytes_eq}
pub use Rattle.laws.proofs.Bools.{and_false, and_parts, first_false, not_true as is_false, not_true, second_false}
pub use Rattle.laws.proofs.Lists.{length_push}
pub use Rattle.laws.proofs.Numbers.{lt_from}
pub use Rattle.mword.proofs.OctalLaws.{length-octal_digits, octal_below, octal_bound_more, octal_digits_all, octal_reads_back}
pub use Rattle.mword.specs.Octal.{is_octal_digit}
unfoldable pub use Rattle.mword.specs.Octal.{is_octal, octal_digits, octal_number, octal_value}
pub use Rattle.mnames.proofs.PrincipalTexts.{row_again, who_again}
pub use Rattle.mnames.specs.Names.{IsLabel, IsName, IsPath, is_label_byte, is_name_byte, names_text, path_text}
unfoldable pub use Rattle.mnames.specs.Names.{is_label, is_name}
pub use Rattle.mnames.specs.Principals.{IsRow, IsWho, after_dot, any_text, before_dot, default_project, parts_text, row_alone, row_or, row_parts_text, row_with}
unfoldable pub use Rattle.mnames.specs.Principals.{part_of, row_of, row_text, who_of, who_text}
pub use Rattle.mnames.specs.declared.modes.Mode.{Mode, Mode as mode}
pub use Rattle.mnames.specs.declared.principals.Who.{Who}
pub use Rattle.mnames.specs.declared.rows.Row.{Row}
pub use Rattle.text_model.proofs.FieldLaws.{NoSpaceBefore, field_last, fields_nil}
pub use Rattle.text_model.proofs.LineLaws.{front_closes, line_found, line_unfed}
pub use Rattle.text_model.proofs.LineSteps.{NoFeedBefore, drop_at, line_byte, line_feed, line_last, no_lines}
pub use Rattle.text_model.specs.Lines.{onto_field, onto_piece}
unfoldable pub use Rattle.text_model.specs.Lines.{fields_of, lines_of}
pub use Rattle.script.specs.CommandLists.{ListPlan, Lists, listed, longer}
unfoldable pub use Rattle.script.specs.Commands.{acl_of, add_of, await_of, command_of, delete_of, end_of, initiate_of, length_of, mkdir_of, mkseg_of, move_of, other_command_of, path_alone, path_and_number, place_and_word, place_in, read_of, reference_or, status_of, terminate_of, truncate_of, write_of}
pub use Rattle.script.specs.Drafts.{AreBulks, AreFails, DraftPlan, IsAt, IsDraft, begun, begun_at, blank, goes_on, has_volume, initializer_who, is_early, is_head, is_inside, reach}
pub use Rattle.script.specs.Fields.{IsFront, IsPrintableTo, if_path, is_printable_byte}
unfoldable pub use Rattle.script.specs.Fields.{decimal_value, decimal_value_from, is_printable, path_of, pieces_of}
pub use Rattle.script.specs.Forms.{ArePools, BeginsWithInitializer, IsPlan, has_name, have_own_names, have_own_volumes, is_before, is_end, is_from, is_part, is_place, is_row, is_who, is_word, records_of, weight}
unfoldable pub use Rattle.script.specs.Forms.{are_apart, ends_once, is_bulk, is_command, is_fail, is_path, is_process, is_volume, weight_of}
pub use Rattle.script.specs.Grammar.{after_number, is_comment, is_whole, whole_or_missing}
unfoldable pub use Rattle.script.specs.Grammar.{finished, line_after, numbered, script_of, text_after}
pub use Rattle.script.specs.Heads.{added, bulk_line, fail_line, process_line, volume_line, with_command}
unfoldable pub use Rattle.script.specs.Heads.{command_line, fail_in, later_at, line_at, new_volume_in, pools_in}
pub use Rattle.script.specs.Lines.{ends_with_plus, found_or, in_range, name_in, only_if, path_in, row_in, who_in, word_in, ◌>>=◌}
unfoldable pub use Rattle.script.specs.Lines.{amount_in, call_in, four_fields, is_write_in, mode_in, new_name_in, next_field, no_fields, number_from, number_in, one_field, print_in, six_fields, three_fields, two_fields, volume_in}
pub use Rattle.script.specs.Plans.{Plan, ProcessPlan}
pub use Rattle.script.specs.Readers.{Steps}
pub use Rattle.script.specs.Scripts.{call_text, ended, numbers_text, onward_text}
unfoldable pub use Rattle.script.specs.Scripts.{begin_text, bulk_text, commands_text, fail_text, head_text, machine_text, print_text, process_text, processes_text, quota_text, script_text, volume_text}
pub use Rattle.script.specs.Texts.{volume_name}
unfoldable pub use Rattle.script.specs.Texts.{arguments_text, command_text, mode_text, path_fields_text, reference_text, sign_text, word_text}
pub use Rattle.script.specs.declared.commands.Command.{Command, Command as command}
pub use Rattle.script.specs.declared.drafts.LineFault.{LineFault, LineFault as fault}
pub use Rattle.script.specs.declared.drafts.Stage.{Stage, Stage as stage}
pub use Rattle.script.specs.declared.plan.Bulk.{Bulk}
pub use Rattle.script.specs.declared.plan.Fail.{Fail}
pub use Rattle.script.specs.declared.plan.Print.{Print, Print as print}
pub use Rattle.script.specs.declared.plan.TheConstants.{MOST_PROCESSORS}
pub use Rattle.script.specs.declared.plan.VolumeLine.{VolumeLine}
pub use Rattle.script.specs.declared.refusals.Cause.{Cause, Cause as cause}
pub use Rattle.script.specs.declared.refusals.Refusal.{Refusal}
