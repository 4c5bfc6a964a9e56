-- The names that the proofs of this crate take from elsewhere.
pub use Rattle.std.proofs.Common.{Bool, Err, List, Ok, OnOk, Result, [], add-one, ap, append-nil, append_assoc, arith, codes, false, if◌then◌else◌, nat_lt, not, refl, string_bytes, suc, sum_by, sym, true, zero, ℕ, ◌*◌, ◌++◌, ◌+◌, ◌-◌, ◌<◌, ◌∙◌, ◌∷◌, ◌≡◌, ◌≤◌}
pub use Rattle.std.proofs.lemmas.Bool.{and_from, and_parts}
pub use Rattle.std.proofs.lemmas.Bool.Decides.{nat_tests}
pub use Rattle.std.proofs.lemmas.Fmt.{decimal_digit}
pub use Rattle.std.proofs.lemmas.Grind.{flat_map-append}
pub use Rattle.std.proofs.lemmas.List.{flat_map_more}
pub use Rattle.std.proofs.lemmas.List.Sums.{sum_by-append, sum_by-cons}
pub use Rattle.std.specs.Fmt.{decimal}
unfoldable pub use Rattle.std.specs.Fmt.{digits}
pub use Rattle.std.specs.List.{list_all}
pub use Rattle.mnames.specs.Names.{is_label_byte, is_name_byte}
unfoldable pub use Rattle.mnames.specs.Names.{is_label, is_name}
pub use Rattle.mnames.specs.Principals.{default_project}
unfoldable pub use Rattle.mnames.specs.Principals.{row_text, who_text}
pub use Rattle.draws.proofs.Bounds.{drawn_below}
pub use Rattle.draws.specs.Draws.{drawn}
pub use Rattle.script.specs.Forms.{IsPlan, is_end, is_who, weight}
unfoldable pub use Rattle.script.specs.Forms.{are_apart, ends_once, is_command, is_path, is_process, is_volume, weight_of}
pub use Rattle.script.specs.Grammar.{script_of}
pub use Rattle.script.specs.Plans.{Plan}
pub use Rattle.script.specs.Scripts.{ended}
unfoldable pub use Rattle.script.specs.Scripts.{begin_text, commands_text, head_text, machine_text, print_text, process_text, processes_text, quota_text, script_text, volume_text}
unfoldable pub use Rattle.script.specs.Texts.{arguments_text, command_text, mode_text, path_fields_text, reference_text, sign_text, word_text}
pub use Rattle.script.specs.declared.commands.Command.{Command, Command as command}
pub use Rattle.script.specs.declared.plan.VolumeLine.{VolumeLine}
pub use Rattle.make_work.specs.Day.{counter, initializer, numbered, own, reference_count, shared, user_name, users}
unfoldable pub use Rattle.make_work.specs.Day.{day_of, made, user}
pub use Rattle.make_work.specs.Lines.{lines_of, opening_text, users_text}
unfoldable pub use Rattle.make_work.specs.Lines.{user_text}
pub use Rattle.make_work.specs.References.{kind_of, second, state_after, third}
unfoldable pub use Rattle.make_work.specs.References.{reference_at, references, state_at}
