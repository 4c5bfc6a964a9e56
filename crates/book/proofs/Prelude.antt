-- The names that the proofs of this crate take from elsewhere.
pub use Rattle.std.proofs.Common.{All, Bool, Bor, IfSome, IsTrue, List, None, Option, Some, [], add-one, ap, arith, cond, drop, drop-cons, eq-eqb, eqb, false, get_or, if◌then◌else◌, inl, inr, length, length-append, ltb, map, nat_le, nat_lt, not, refl, rules, subst, suc, sym, take, true, zero, ℕ, ◌&&◌, ◌*◌, ◌++◌, ◌+◌, ◌-◌, ◌<◌, ◌^◌, ◌||◌, ◌↔◌, ◌∙◌, ◌∷◌, ◌≡◌, ◌≢◌, ◌≤◌, ◌⊎◌}
pub use Rattle.std.proofs.Math.Seq.{drop-append-add, take-suc}
pub use Rattle.std.proofs.lemmas.Bool.{cases_Bool, cases_lt, le-ltb, lt-ltb}
pub use Rattle.std.proofs.lemmas.Bool.Decides.{eqb_tells, nat_tests}
pub use Rattle.std.proofs.lemmas.Fmt.{decimal-digits_value, decimal_digit, decimal_nonempty, digits_decimal, digits_value-decimal, first_decimal, length-decimal-le}
pub use Rattle.std.proofs.lemmas.Grind.{common_steps}
pub use Rattle.std.proofs.lemmas.List.{append_assoc, drop-append-le, drop-drop, drop_all, length-map, map-append, take_all, take_at}
pub use Rattle.std.proofs.lemmas.List.Elements.{All-cons, All-from_get_or, All-nil}
pub use Rattle.std.proofs.lemmas.List.Folds.{list_all-append, list_any-append}
pub use Rattle.std.proofs.lemmas.List.Splits.{join_with_byte-slice_split, length-slice_split, slice_split_at, slice_split_none}
pub use Rattle.std.proofs.lemmas.List.Sums.{passes_at_first, split_at_first}
pub use Rattle.std.proofs.lemmas.Slice.Eq.{bytes_eq-Decides}
pub use Rattle.std.proofs.lemmas.Str.Parse.{IsNumeralModel, numerals_by_value}
pub use Rattle.std.specs.Char.{digit_value, is_ascii_digit}
pub use Rattle.std.specs.Cmp.Lexicographic.{bytes_decides}
pub use Rattle.std.specs.Fmt.{decimal}
pub use Rattle.std.specs.List.{AllByRecursion, after_first, before_first, join_with_byte, list_all, list_any, position, position_or_len, slice_split}
pub use Rattle.std.specs.Option.{option_and_then, option_map}
pub use Rattle.std.specs.Prelude.{codes, ◌%◌, ◌/◌, ◌==◌}
pub use Rattle.std.specs.Str.{bytes_eq}
pub use Rattle.std.specs.Str.Parse.{digits_value, digits_value_after}
pub use Rattle.mword.proofs.OctalLaws.{length-octal_digits, octal_digits_all, octal_number_digits, octal_number_push}
pub use Rattle.mword.specs.Octal.{is_octal_digit, octal_number}
unfoldable pub use Rattle.mword.specs.Octal.{is_octal, octal_digits, octal_value}
pub use Rattle.script.specs.Fields.{up_to}
unfoldable pub use Rattle.script.specs.Fields.{decimal_value, decimal_value_from, number_of as script_number}
pub use Rattle.assoc_mem.specs.declared.What.{What, What as what}
pub use Rattle.book.specs.Books.{AnswersUpTo, is_answer}
unfoldable pub use Rattle.book.specs.Entries.{counted_text, entry_text, number_text, what_text}
pub use Rattle.book.specs.Reading.{IsEntry, IsReply, IsSmall, IsWhat, answered_of, back, bare_reply, both, do_of, dotted_of, dropped_of, entry_of_words, fault_of, fill_of, filled, gone, is_dot, is_number, is_plain, is_space, named_of, number_or_none, numbered_reply, of_one, of_three, of_two, plain_of, status_of, status_reply, triple, what_of}
unfoldable pub use Rattle.book.specs.Reading.{entry_of, named_reply, number_of, reply_of, word_of}
pub use Rattle.book.specs.Replies.{bare_replies, reply_numbers}
unfoldable pub use Rattle.book.specs.Replies.{bare_text, reply_text}
pub use Rattle.book.specs.declared.entries.Entry.{Entry, Entry as entry}
pub use Rattle.book.specs.declared.reading.Named.{Named, Named as named}
pub use Rattle.book.specs.declared.replies.Reply.{Reply, Reply as reply}
