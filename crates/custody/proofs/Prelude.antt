-- The names that the proofs of this crate take from elsewhere.
pub use Rattle.std.proofs.Common.{Bool, Err, List, None, Ok, Option, Result, Some, [], ap, append-nil, append_assoc, arith, cond, drop, eqb, ext_get_or, false, get_or, inl, inr, length, length-append, length-set, ltb, map, not, refl, replicate, rules, set, subst, suc, sym, take, true, zero, ℕ, ℤ, ◌&&◌, ◌++◌, ◌+◌, ◌-◌, ◌<◌, ◌^◌, ◌∙◌, ◌∷◌, ◌≡◌, ◌≢◌, ◌≤◌, ◌⊎◌}
pub use Rattle.std.proofs.lemmas.Bool.{or_parts}
pub use Rattle.std.proofs.lemmas.Bool.Decides.{Decides-eqb, eqb_tells, leb_tells, nat_tests}
pub use Rattle.std.proofs.lemmas.List.{get_or-set_other, get_or-set_same, length-replicate, set-get_or}
pub use Rattle.std.proofs.lemmas.List.Sums.{sum_by-cons, sum_by-set}
pub use Rattle.std.specs.Bool.{Decides}
pub use Rattle.std.specs.Int.{is_positive}
pub use Rattle.std.specs.Int.RustNames.{unsigned_abs}
pub use Rattle.std.specs.List.{filter, list_any}
pub use Rattle.std.specs.Option.{unwrap_or}
pub use Rattle.std.specs.Prelude.{IsSomeAnd, is_some, sum_by}
pub use Rattle.laws.proofs.Bools.{bit_le, not_both, not_true}
pub use Rattle.laws.proofs.Lists.{all_same}
pub use Rattle.laws.proofs.Numbers.{eqb_self}
pub use Rattle.laws.proofs.Options.{on_ok}
pub use Rattle.mnames.specs.declared.modes.Mode.{Mode}
pub use Rattle.mnames.specs.declared.rows.Row.{Row as Named}
pub use Rattle.script.specs.Plans.{Plan, command_at, who_of}
pub use Rattle.script.specs.References.{reference_of}
pub use Rattle.script.specs.declared.commands.Command.{Command}
pub use Rattle.script.specs.declared.commands.RefKind.{RefKind}
pub use Rattle.script.specs.declared.commands.Reference.{Reference}
pub use Rattle.assoc_mem.specs.declared.What.{What}
pub use Rattle.book.specs.declared.entries.Entry.{Entry}
pub use Rattle.book.specs.declared.replies.Reply.{Reply}
pub use Rattle.tree_model.proofs.SharedLaws.{found_uid, node_without}
pub use Rattle.tree_model.specs.Access.{Row, with_row}
pub use Rattle.tree_model.specs.Quotas.{getter_of, giver_of, with_quota_of}
pub use Rattle.tree_model.specs.Tree.{Node, above, node_in, pool_of, without_node}
pub use Rattle.known_segs.specs.Known.{uid_of}
pub use Rattle.flat_model.specs.Branches.{branch_at, changed, directory_at, parts_of, segment_at}
unfoldable pub use Rattle.flat_model.specs.Branches.{node_at}
pub use Rattle.flat_model.specs.Commands.{effect_by, effect_of, effect_of_tree_command, reply_to_command, takes_effect}
unfoldable pub use Rattle.flat_model.specs.Commands.{after_command}
pub use Rattle.flat_model.specs.Legal.{IsAnswer, after_do}
unfoldable pub use Rattle.flat_model.specs.Legal.{IsLawful, after_entry}
pub use Rattle.flat_model.specs.Making.{deleted, made_at, made_of, owner_row}
unfoldable pub use Rattle.flat_model.specs.Making.{after_delete, after_make}
pub use Rattle.flat_model.specs.Moves.{moved as rehomed}
pub use Rattle.flat_model.specs.Naming.{initiated}
unfoldable pub use Rattle.flat_model.specs.Naming.{after_initiate, after_terminate}
pub use Rattle.flat_model.specs.Pages.{without_words}
pub use Rattle.flat_model.specs.References.{written_by}
unfoldable pub use Rattle.flat_model.specs.References.{after_reference}
pub use Rattle.flat_model.specs.Rights.{moved, row_with}
unfoldable pub use Rattle.flat_model.specs.Rights.{after_acl, after_move}
pub use Rattle.flat_model.specs.Sizes.{truncated}
unfoldable pub use Rattle.flat_model.specs.Sizes.{after_length, after_truncate}
pub use Rattle.flat_model.specs.Store.{Store, known_uid}
pub use Rattle.custody_model.proofs.SharedLaws.{range_end}
pub use Rattle.custody_model.specs.Allowed.{GoesDescriptor, GoesPage, IsAllowed, MayActivate, MayAnswer, MayDeactivate, NobodyHoldsPage, NobodyHoldsSeg, is_device, next_command, superior_in}
pub use Rattle.custody_model.specs.Custody.{Seat, bound_page, cleared, has, is_current_descriptor, is_current_frame, is_going_descriptor, is_going_frame, is_started, is_uid, leads_to, names_descriptor, names_frame, names_number, nothing_held, offline, page_of, range, ready_at_first, uid_of_page}
pub use Rattle.custody_model.specs.Effects.{HasNoDescriptor, HasNoPage, IsInNoFrame, IsOutOfUse, LosesNoPage, MayTakeEffect, OfNode}
pub use Rattle.custody_model.specs.Next.{is_try, queued, released_by, signalled, told, with_active, with_descriptor, with_frame, with_seat}
unfoldable pub use Rattle.custody_model.specs.Next.{custody_next}
pub use Rattle.custody_model.specs.declared.DescriptorUse.{DescriptorUse}
pub use Rattle.custody_model.specs.declared.FrameUse.{FrameUse}
pub use Rattle.flat_store.specs.Shown.{Kept, Shows, pool_at, superior_at, uid_at}
pub use Rattle.arrayvec.proofs.ArrayVecLemmas.{filter-from_retain}
pub use Rattle.custody.specs.Changes.{Advances, drop_at, dropped, is_of_frame, is_of_seat, names_held, names_lead, names_use, put_active, put_descriptor, put_frame, put_seat, put_use, warn_from, warn_others, warned, with_place}
pub use Rattle.custody.specs.Counts.{AreFew, Counted, Keeps, Shifts, count_at, key_bit}
pub use Rattle.custody.specs.Tables.{AreActive, AreApart, AreKept, AreNodes, AreTablesOf, CanJoin, DescriptorsAreNamed, IsAsActivated, IsUnused, Tables, active_at, custody_of, is_in_pool, pool_key, row_at, seat_at, superior_of, use_in}
pub use Rattle.custody.specs.Uses.{AreDescriptors, AreFewUses, AreFrames, IsTally, KeepUses, ShiftUses, UseCounted, descriptor_at, descriptor_mark, frame_at, frame_mark, going_key, is_page, is_page_from, kind_key, page_key, page_number, started_key, uid_key}
pub use Rattle.custody.specs.declared.active.ActiveUse.{ActiveUse}
