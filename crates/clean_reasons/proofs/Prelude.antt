-- The names that the proofs of this crate take from elsewhere.
pub use Rattle.std.proofs.Common.{Bool, List, None, Option, Some, ap, arith, false, get_or, inl, inr, leb, length, ltb, refl, rules, subst, sym, true, ℕ, ◌&&◌, ◌*◌, ◌+◌, ◌<◌, ◌||◌, ◌∙◌, ◌≡◌, ◌≢◌, ◌≤◌}
pub use Rattle.std.proofs.lemmas.Bool.{cases_lt, le-leb, leb-true, lt-leb, lt-ltb, ltb-true}
pub use Rattle.std.proofs.lemmas.List.{get_or_past}
pub use Rattle.std.specs.Bool.{Decides}
pub use Rattle.std.specs.Option.{is_some, unwrap_or}
pub use Rattle.std.specs.Prelude.{Err, IfNone, IfSome, IsSomeAnd, MatchOption, Ok, Result, count_by}
pub use Rattle.laws.proofs.Bools.{not_both}
pub use Rattle.laws.proofs.Numbers.{eqb_self}
pub use Rattle.script.specs.Plans.{Plan, command_at}
pub use Rattle.script.specs.declared.commands.Command.{Command}
pub use Rattle.book.specs.declared.entries.Entry.{Entry}
pub use Rattle.book.specs.declared.replies.Reply.{Reply}
pub use Rattle.tree_model.specs.Tree.{Node, node_in, pool_of}
pub use Rattle.flat_model.specs.Branches.{segment_at}
pub use Rattle.flat_model.specs.Pages.{without_words}
unfoldable pub use Rattle.flat_model.specs.Pages.{is_zero_page}
pub use Rattle.flat_model.specs.Sizes.{is_lost}
pub use Rattle.flat_model.specs.Store.{Store}
pub use Rattle.custody_model.specs.Allowed.{IsAllowed, MayActivate, MayBeHere, MayDeactivate, MayGo, MayJoin, MayLeave, MaySignal, MayStart, MayTakeSeg, NamesAllGoing, is_active_in, pool_size, superior_in}
pub use Rattle.custody_model.specs.Custody.{Custody, bound_page, is_uid, page_of, uid_of_page}
pub use Rattle.custody_model.specs.Effects.{HasNoDescriptor, HasNoPage, LosesNoPage, MayTakeEffect, OfNode}
pub use Rattle.custody_model.specs.declared.FrameUse.{FrameUse}
pub use Rattle.flat_store.specs.Shown.{Shows, pool_at, superior_at}
pub use Rattle.custody.proofs.ActiveLaws.{count_active}
pub use Rattle.custody.specs.Tables.{AreKept, AreNodes, AreTablesOf, Tables, active_at, custody_of, is_in_pool, seat_at}
pub use Rattle.custody.specs.Uses.{frame_at}
pub use Rattle.clean_reasons.specs.Answers.{HoldsBoth}
pub use Rattle.clean_reasons.specs.Reasons.{ActiveSays, AreRefusals, CommandSays, DescriptorSays, EffectSays, FrameSays, IsSo, ReadySays, SeatSays}
pub use Rattle.clean_reasons.specs.Rows.{IsActiveOf, IsCommandOf, IsCut, IsDescriptorOf, IsEffectOf, IsFrameOf, IsOfCut, IsOfEffect, IsOfLoss, IsOfNode, IsOfTruncate, IsReadyOf, IsSeatOf, IsTakenPage}
pub use Rattle.clean_reasons.specs.Seeking.{HasLostNone, IsLostPage, LosesPage, frame_passes, lead_passes, seat_passes}
unfoldable pub use Rattle.clean_reasons.specs.Texts.{active_text, command_text, descriptor_text, effect_text, frame_text, ready_text, seat_text}
pub use Rattle.clean_reasons.specs.declared.reasons.ActiveReason.{ActiveReason}
pub use Rattle.clean_reasons.specs.declared.reasons.CommandReason.{CommandReason}
pub use Rattle.clean_reasons.specs.declared.reasons.DescriptorReason.{DescriptorReason}
pub use Rattle.clean_reasons.specs.declared.reasons.EffectReason.{EffectReason}
pub use Rattle.clean_reasons.specs.declared.reasons.FrameReason.{FrameReason}
pub use Rattle.clean_reasons.specs.declared.reasons.Loss.{Loss}
pub use Rattle.clean_reasons.specs.declared.reasons.PageOf.{PageOf}
pub use Rattle.clean_reasons.specs.declared.reasons.ReadyReason.{ReadyReason}
pub use Rattle.clean_reasons.specs.declared.reasons.SeatReason.{SeatReason}
