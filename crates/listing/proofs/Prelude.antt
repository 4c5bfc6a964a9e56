-- The names that the proofs of this crate take from elsewhere.
pub use Rattle.std.proofs.Common.{Bool, List, None, Option, Some, [], add-one, ap, arith, cond, eqb, false, filter, get_or, inl, inr, is_some, length, min, refl, reverse, string_bytes, subst, suc, sym, take, true, zero, ℕ, ◌++◌, ◌+◌, ◌<◌, ◌∙◌, ◌∷◌, ◌≡◌, ◌≤◌}
pub use Rattle.std.proofs.lemmas.Bool.{cases_Bool, cases_eq}
pub use Rattle.std.proofs.lemmas.Bool.Decides.{nat_tests}
pub use Rattle.std.proofs.lemmas.Grind.{common_steps}
pub use Rattle.std.proofs.lemmas.List.{append-nil, append_assoc, flat_map_more, get_or_append_left, get_or_push, length_push, take_all, take_more}
pub use Rattle.std.proofs.lemmas.List.Concat.{flat_map-append}
pub use Rattle.std.proofs.lemmas.Result.{IfOk-weaker}
pub use Rattle.std.proofs.lemmas.Slice.Zip.{zip_end, zip_turn}
pub use Rattle.std.specs.List.{flat_map}
pub use Rattle.std.specs.Prelude.{if◌then◌else◌, nat_lt, not, ◌&&◌, ◌||◌}
pub use Rattle.mnames.specs.Names.{names_text}
pub use Rattle.mnames.specs.declared.principals.Who.{Who}
pub use Rattle.script.specs.Plans.{Plan, ProcessPlan, command_at, nobody, who_of}
pub use Rattle.script.specs.declared.plan.VolumeLine.{VolumeLine}
pub use Rattle.book.specs.declared.entries.Entry.{Entry}
pub use Rattle.tree_model.proofs.ChainLaws.{has_chains, under_more}
pub use Rattle.tree_model.proofs.SharedLaws.{directory_there, found_uid, older as below_joined, older as later_joined}
pub use Rattle.tree_model.specs.Tree.{Node, above, node_in, quota_in, step_up}
unfoldable pub use Rattle.tree_model.specs.Tree.{used_by}
pub use Rattle.tree_model.specs.Trees.{AreBelow, AreUnder, IsTree, Joins}
pub use Rattle.dir_tree.specs.Nodes.{as_term}
pub use Rattle.dir_tree.specs.declared.node.Node.{Node as Branch}
pub use Rattle.accounts.specs.Maps.{Counts}
pub use Rattle.flat_model.specs.Legal.{is_part}
unfoldable pub use Rattle.flat_model.specs.Legal.{part, store_after}
pub use Rattle.flat_model.specs.Store.{Store}
pub use Rattle.flat_store.specs.Shown.{Kept, Shows}
pub use Rattle.listing.specs.Gathered.{account_at, as_list, rest_of, volume_of}
pub use Rattle.listing.specs.Listings.{AccountCount, Summary, VolumeCount, account_count, entry_line, own_line, processes_lines, trail_of, trail_up, use_of, uses_of, volumes_of}
unfoldable pub use Rattle.listing.specs.Listings.{account_text, accounts_of, answer_line, body_of, full_line, listing_of, process_line, process_lines, summary_of, summary_text, volume_text}
pub use Rattle.listing.specs.declared.counts.VolumeUse.{VolumeUse}
