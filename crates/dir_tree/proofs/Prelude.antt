-- The names that the proofs of this crate take from elsewhere.
pub use Rattle.std.proofs.Common.{Bool, List, None, Ok, Option, Some, [], ap, arith, cond, drop, eqb, false, get_or, if◌then◌else◌, inl, inr, is_some, leb, length, map, nat_le, not, refl, replicate, rules, set, subst, suc, sym, take, true, vec_capacity, zero, ℕ, ◌&&◌, ◌++◌, ◌+◌, ◌-◌, ◌<◌, ◌||◌, ◌∙◌, ◌∷◌, ◌≡◌, ◌≢◌, ◌≤◌, ◌⊎◌}
pub use Rattle.std.proofs.lemmas.Bool.{and_from, both_ways, cases_Bool, cases_eq, cases_lt, cases_order, eq-eqb, eqb-true, false_from_ne_true, le-leb, leb-false, lt-leb, lt-ltb, ltb-true, ne_eqb, not_from_false, not_from_true}
pub use Rattle.std.proofs.lemmas.Bool.Decides.{nat_tests}
pub use Rattle.std.proofs.lemmas.Cmp.{nat_cmp_total, nat_list_cmp_total, on_total, ranked, then_total, tied_itself}
pub use Rattle.std.proofs.lemmas.Grind.{common_steps}
pub use Rattle.std.proofs.lemmas.List.{append-nil, append_assoc, at_drop_all, at_drop_more, ext_get_or, get_or-append-add, get_or-map, get_or-replicate, get_or-set_other, get_or-set_same, get_or-take, get_or_append_left, get_or_push, get_or_read, length-append, length-map, length-replicate, length-set, length-take-le, length_push, map-append, replicate-append-replicate}
pub use Rattle.std.proofs.lemmas.List.Edits.{get_or-insert_above, get_or-insert_at, get_or-insert_below, get_or-remove_above, get_or-remove_below, insert-append_left, insert-append_right, length-insert, length-remove, remove-append_left, remove-append_right}
pub use Rattle.std.proofs.lemmas.List.Elements.{filter-append}
pub use Rattle.std.proofs.lemmas.List.Sums.{count_by-le-length, sum_by-cons, sum_by-remove, sum_by_push}
pub use Rattle.std.proofs.lemmas.Map.Text.{is_eq-slice_cmp}
pub use Rattle.std.proofs.lemmas.Option.{same_Some}
pub use Rattle.std.proofs.lemmas.Slice.Eq.{bytes_eq-Decides}
pub use Rattle.std.specs.Cmp.{Equal-is, IsTotalOrder, nat_cmp_is}
pub use Rattle.std.specs.Cmp.Lexicographic.{options_total, slice_cmp}
pub use Rattle.std.specs.List.{concat, filter, find, insert, list_any, remove}
pub use Rattle.std.specs.Option.{option_and_then, option_cmp, option_map}
pub use Rattle.std.specs.Ordering.{MatchOrdering, is_eq, nat_cmp, ordering_then}
pub use Rattle.std.specs.Prelude.{IfNone, IfSome, bytes_eq, count_by, slice_index, ◌^◌, ◌↔◌}
pub use Rattle.std.specs.declared.cmp.Ordering.{Ordering}
pub use Rattle.std.specs.declared.cmp.Ordering.TheVariants.{Equal, Greater, Less}
pub use Rattle.laws.proofs.Lists.{find_passes}
pub use Rattle.laws.proofs.Options.{none_mapped}
pub use Rattle.tree_model.proofs.ChainLaws.{has_chains}
pub use Rattle.tree_model.proofs.Finds.{IsMember, any_found, any_member, branch_found, filter_map_same, find_map, found_front, found_member, member_found, member_left, member_map, member_parts, member_right, past_front}
pub use Rattle.tree_model.proofs.TreeLaws.{IsUp, above_left, above_once, depth, is_below, is_superior_of, lies, not_below, only_branch, root_found, superior_in, superior_is, superior_up, tree_left}
pub use Rattle.tree_model.specs.Access.{Row}
pub use Rattle.tree_model.specs.Tree.{InSegment, LeadsTo, Missing, Node as Term, Walk, above, branch_in, is_branch, is_inferior, node_in, onward, step_up, walk_from, walk_in}
pub use Rattle.tree_model.specs.Trees.{AreBelow, IsBranch, IsTree, Joins}
pub use Rattle.dir_tree.specs.Index.{AreRising, AreShelved, AreWithin, HasPlace, IsOrdered, IsSorted, Key, Places, before, hash_at, key_at, key_of, last_word, no_node, node_at, shelf_at, shelf_of, words_mixed}
unfoldable pub use Rattle.dir_tree.specs.Index.{key_cmp, key_hash}
pub use Rattle.dir_tree.specs.Kept.{HasEntry, IsAscending, IsCounted, IsKept, IsListed, IsNamed, IsPlace, entry_at, lies_in, listed, newest, no_entry, place_for, recount, recounted}
pub use Rattle.dir_tree.specs.Laws.{After, Before, Here, Where, above_any, directory_in, directory_shape, segment_in, where_is}
pub use Rattle.dir_tree.specs.Nodes.{Branches, acl_of, add_fault_of, added, as_node, as_term, has_inferior, is_directory, is_in, is_segment, node_of, node_of_new, path_answer, unless, with_acl, with_changed, with_quotas, without}
pub use Rattle.dir_tree.specs.Shape.{shape, shapes}
pub use Rattle.dir_tree.specs.Uids.{IsRemoved, IsTabled}
unfoldable pub use Rattle.dir_tree.specs.Uids.{taken}
pub use Rattle.dir_tree.specs.declared.entries.Entry.{Entry}
pub use Rattle.dir_tree.specs.declared.node.AddFault.{AddFault, AddFault as add_fault}
pub use Rattle.dir_tree.specs.declared.node.NewNode.{NewNode}
pub use Rattle.dir_tree.specs.declared.node.Node.{Node}
