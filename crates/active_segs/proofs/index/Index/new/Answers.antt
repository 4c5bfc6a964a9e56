use Rattle.active_segs.proofs.SplitLemmas.{no_pairs, split_first}
use Rattle.active_segs.proofs.index.Index.new.Goals as goal

pub invariant_of-result : goal.invariant_of-result
invariant_of-result c = split_first c.in_ok-lists.lists.items c.args.room c.in_ok-lists.ensures

pub returns-clause-empty : goal.returns-clause-empty
returns-clause-empty c = no_pairs c.in_ok-lists.lists.items c.args.room c.in_ok-lists.ensures
