use Rattle.dir_tree.proofs.Prelude.{sym, Equal-is, slice_cmp, nat_cmp, is_eq-slice_cmp}
use Rattle.dir_tree.proofs.index.compare_names.Goals as goal

pub returns-then-eq : goal.returns-then-eq
returns-then-eq c = sym ((Equal-is (slice_cmp nat_cmp c.args.own.now c.args.other.now)).0
    (cc (is_eq-slice_cmp c.args.own.now c.args.other.now)))
