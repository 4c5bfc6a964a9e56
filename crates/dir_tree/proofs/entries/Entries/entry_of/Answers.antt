use Rattle.dir_tree.proofs.Prelude.{◌≡◌, sym, arith, entry_at}
use Rattle.dir_tree.proofs.UidLemmas.{slot_there, entry_there}
use Rattle.dir_tree.proofs.entries.Entries.entry_of.Goals as goal

pub index-requires : goal.index-requires
index-requires c = omega (
  arith,
  slot_there c.self.invariant.0 c.args.self.now c.self.view_is c.args.uid c.in-Some.place c.in-Some.ensures.some,
)

pub returns-in-Some-clause-some : goal.returns-in-Some-clause-some
returns-in-Some-clause-some c =
    let at = c.in-Some.ensures.some in
    let is : c.index.result.now ≡ entry_at c.args.self.now at.0 =
    entry_there c.self.invariant.0 c.args.self.now c.self.view_is c.args.uid c.in-Some.place at c.index.result.now
    c.index.ensures in
    record { i = at.0; within = at.1; entry_is = sym is; uid_is = cc }
