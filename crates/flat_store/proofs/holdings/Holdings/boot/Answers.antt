use Rattle.std.proofs.lemmas.Grind.{common_steps}
use Rattle.flat_store.proofs.Prelude.{arith, nat_tests, boot, Holds}
use Rattle.flat_store.proofs.BootLaws.{holds_first}
use Rattle.flat_store.proofs.holdings.Holdings.boot.Goals.{After-new-pages}
use Rattle.flat_store.proofs.holdings.Holdings.boot.Goals as goal

-- what is built at a boot
holds : (c : After-new-pages) → Holds c.args.script.now (record {
  accounts = c.in_ok-accounts.accounts;
  pages = c.new-pages.result;
  records = c.in_ok-records.records.items;
  entries = c.fill_at.new.gauges.items;
}) (boot c.args.script.now)
holds c = grind (arith, nat_tests, common_steps, holds_first c.args.script.now c.promise.ensures)

pub invariant_of-result : goal.invariant_of-result
invariant_of-result c = (c.args.script.now, boot c.args.script.now, holds c)

pub returns : goal.returns
returns c = holds c
