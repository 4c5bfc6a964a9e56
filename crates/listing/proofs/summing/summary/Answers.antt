use Rattle.listing.proofs.Prelude.{◌≡◌, length, IfOk-weaker, Counts, Store, Shows, Summary, summary_of, uses_of}
use Rattle.listing.proofs.summing.summary.Goals as goal

pub returns : goal.returns
returns c = IfOk-weaker c.summary_of_counts.result
    (λ (y : Summary). (s : Store) → s.nodes ≡ c.accounts.result.now.nodes → Counts c.accounts.result.now s.stored
    → c.deref.result.now ≡ uses_of s (length c.args.script.now.volumes) → y ≡ summary_of c.args.script.now s)
    (λ (y : Summary). (s : Store) → Shows c.args.script.now c.args.store.now s → y ≡ summary_of c.args.script.now s)
    (λ y given s shows. given s (c.accounts.ensures.nodes c.args.script.now s shows)
    (c.accounts.ensures.counts c.args.script.now s shows)
    (cc (c.in_ok-uses.ensures c.args.script.now s shows))) c.summary_of_counts.ensures
