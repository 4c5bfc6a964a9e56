use Rattle.active_segs.proofs.Prelude.{None, ap, arith, replicate, rules, sum, true, ℕ, ◌∙◌, ◌≡◌}
use Rattle.active_segs.proofs.NewLemmas.{are_null, kept_new}
use Rattle.active_segs.proofs.Ast.new.Goals as goal

pub invariant_of-result : goal.invariant_of-result
invariant_of-result c =
    let total : c.total-total.result ≡ sum c.args.pools = c.total-total.ensures in
    let none : c.in_ok-entries.entries.items ≡ replicate c.total-total.result None = search rules in
    kept_new c.args.pools c.in_ok-used.used.items c.in_ok-entries.entries.items c.in_ok-tables.tables.items
    c.in_ok-inferiors.inferiors.items c.in_ok-index.index (omega arith) c.requires c.in_ok-used.ensures
    (none ∙ ap (λ (n : ℕ). replicate n None) total) c.in_ok-tables.ensures (c.in_ok-inferiors.ensures ∙ ap
    (λ (n : ℕ). replicate n (replicate n true)) total) c.in_ok-index.ensures.empty (c.in_ok-index.ensures.room ∙ total)

pub returns-clause-tables : goal.returns-clause-tables
returns-clause-tables c = rw c.in_ok-tables.ensures (are_null c.args.pools (omega arith))
