use Rattle.clean_reasons.proofs.Prelude.{sym, ◌∙◌, rules, custody_of, MaySignal, NamesAllGoing, IsSo}
use Rattle.clean_reasons.proofs.RowLaws.{maps}
use Rattle.book.specs.declared.entries.Entry.TheVariants as entry
use Rattle.clean_reasons.proofs.row_signals.against_signal.Goals as goal

pub returns : goal.returns
returns c = λ s.
    maps (NamesAllGoing (custody_of c.args.custody.now) c.args.what)
    (MaySignal c.args.script.now (custody_of c.args.custody.now) c.args.cpu c.args.what)
    (IsSo c.args.script.now s (custody_of c.args.custody.now) (entry.Signal c.args.cpu c.args.what))
    c.against_names.result
    (λ h. record {
      online = sym c.is_online.ensures ∙ (search rules);
      none_due = c.in_default.ensures;
      something = c.something_goes.ensures.0 (search rules);
      all = h;
    })
    (c.against_names.ensures s c.args.cpu)
