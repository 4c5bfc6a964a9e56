use Rattle.clean_reasons.proofs.Prelude.{◌≡◌, ◌∙◌, inr, rules, sym, true, false, custody_of, MayBeHere, MayStart, IsSo}
use Rattle.clean_reasons.proofs.RowLaws.{maps}
use Rattle.book.specs.declared.entries.Entry.TheVariants as entry
use Rattle.clean_reasons.proofs.row_frames.against_here.Goals as goal

pub returns-then-not-is_read_for : goal.returns-then-not-is_read_for
returns-then-not-is_read_for c = λ s.
    let other : c.is_read_for.result ≡ false = search rules in
    maps (MayStart c.args.script.now (custody_of c.args.custody.now) c.args.frame c.args.uid c.args.page)
    (MayBeHere c.args.script.now (custody_of c.args.custody.now) c.args.frame c.args.uid c.args.page)
    (IsSo c.args.script.now s (custody_of c.args.custody.now) (entry.Here c.args.frame c.args.uid c.args.page))
    c.against_start.result (λ h. inr h)
    (c.against_start.ensures.here s
    (λ e. let z : true ≡ false = sym (c.is_read_for.ensures.1 e) ∙ other in cc))
