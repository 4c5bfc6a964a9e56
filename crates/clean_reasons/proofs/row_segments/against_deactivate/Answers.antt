use Rattle.clean_reasons.proofs.Prelude.{◌≡◌, true, sym, ◌∙◌, rules, custody_of, MayDeactivate, HasNoDescriptor, HasNoPage, IsSo}
use Rattle.clean_reasons.proofs.RowLaws.{both_tell}
use Rattle.book.specs.declared.entries.Entry.TheVariants as entry
use Rattle.clean_reasons.proofs.row_segments.against_deactivate.Goals as goal

pub returns : goal.returns
returns c = λ s shown.
    let is : (custody_of c.args.custody.now).active c.args.uid ≡ true = sym c.is_active.ensures ∙ (search rules) in
    let below = c.in_default.ensures.none c.args.script.now s shown in
    both_tell (HasNoPage (custody_of c.args.custody.now) c.args.uid)
    (HasNoDescriptor (custody_of c.args.custody.now) c.args.uid)
    (MayDeactivate s (custody_of c.args.custody.now) c.args.uid)
    (IsSo c.args.script.now s (custody_of c.args.custody.now) (entry.Deactivate c.args.uid)) c.against_disuse.result
    (λ h d. record { active = is; inferiors = below; pages = h; descriptors = d })
    c.against_disuse.ensures.none c.against_disuse.ensures.free
    (c.against_disuse.ensures.so s)
