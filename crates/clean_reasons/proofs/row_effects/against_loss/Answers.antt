use Rattle.clean_reasons.proofs.Prelude.{custody_of}
use Rattle.clean_reasons.proofs.EffectLaws.{cut, is_cut, not_past}
use Rattle.clean_reasons.proofs.row_effects.against_loss.Goals as goal

pub returns-in-Some-least_page : goal.returns-in-Some-least_page
returns-in-Some-least_page c = λ s shown.
    let page = c.in-Some-least_page.at.page in
    let lost = c.in-Some-least_page.ensures.some in
    let before = not_past (custody_of c.args.custody.now) c.args.uid c.pages_of.result c.args.words page
    c.in-Some-least_page.at.frame c.in_default.ensures.none lost.0 c.pages_of.ensures.least in
    let is = is_cut s c.args.uid c.args.words c.kept_pages-kept.result page
    (c.kept_pages-kept.ensures c.args.script.now s shown) lost.1 before in (
      cut s c.args.uid c.args.words page c.lost-in-Some-least_page.result is c.lost-in-Some-least_page.ensures.about,
      c.lost-in-Some-least_page.ensures.says,
    )
