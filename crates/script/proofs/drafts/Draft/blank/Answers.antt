use Rattle.script.proofs.DraftLaws.{blank_is}
use Rattle.script.proofs.drafts.Draft.blank.Goals as goal

pub invariant_of-result : goal.invariant_of-result
invariant_of-result c =
    blank_is c.new.result.items c.new-2.result.items c.new-3.result.items c.new-4.result.items c.initializer_who.result
    c.new-5.result c.new.ensures.items c.new-2.ensures.items c.new-3.ensures.items c.new-4.ensures.items
    c.initializer_who.ensures.form c.new-5.ensures
