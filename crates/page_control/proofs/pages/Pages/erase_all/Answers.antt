use Rattle.page_control.proofs.Erasing.{all_erased, count_end, ended, filed_erased, names_none, names_same, refl, rules}
use Rattle.page_control.proofs.pages.Pages.erase_all.Goals as goal

pub free-requires-clause-empty : goal.free-requires-clause-empty
free-requires-clause-empty g c = names_same (search rules)
    (names_none (ended c.give_back_all.ensures.part c.size.ensures.places refl (search rules)))

pub returns-clause-erased : goal.returns-clause-erased
returns-clause-erased g c =
    all_erased (ended c.give_back_all.ensures.part c.size.ensures.places refl (search rules)) (search rules)

pub returns-clause-records : goal.returns-clause-records
returns-clause-records g c =
    filed_erased (ended c.give_back_all.ensures.part c.size.ensures.places refl (search rules)) (search rules)
    (search rules)

pub returns-clause-taken : goal.returns-clause-taken
returns-clause-taken g c =
    count_end (ended c.give_back_all.ensures.part c.size.ensures.places refl (search rules)) (search rules)
