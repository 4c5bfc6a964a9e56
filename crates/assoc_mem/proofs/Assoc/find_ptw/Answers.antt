use Rattle.std.proofs.Common.{◌≡◌, List, ap, subst, ◌∙◌}
use Rattle.std.specs.List.{find}
use Rattle.std.specs.Option.{option_map}
use Rattle.assoc_mem.specs.declared.HeldPage.{HeldPage}
use Rattle.assoc_mem.specs.Held.{Held, is_page}
use Rattle.assoc_mem.proofs.Search.{no_page}
use Rattle.assoc_mem.proofs.Assoc.find_ptw.Goals as goal

pub returns-clause-none : goal.returns-clause-none
returns-clause-none c =
    let same : c.deref.result.now ≡ c.args.self.now.pages = c.deref.ensures.0
    ∙ ap (λ (h : Held). h.pages) c.self.view_is in
    no_page c.args.self.now.pages c.args.uid c.args.page c.find_page.result
    (subst (λ (l : List HeldPage). c.find_page.result ≡ option_map (λ entry. entry.frame)
    (find (is_page c.args.uid c.args.page) l)) same
    c.find_page.ensures)
