use Rattle.std.proofs.Common.{rules, ◌≡◌, false, not, ◌==◌, List, sym, subst, ◌∙◌}
use Rattle.std.specs.List.{list_any}
use Rattle.arrayvec.proofs.ArrayVecLemmas.{filter-from_retain}
use Rattle.assoc_mem.specs.declared.HeldPage.{HeldPage}
use Rattle.assoc_mem.proofs.Clears.{none_dropped}
use Rattle.assoc_mem.proofs.drop_pages.Goals as goal

pub returns-then-holds_page_of : goal.returns-then-holds_page_of
returns-then-holds_page_of c = filter-from_retain _ (λ entry. not (entry.uid == c.args.uid)) _
    (λ x b f' y called. search rules) _ _ c.retain.ensures.filtered

pub returns-else-holds_page_of : goal.returns-else-holds_page_of
returns-else-holds_page_of c = none_dropped (λ entry. entry.uid == c.args.uid) c.args.pages.now.items
    (subst (λ (held : List HeldPage). list_any (λ entry. entry.uid == c.args.uid) held ≡ false) c.deref.ensures.0
    (sym c.holds_page_of.ensures ∙ c.if-holds_page_of.false))
