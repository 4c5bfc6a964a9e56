use Rattle.std.proofs.Common.{rules, ◌≡◌, false, not, ◌==◌, List, sym, subst, ◌∙◌}
use Rattle.std.specs.List.{list_any}
use Rattle.arrayvec.proofs.ArrayVecLemmas.{filter-from_retain}
use Rattle.assoc_mem.specs.declared.HeldPage.{HeldPage}
use Rattle.assoc_mem.proofs.Clears.{none_dropped}
use Rattle.assoc_mem.proofs.drop_frame.Goals as goal

pub returns-then-holds_frame : goal.returns-then-holds_frame
returns-then-holds_frame c = filter-from_retain _ (λ entry. not (entry.frame == c.args.frame)) _
    (λ x b f' y called. search rules) _ _ c.retain.ensures.filtered

pub returns-else-holds_frame : goal.returns-else-holds_frame
returns-else-holds_frame c = none_dropped (λ entry. entry.frame == c.args.frame) c.args.pages.now.items
    (subst (λ (held : List HeldPage). list_any (λ entry. entry.frame == c.args.frame) held ≡ false) c.deref.ensures.0
    (sym c.holds_frame.ensures ∙ c.if-holds_frame.false))
