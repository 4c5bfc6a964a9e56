use Rattle.std.proofs.Common.{rules, ◌≡◌, false, not, ◌==◌, List, sym, subst, ◌∙◌}
use Rattle.std.specs.List.{list_any}
use Rattle.arrayvec.proofs.ArrayVecLemmas.{filter-from_retain}
use Rattle.assoc_mem.specs.declared.HeldSeg.{HeldSeg}
use Rattle.assoc_mem.proofs.Clears.{none_dropped}
use Rattle.assoc_mem.proofs.drop_segs.Goals as goal

pub returns-then-holds_seg : goal.returns-then-holds_seg
returns-then-holds_seg c = filter-from_retain _ (λ entry. not (entry.uid == c.args.uid)) _
    (λ x b f' y called. search rules) _ _ c.retain.ensures.filtered

pub returns-else-holds_seg : goal.returns-else-holds_seg
returns-else-holds_seg c = none_dropped (λ entry. entry.uid == c.args.uid) c.args.segs.now.items
    (subst (λ (held : List HeldSeg). list_any (λ entry. entry.uid == c.args.uid) held ≡ false) c.deref.ensures.0
    (sym c.holds_seg.ensures ∙ c.if-holds_seg.false))
