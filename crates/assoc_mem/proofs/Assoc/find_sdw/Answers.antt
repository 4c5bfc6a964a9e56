use Rattle.std.proofs.Common.{◌≡◌, List, ap, subst, ◌∙◌}
use Rattle.std.specs.List.{find}
use Rattle.assoc_mem.specs.declared.HeldSeg.{HeldSeg}
use Rattle.assoc_mem.specs.Held.{Held, is_number}
use Rattle.assoc_mem.proofs.Search.{no_seg}
use Rattle.assoc_mem.proofs.Assoc.find_sdw.Goals as goal

pub returns-clause-none : goal.returns-clause-none
returns-clause-none c =
    let same : c.deref.result.now ≡ c.args.self.now.segs = c.deref.ensures.0
    ∙ ap (λ (h : Held). h.segs) c.self.view_is in
    no_seg c.args.self.now.segs c.args.number c.find_seg.result
    (subst (λ (l : List HeldSeg). c.find_seg.result ≡ find (is_number c.args.number) l) same c.find_seg.ensures)
