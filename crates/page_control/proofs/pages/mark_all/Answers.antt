use Rattle.page_control.proofs.Modified.{Core, ap, arith, frame_at, named_by, none_by, part_all, part_bound, part_marked, part_none, part_other, sym, true, with_frame, with_modified, ◌∙◌}
use Rattle.page_control.proofs.pages.mark_all.Goals as goal
use Rattle.page_control.proofs.pages.mark_all.Goals.{in-Null, in-Here2}

pub loop-p-init : goal.loop-p-init
loop-p-init c = sym (part_none c.args.core.now c.args.uid)

pub changed-requires : goal.changed-requires
changed-requires c = rw c.loop-p.invariant (part_bound c.args.core.now c.loop-p.p c.loop-p.p c.in-Here.f c.requires
    (cc (named_by c.in-Here.is)))

pub loop-p-preserved : goal.loop-p-preserved
loop-p-preserved c = elim c.match-get.branch [
  | in-Null w ↦ w.core-is ∙ c.loop-p.invariant ∙ part_other c.args.core.now c.loop-p.p c.requires
      (cc (none_by w.in-Null.is))
  | in-Here2 w ↦ w.core-is ∙ w.changed.ensures.frame ∙ ap (λ (core : Core). with_frame core w.in-Here.f (with_modified
      (frame_at core w.in-Here.f) true)) c.loop-p.invariant ∙ part_marked c.args.core.now c.loop-p.p c.requires (cc
      (named_by w.in-Here.is))
]

pub returns : goal.returns
returns c =
    cc (part_all c.args.core.now c.loop-p.p c.requires (omega (arith, c.size-p-end.ensures, c.loop-p-test.false)))
