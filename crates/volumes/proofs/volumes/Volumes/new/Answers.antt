use Rattle.volumes.proofs.Prelude.{None, Part, ap, arith, common_steps, false, length, refl, replicate, ◌∙◌}
use Rattle.volumes.proofs.Parts.{few_more, full_more, made_more, parts_made}
use Rattle.volumes.proofs.volumes.Volumes.new.Goals as goal

pub invariant_of-result : goal.invariant_of-result
invariant_of-result g c = (
  parts_made g.D.Drive.pages c.loop-part.yielded
      (omega (arith, c.in-None.ensures.steps.0, c.loop-part.invariant.3, c.if-len.false, c.len.ensures))
      c.loop-part.invariant.0 c.loop-part.invariant.1 c.loop-part.invariant.2,
  c.loop-part.invariant.4,
  c.loop-part.invariant.5,
)

pub loop-part-preserved : goal.loop-part-preserved
loop-part-preserved g c = (
  made_more (λ (part : Part _). part.drive) _ c.in-Some.part c.loop-part.invariant.0 c.in_ok-add-3.ensures refl,
  made_more (λ (part : Part _). replicate (length (g.D.Drive.pages part.drive)) false) _ c.in-Some.part
      c.loop-part.invariant.1 c.in_ok-add.ensures
      (c.in_ok-map.ensures ∙ ap (λ n. replicate n false) c.size-size.ensures.size),
  made_more (λ (part : Part _). replicate part.entries None) _ c.in-Some.part c.loop-part.invariant.2
      c.in_ok-add-2.ensures c.in_ok-vtoc.ensures,
  grind (arith, common_steps),
  few_more g.D.Drive.plan g.D.Drive.faults _ c.in-Some.part.drive c.in_ok-add-3.ensures c.loop-part.invariant.4
      c.size-size.ensures.few,
  full_more g.D.Drive.pages _ c.in-Some.part.drive c.in_ok-add-3.ensures c.loop-part.invariant.5
      c.size-size.ensures.full,
)
