use Rattle.schedule.proofs.BeginLaws.{begin_more, begin_none}
use Rattle.schedule.proofs.orders.begin_with.Goals as goal

pub returns-in-None : goal.returns-in-None
returns-in-None c = begin_none (λ field. field.items) c.args.fields.now c.loop-field.field-index c.field-item.result _ _
    c.loop-field-test.true c.field-item.is (rw (← c.deref.ensures.value) c.in-None.ensures.none) c.loop-field.invariant

pub loop-field-preserved : goal.loop-field-preserved
loop-field-preserved c = begin_more
    (λ field. field.items) c.args.fields.now c.loop-field.field-index c.field-item.result _ _ _
    c.loop-field-test.true c.field-item.is (rw (← c.deref.ensures.value) c.in-Some.ensures.some) c.loop-field.invariant
