use Rattle.schedule.proofs.Prelude.{begins, drop, fields_of, map, ◌≡◌}
use Rattle.schedule.proofs.orders.begin_with.Given as goal

-- what is left of the fields decides
abbrev pub invariant-loop-field : goal.invariant-loop-field
invariant-loop-field l =
    begins (drop l.field-index (map (λ field. field.items) l.fields)) (fields_of l.rest)
    ≡ begins (map (λ field. field.items) l.fields) (fields_of l.text)
