use Rattle.mword.proofs.Prelude.{◌+◌, ◌*◌, ◌∙◌, ℕ, refl, sym, ap, arith, common_steps, octal_number}
use Rattle.mword.proofs.OctalLaws.{octal_value_stops, octal_more, octal_number_more, octal_bound_more, octal_below, octal_value_read, octal_value_made, octal_exactly}
use Rattle.mword.proofs.text.read_octal.Goals as goal
use Rattle.mword.proofs.text.read_octal.Goals.{in_default-via-then-byte-lt48, in_default-via-else-byte-lt48+else-byte-lt56}

pub loop-byte-init : goal.loop-byte-init
unfolding octal_number
loop-byte-init c = record { digits = refl; number = refl; bound = omega arith }

pub overflow_mul-value : goal.overflow_mul-value
overflow_mul-value c =
    omega (arith, octal_below c.loop-byte.byte-index c.loop-byte.value (omega arith) c.loop-byte.invariant.bound)

pub overflow_add-value : goal.overflow_add-value
overflow_add-value c =
    let small = octal_below c.loop-byte.byte-index c.loop-byte.value (omega arith) c.loop-byte.invariant.bound in
    omega (arith, c.type_inv.text c.loop-byte.byte-index, small)

pub loop-byte-preserved : goal.loop-byte-preserved
loop-byte-preserved c = assumption (
  octal_more c.args.text.now c.loop-byte.byte-index (omega arith) (omega arith)
      (omega arith) c.loop-byte.invariant.digits,
  ap (λ (d : ℕ). 8 * c.loop-byte.value + d) c.from.ensures
      ∙ octal_number_more c.args.text.now c.loop-byte.byte-index (omega arith) c.loop-byte.invariant.number,
  octal_bound_more c.loop-byte.byte-index c.loop-byte.value c.from.result c.loop-byte.invariant.bound (omega arith),
)

pub returns-in_default-clause-value : goal.returns-in_default-clause-value
returns-in_default-clause-value c =
    elim c.in_default.branch [
      | in_default-via-then-byte-lt48 w ↦ sym (octal_value_stops c.args.text.now c.loop-byte.byte-index (omega arith)
          (λ l. omega arith))
      | in_default-via-else-byte-lt48+else-byte-lt56 w ↦ sym
          (octal_value_stops c.args.text.now c.loop-byte.byte-index (omega arith) (λ l. omega arith))
    ]

pub returns-clause-value : goal.returns-clause-value
returns-clause-value c =
    let small = octal_below c.loop-byte.byte-index c.loop-byte.value (omega arith) c.loop-byte.invariant.bound in
    octal_value_made c.args.text.now c.loop-byte.value c.new.result
    (octal_value_read c.args.text.now (grind (arith, common_steps))
    (omega arith) (omega arith) c.loop-byte.invariant.digits c.loop-byte.invariant.number)
    (c.new.ensures.fits.1 small) c.new.ensures.value

pub returns-clause-octal : goal.returns-clause-octal
returns-clause-octal c = octal_exactly c.args.text.now c.new.result (returns-clause-value c)
