use Rattle.seg_mover.proofs.Choosing.{arith, least_to_copy, named_from, place_at, rules}
use Rattle.seg_mover.proofs.Mover.copy_step.Goals as goal

pub copy_page-requires-clause-page : goal.copy_page-requires-clause-page
copy_page-requires-clause-page g c =
    (least_to_copy c.args.v.now c.args.self.now c.args.skip.now c.in-Some.p (search rules)).within

pub copy_page-requires-clause-named : goal.copy_page-requires-clause-named
copy_page-requires-clause-named g c = named_from (place_at c.args.v.now c.args.self.now.from c.in-Some.p) _
    (least_to_copy c.args.v.now c.args.self.now c.args.skip.now c.in-Some.p (search rules)).wanted

pub overflow_add-self : goal.overflow_add-self
overflow_add-self g c =
    omega (arith, least_to_copy c.args.v.now c.args.self.now c.args.skip.now c.in-Some.p (search rules))
