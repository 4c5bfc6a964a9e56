use Rattle.seg_mover.proofs.Words.{Copies, all_copied, are_copied, least_if, pages_source, rules, words_others, words_page}
use Rattle.seg_mover.proofs.Mover.copy_next.Goals as goal

pub returns : goal.returns
returns g c =
    let copies : Copies g.D.Drive.pages c.args.v.now c.copy_step.new.v c.args.self.now c.copy_step.new.self
    c.args.skip.now c.copy_step.result = assumption in
    search (
      rules,
      least_if c.args.v.now c.args.self.now c.args.skip.now,
      words_page copies,
      words_others copies,
      pages_source copies,
      are_copied copies,
      all_copied copies,
    )
