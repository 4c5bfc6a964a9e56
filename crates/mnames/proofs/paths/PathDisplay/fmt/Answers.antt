use Rattle.mnames.proofs.Prelude.{common_steps, nat_tests, arith, has_written_append, has_written_of_eq}
use Rattle.mnames.proofs.NamesText.{names_text_more}
use Rattle.mnames.proofs.paths.PathDisplay.fmt.Goals as goal

pub loop-name-preserved : goal.loop-name-preserved
loop-name-preserved g c = grind (arith, nat_tests, common_steps, has_written_of_eq, names_text_more, has_written_append)
