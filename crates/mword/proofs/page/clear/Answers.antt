use Rattle.mword.proofs.Prelude.{◌∙◌, length, take-replicate}
use Rattle.mword.proofs.page.clear.Goals as goal

-- what is copied are the first of 1024 zeros
pub returns-clause-clear : goal.returns-clause-clear
returns-clause-clear c = c.copy_from_slice.ensures.after ∙ take-replicate (length c.args.words.now) 1024 0 c.requires
