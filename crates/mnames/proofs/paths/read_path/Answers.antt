use Rattle.mnames.proofs.Prelude.{Ok, ap}
use Rattle.mnames.proofs.PathGrammar.{path_again}
use Rattle.mnames.proofs.paths.read_path.Goals as goal

pub returns-in-Ok-clause-again : goal.returns-in-Ok-clause-again
returns-in-Ok-clause-again c = λ p is text. ap Ok (path_again c.args.text.now c.read.new.self c.in-Ok.ensures.path.0
    c.in-Ok.ensures.path.1 p is text)
