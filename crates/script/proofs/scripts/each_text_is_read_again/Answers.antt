use Rattle.script.proofs.Prelude.{refl, script_text}
use Rattle.script.proofs.ScriptTexts.{text_read_again}
use Rattle.script.proofs.scripts.each_text_is_read_again.Goals as goal

pub returns : goal.returns
returns c = λ p h. text_read_again (script_text p) p h refl
