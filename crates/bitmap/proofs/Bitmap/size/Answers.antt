use Rattle.bitmap.proofs.BitLemmas.{length_flags}
use Rattle.bitmap.proofs.Bitmap.size.Goals as goal

pub returns : goal.returns
returns c = cc (length_flags c.self.inside.words.items c.self.inside.size)
