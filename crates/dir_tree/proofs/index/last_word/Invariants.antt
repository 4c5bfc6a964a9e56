use Rattle.dir_tree.proofs.Prelude.{◌≡◌, take, last_word}
use Rattle.dir_tree.proofs.index.last_word.Given as goal

abbrev pub invariant-loop-byte : goal.invariant-loop-byte
invariant-loop-byte l = l.word ≡ last_word (take l.byte-index l.bytes)
