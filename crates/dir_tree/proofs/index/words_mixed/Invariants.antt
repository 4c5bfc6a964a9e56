use Rattle.dir_tree.proofs.Prelude.{◌≡◌, take, words_mixed}
use Rattle.dir_tree.proofs.index.words_mixed.Given as goal

abbrev pub invariant-loop-word : goal.invariant-loop-word
invariant-loop-word l = l.hash ≡ words_mixed l.fn.hash (take l.word-index l.words)
