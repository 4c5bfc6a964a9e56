use Rattle.std.proofs.Common.{◌≡◌, replicate, take}
use Rattle.page_table.specs.declared.Ptw.TheVariants.{Null}
use Rattle.page_table.proofs.PageTable.clear.Given as goal

abbrev pub invariant-loop-word : goal.invariant-loop-word
invariant-loop-word l = take l.word-index l.word-items ≡ replicate l.word-index Null
