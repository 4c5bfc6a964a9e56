use Rattle.outcomes.proofs.Prelude.{◌≡◌, ◌++◌, drop, flat_map, block_of, blocks_of}
use Rattle.outcomes.proofs.reporting.push_blocks.Given as goal

-- the text so far, and that of the accounts that are left
abbrev pub invariant-loop-run : goal.invariant-loop-run
invariant-loop-run l = l.out.items ++ flat_map (block_of l.number l.texts) (drop l.run-index l.seen)
    ≡ l.fn.out.items ++ blocks_of l.number l.texts l.seen
