use Rattle.dir_tree.proofs.entries.Entries.place_of.Goals as goal

pub unreachable-requires : goal.unreachable-requires
unreachable-requires c = c.in-None.ensures.none c.requires.0 c.requires.1 c.requires.2
