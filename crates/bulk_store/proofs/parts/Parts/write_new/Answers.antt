use Rattle.bulk_store.proofs.Stores.{full, gave_up-store, sym, ◌∙◌}
use Rattle.bulk_store.proofs.parts.Parts.write_new.Goals as goal

pub take_in-requires-2-clause-store : goal.take_in-requires-2-clause-store
take_in-requires-2-clause-store g c = rw c.in_ok-give_up_oldest.ensures.ok (gave_up-store c.requires.store
    (full c.args.self.now.table c.requires.store.index (cc)))
