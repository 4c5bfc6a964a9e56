use Rattle.bulk_store.proofs.Writes.{Holdings, ap, pages_empty}
use Rattle.bulk_store.proofs.store.BulkStore.new.Goals as goal

pub returns-clause-pages : goal.returns-clause-pages
returns-clause-pages g c = pages_empty _ (cc (c.in_ok-table.ensures))
