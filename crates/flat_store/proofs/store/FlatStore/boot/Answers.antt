use Rattle.flat_store.proofs.BootLaws.{shown_boot}
use Rattle.flat_store.proofs.store.FlatStore.boot.Goals as goal

pub returns : goal.returns
returns c = shown_boot c.args.script.now _ c.processes-processes.ensures.plan c.in_ok-holdings.ensures
    (rw (← c.processes-processes.ensures.count) c.in_ok-known.ensures.known)
    (rw (← c.processes-processes.ensures.count) c.in_ok-known.ensures.places)
