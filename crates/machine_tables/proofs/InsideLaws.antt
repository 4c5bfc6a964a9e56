-- What the tables show of the flat store, the store inside them shows.
use Rattle.machine_tables.proofs.Prelude.{◌≡◌, ℕ, List, Store, Shows, Stored, IsFaithful, Parts, shown}
use Rattle.machine_tables.proofs.RefusalLaws.{shows_of}

pub inside_faithful : {D : Type 0} (drive : D → List (List ℕ)) (t : Parts D) (st : Stored D) (x : Store)
    → shown drive st ≡ t.state.store → IsFaithful t.state.plan x t.state.store
    → IsFaithful t.state.plan x (shown drive st)
inside_faithful drive t st x inner h = rw inner h

pub inside_shows : {D : Type 0} (drive : D → List (List ℕ)) (t : Parts D) (st : Stored D) (x : Store)
    → shown drive st ≡ t.state.store → IsFaithful t.state.plan x t.state.store → Shows drive t.state.plan x st
inside_shows drive t st x inner h = shows_of drive t.state.plan x st (inside_faithful drive t st x inner h)
