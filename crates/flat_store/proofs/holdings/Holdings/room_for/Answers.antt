use Rattle.flat_store.proofs.RoomyLaws.{room_found}
use Rattle.flat_store.proofs.holdings.Holdings.room_for.Goals as goal

pub returns : goal.returns
returns c = λ p s h. room_found c.args.uid c.volume_of-own.result c.stored_of-pages.result (rw (← c.self.view_is) at h)
    c.volume_of-own.ensures c.stored_of-pages.ensures c.deref.ensures.value c.deref-2.ensures.value c.first_roomy.result
    c.first_roomy.ensures.some c.first_roomy.ensures.first c.first_roomy.ensures.none
