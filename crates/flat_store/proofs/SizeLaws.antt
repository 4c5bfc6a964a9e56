-- Stored pages from one on, and the length of a segment.
use Rattle.std.proofs.lemmas.Grind.{common_steps}
use Rattle.flat_store.proofs.Prelude.{◌≡◌, ℕ, Bool, arith, Decides, nat_tests, Plan, is_stored_from, Store, stored_from, none_from, Held, Holds}
use Rattle.flat_store.proofs.OrderLaws.{IsReached}

pub reached_told : {p : Plan} {s : Store} {h : Held} (u from : ℕ) (r : Bool) → Holds p h s
    → Decides r (IsReached h.pages u from) → r ≡ is_stored_from s.stored u from
reached_told {s = s} u from o holds told = grind (arith, nat_tests, common_steps, stored_from, none_from)
