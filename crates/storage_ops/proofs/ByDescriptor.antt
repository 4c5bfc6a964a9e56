-- What the descriptor of a number refuses is what the access control list of its segment, and its length, refuse.
use Rattle.storage_ops.proofs.Prelude.{◌≡◌, ℕ, Option, Some, None, refl, ap, Mode, Reference, Reply, access_of, Node, Present, sdw_at, Plain, leads, sdws_at, AreLinked, outside_by, refusal_by, refusal_in, target, unless, IsStore, Storage, who_at}
use Rattle.storage_ops.proofs.NodeLaws.{found_there}
use Rattle.storage_ops.proofs.Refusals.{target_found}

outside_of : (o : Option Reply) (n : Node) → outside_by (unless o n) ≡ o
outside_of None n = refl
outside_of (Some e) n = refl

module _ {D : Type 0} {now : Plain} (t : Storage D) (store : IsStore now t.segs.ast t.segs.links t.accounts t.whos)
    (linked : AreLinked t.segs.ast.entries t.segs.links) (k : ℕ) (r : Reference) where
  pub held_refuses : (place pages : ℕ) (mode : Mode)
      → sdw_at (sdws_at t.segs.links.descriptors k) r.number ≡ Present place mode pages
      → refusal_by mode pages r ≡ outside_by (target t k r)
  held_refuses place pages mode word =
      let known = linked.known k r.number place (ap leads word) in
      let node = found_there t.accounts.nodes known.uid (store.active.there place known.uid known.active) in
      let rights : mode ≡ (access_of (who_at t.whos k) node.0.rows) =
      store.rights.modes k r.number place pages known.uid mode node.0 word known.active node.1 in
      let long = store.rights.lengths k r.number place pages known.uid mode node.0 word known.active node.1 in
      cc (outside_of (refusal_in (who_at t.whos k) r node.0) node.0, target_found t k r known.known_as node.1)
