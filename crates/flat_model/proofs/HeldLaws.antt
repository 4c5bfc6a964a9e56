-- Which replies are held back until a segment has moved.
use Rattle.flat_model.proofs.Prelude.{arith, common_steps, nat_tests, ◌≡◌, ℕ, ◌*◌, Bool, true, false, not, ◌&&◌, cond, Option, Some, None, is_some, refl, ap, is_none, nat_le, Plan, who_of, permits, reference_of, Command, Reference, RefKind, Reply, access_of, Node, node_in, reply_by, reply_to_command, takes_effect, is_held_at, is_held_back, is_held_by, is_held_in, is_held_of, is_used_up, is_volume_full, reply_at, reply_in, reply_of, reply_to_reference, stores_page, word_reply, room_for, Store, known_uid, kind, reply}

module _ (p : Plan) (s : Store) (k : ℕ) where
  -- ---- by the command, by what its number stands for, and by the node of that

  pub held_by : (c : Command) (o : Option Reference) → reference_of c ≡ o → is_held_back p s k c ≡ is_held_by p s k o
  unfolding is_held_back
  held_by c o is = ap (is_held_by p s k) is

  pub held_of : (r : Reference) (o : Option ℕ) → known_uid s k r.number ≡ o
      → is_held_by p s k (Some r) ≡ is_held_of p s k r.offset r.kind o
  held_of r o is = ap (is_held_of p s k r.offset r.kind) is

  pub held_in : (offset uid : ℕ) (how : RefKind) (o : Option Node) → node_in s.nodes uid ≡ o
      → is_held_of p s k offset how (Some uid) ≡ is_held_at p s k offset how o
  held_in offset uid how o is = ap (is_held_at p s k offset how) is

  -- that to a tree command never is
  pub tree_free : (c : Command) → reference_of c ≡ None → is_held_back p s k c ≡ false
  tree_free c none = held_by c None none

  -- ---- what a reference is that is held back

  parts : (a b c d e f : Bool) → ((a && (not b && (c && (not d && e)))) && f) ≡ true
      → (a ≡ true) × (b ≡ false) × (c ≡ true) × (d ≡ false) × (e ≡ true) × (f ≡ true)
  parts false b c d e f h = cc
  parts true true c d e f h = cc
  parts true false false d e f h = cc
  parts true false true true e f h = cc
  parts true false true false false f h = cc
  parts true false true false true false h = cc
  parts true false true false true true h = (refl, refl, refl, refl, refl, refl)

  -- nothing refuses it but that all records of its volume are taken, and a volume has room
  pub held_parts : (offset : ℕ) (how : RefKind) (n : Node) → is_held_in p s k offset how n ≡ true
      → (permits (access_of (who_of p k) n.rows) how ≡ true) × (nat_le (1024 * n.pages) offset ≡ false)
      × (stores_page s n.uid offset how ≡ true) × (is_used_up s n.uid ≡ false) × (is_volume_full p s n.volume ≡ true)
      × (is_some (room_for p s n.uid) ≡ true)
  held_parts offset how n h = grind (arith, nat_tests, common_steps, parts)

  -- ---- a reply that is held back is no refusal

  takes_word : (old : ℕ) (how : RefKind) → takes_effect (word_reply old how) ≡ true
  takes_word old kind.Read = refl
  takes_word old _ = refl

  chosen : (a b c d e : Bool) (f : Option ℕ) (x : Reply) → takes_effect x ≡ true
      → ((a && (not b && (c && (not d && e)))) && is_some f) ≡ true → takes_effect (cond (not a) reply.NoAccess
      (cond b reply.Length (cond c (cond d reply.Quota (cond (e && is_none f) reply.NoRecord x)) x))) ≡ true
  chosen false b c d e f x t h = cc
  chosen true true c d e f x t h = cc
  chosen true false false d e f x t h = t
  chosen true false true true e f x t h = cc
  chosen true false true false false f x t h = t
  chosen true false true false true None x t h = cc
  chosen true false true false true (Some v) x t h = t

  in_takes : (offset : ℕ) (how : RefKind) (n : Node) → is_held_in p s k offset how n ≡ true
      → takes_effect (reply_in p s k offset how n) ≡ true
  in_takes offset how n = grind (arith, nat_tests, common_steps, chosen, takes_word)

  at_takes : (offset : ℕ) (how : RefKind) (o : Option Node) → is_held_at p s k offset how o ≡ true
      → takes_effect (reply_at p s k offset how o) ≡ true
  at_takes offset how None h = cc
  at_takes offset how (Some n) h = in_takes offset how n h

  of_takes : (offset : ℕ) (how : RefKind) (o : Option ℕ) → is_held_of p s k offset how o ≡ true
      → takes_effect (reply_of p s k offset how o) ≡ true
  of_takes offset how None h = cc
  of_takes offset how (Some uid) h = at_takes offset how (node_in s.nodes uid) h

  by_takes : (c : Command) (o : Option Reference) → is_held_by p s k o ≡ true → takes_effect (reply_by p s k c o) ≡ true
  unfolding reply_to_reference
  by_takes c None h = cc
  by_takes c (Some r) h = of_takes r.offset r.kind (known_uid s k r.number) h

  pub held_takes : (c : Command) → is_held_back p s k c ≡ true → takes_effect (reply_to_command p s k c) ≡ true
  unfolding is_held_back
  held_takes c h = by_takes c (reference_of c) h

  -- so a refusal isn't held back
  pub refused_free : (c : Command) → takes_effect (reply_to_command p s k c) ≡ false → is_held_back p s k c ≡ false
  refused_free c refused = grind (arith, nat_tests, common_steps, held_takes)
