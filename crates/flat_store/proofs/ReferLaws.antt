-- What a reference does that isn't refused.
use Rattle.std.proofs.lemmas.Grind.{common_steps}
use Rattle.flat_store.proofs.Prelude.{arith, nat_tests, ◌≡◌, ℕ, true, false, ◌&&◌, Some, is_some, Plan, RefKind, Reply, Node, node_in, volume_in, takes_effect, is_held_at, is_held_in, alters, new_word, is_used_up, is_volume_full, reply_at, reply_in, room_reply, room_for, Store, has_room, may_write, volume_found, not_first, found_uid}
use Rattle.laws.proofs.Bools.{by_not, or_true}

-- what a page asks for that a reference stores
room_asked : (p : Plan) (s : Store) (n : Node) (otherwise : Reply) → n.volume ≡ volume_in s.nodes n.uid
    → (is_used_up s n.uid ≡ false → (is_volume_full p s n.volume && is_some (room_for p s n.uid)) ≡ false)
    → takes_effect (room_reply p s n otherwise) ≡ true → has_room p s n.uid ≡ true
room_asked p s n otherwise at free is = grind (arith, nat_tests, common_steps, not_first)

write_asked : (p : Plan) (s : Store) (k o : ℕ) (how : RefKind) (n : Node) → n.volume ≡ volume_in s.nodes n.uid
    → alters how ≡ true → takes_effect (reply_in p s k o how n) ≡ true → is_held_in p s k o how n ≡ false
    → may_write p s n.uid o (new_word (s.words n.uid o) how) ≡ true
write_asked p s k o how n at alters_it is held =
    grind (arith, nat_tests, common_steps, not_first, by_not, room_asked, or_true)

-- the word may be written
pub may_refer : (p : Plan) (s : Store) (k u o : ℕ) (how : RefKind) {n : Node} → node_in s.nodes u ≡ Some n
    → alters how ≡ true → takes_effect (reply_at p s k o how (node_in s.nodes u)) ≡ true
    → is_held_at p s k o how (node_in s.nodes u) ≡ false → may_write p s u o (new_word (s.words u o) how) ≡ true
may_refer p s k u o how {n} found alters_it effect held =
    grind (arith, nat_tests, common_steps, found_uid s.nodes u n found, write_asked, volume_found s.nodes u n found)
