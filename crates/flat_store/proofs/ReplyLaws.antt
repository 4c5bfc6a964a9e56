-- What a reference is answered.
use Rattle.flat_store.proofs.Prelude.{Held, Holds, ◌≡◌, ℕ, ◌*◌, ◌/◌, ◌<◌, ◌==◌, Bool, true, false, not, ◌&&◌, Some, arith, nat_le, nat_tests, Plan, who_of, RefKind, Reply, access_of, Node, node_in, quota_in, as_term, Branch, is_stored, alters, new_word, permits, reply_at, room_reply, stores_page, word_reply, Store, page_reply}

-- whether a page is stored anew, by its word and whether it is stored
pub stores_looked : (s : Store) (u o : ℕ) (how : RefKind) {w : ℕ} {stored r : Bool} → w ≡ s.words u o
    → stored ≡ is_stored s.stored u (o / 1024) → r ≡ (alters how && (not (new_word w how == 0) && not stored))
    → r ≡ stores_page s u o how
stores_looked s u o how word there is = rw (← word, ← there) is

pub crowded : (p : Plan) (s : Store) (n : Node) (u o : ℕ) (how : RefKind) {test : Bool} {otherwise r : Reply}
    → n.uid ≡ u → test ≡ stores_page s u o how → test ≡ true → otherwise ≡ word_reply (s.words u o) how
    → r ≡ room_reply p s n otherwise → r ≡ page_reply p s o how n
crowded p s n u o how at is on word answer = rw (at, ← is, on, ← word) (rw at at answer)

pub roomy : (p : Plan) (s : Store) (n : Node) (u o : ℕ) (how : RefKind) {test : Bool} {r : Reply} → n.uid ≡ u
    → test ≡ stores_page s u o how → test ≡ false → r ≡ word_reply (s.words u o) how → r ≡ page_reply p s o how n
roomy p s n u o how at is off word = rw (at, ← is, off) word

-- a segment that is there, where neither access nor its length refuses
pub within : (p : Plan) (s : Store) (k u o : ℕ) (how : RefKind) {n : Node} {r : Reply} → node_in s.nodes u ≡ Some n
    → permits (access_of (who_of p k) n.rows) how ≡ true → o / 1024 < n.pages
    → r ≡ page_reply p s o how n → r ≡ reply_at p s k o how (node_in s.nodes u)
within p s k u o how {n} found may lt answer =
    let inside : nat_le (1024 * n.pages) o ≡ false = grind (arith, nat_tests) in
    rw (found, may, inside) answer

-- the node of a uid, as the flat store has it
pub node_shown : {p : Plan} {s : Store} {h : Held} → Holds p h s → (u : ℕ) (n : Branch)
    → node_in h.accounts.nodes u ≡ Some (as_term (quota_in h.accounts.nodes) n)
    → node_in s.nodes u ≡ Some (as_term (quota_in s.nodes) n)
node_shown holds u n found = rw holds.nodes found
