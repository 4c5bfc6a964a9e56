-- What a tree command does to the holdings that isn't refused.
use Rattle.std.proofs.lemmas.Grind.{common_steps}
use Rattle.flat_store.proofs.Prelude.{arith, nat_tests, ◌≡◌, ℕ, ℤ, true, false, cond, eqb, List, Ok, refl, is_positive, unsigned_abs, Mode, Named, AccountMaps, Changes, Plan, Reply, with_row, giver_of, getter_of, Node, above, has_segment, directory_at, segment_at, takes_effect, is_stored_from, after_acl, after_move, row_with, length_reply, Store, HasMoved, HasRowSet, field_kept, field_mapped, keeps_moved, moved_else, quota_moved, keeps_one, keeps_rows, not_first, Held, Holds, pages_in}
use Rattle.book.specs.declared.replies.Reply.TheVariants as reply
use Rattle.flat_store.proofs.ChangeLaws.{alike_map, alike_shown, changed_shown, length_alike, length_flat, length_inside, with_length}

-- holdings whose accounts change by a command that takes effect alone
by_effect : {p : Plan} {s t : Store} {h : Held} {accounts : AccountMaps} (r : Reply) → Holds p h s
    → (takes_effect r ≡ true → Holds p (record h { accounts = accounts }) t)
    → (takes_effect r ≡ false → accounts ≡ h.accounts)
    → Holds p (record h { accounts = accounts }) (cond (takes_effect r) t s)
by_effect r holds done refused = grind (arith, nat_tests, common_steps)

-- a row is set, unless that is refused
pub row_shown : {p : Plan} {s : Store} {h : Held} {accounts : AccountMaps} (path : List (List ℕ)) (row : Named)
    (m : Mode) (r : Reply) → Holds p h s → (takes_effect r ≡ true → HasRowSet h.accounts accounts path (row_with row m))
    → (takes_effect r ≡ false → accounts ≡ h.accounts)
    → Holds p (record h { accounts = accounts }) (cond (takes_effect r) (after_acl s path row m) s)
unfolding after_acl
row_shown {s = s} path row m r holds done refused = by_effect r holds (λ on.
    let set = done on in
    let change : Node → Node = λ n. record n { rows = with_row (row_with row m) n.rows } in
    let u = set.node.uid in
    let found : segment_at s.nodes path ≡ Ok set.node = rw holds.nodes set.found in
    rw found (alike_shown holds (rw holds.nodes set.effect)
    (alike_map (λ n. cond (eqb n.uid u) (change n) n) (keeps_one u change (keeps_rows (with_row (row_with row m))))
    s.nodes)
    (λ v. field_mapped (λ xs. pages_in xs v) (λ n. n.pages) v (λ n xs. refl) (λ n. cond (eqb n.uid u) (change n) n)
    (field_kept (λ n. n.uid) change u (λ n. refl)) (field_kept (λ n. n.pages) change u (λ n. refl)) s.nodes))) refused

-- quota is moved, unless that is refused
pub move_shown : {p : Plan} {s : Store} {h : Held} {accounts : AccountMaps} (path : List (List ℕ)) (amount : ℤ)
    (r : Reply) → Holds p h s → (takes_effect r ≡ true → HasMoved h.accounts accounts path amount)
    → (takes_effect r ≡ false → accounts ≡ h.accounts)
    → Holds p (record h { accounts = accounts }) (cond (takes_effect r) (after_move s path amount) s)
unfolding after_move
move_shown {s = s} path amount r holds done refused = by_effect r holds (λ on.
    let has = done on in
    let giver : ℕ = giver_of (above s.nodes) has.node.uid (is_positive amount) in
    let getter : ℕ = getter_of (above s.nodes) has.node.uid (is_positive amount) in
    let change : Node → Node = quota_moved giver getter (unsigned_abs amount) in
    let keeps = keeps_moved giver getter (unsigned_abs amount) in
    let found : directory_at s.nodes path ≡ Ok has.node = rw holds.nodes has.found in
    rw found (alike_shown holds (rw holds.nodes has.effect) (alike_map change keeps s.nodes)
    (λ v. field_mapped (λ xs. pages_in xs v) (λ n. n.pages) v (λ n xs. refl) change keeps.uid
    (moved_else (λ n. n.pages) (λ n q. refl) giver getter (unsigned_abs amount)) s.nodes))) refused

-- a length is changed
pub length_shown : {p : Plan} {s : Store} {h : Held} {accounts : AccountMaps} (u pages : ℕ) → Holds p h s
    → Changes h.accounts accounts (with_length h.accounts.nodes u pages) → has_segment h.accounts.nodes u ≡ true
    → is_stored_from s.stored u pages ≡ false
    → Holds p (record h { accounts = accounts }) (record s { nodes = with_length s.nodes u pages })
length_shown {s = s} u pages holds changes segment none =
    let is : has_segment s.nodes u ≡ true = rw holds.nodes segment in
    changed_shown holds (rw holds.nodes changes) (length_alike s.nodes u pages)
    (length_inside s.nodes s.stored u pages is none holds.inside) (length_flat s.nodes u pages is holds.flat)

pub length_asked : (s : Store) (path : List (List ℕ)) (pages : ℕ) {n : Node} → segment_at s.nodes path ≡ Ok n
    → takes_effect (length_reply s path pages) ≡ true → is_stored_from s.stored n.uid pages ≡ false
unfolding length_reply
length_asked s path pages {n} found effect =
    (not_first (is_stored_from s.stored n.uid pages) reply.Beyond reply.Done refl (rw found at effect)).0
