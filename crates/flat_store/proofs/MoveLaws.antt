-- A segment moves to another volume.
use Rattle.std.proofs.lemmas.Grind.{common_steps}
use Rattle.flat_store.proofs.Prelude.{nat_lt, ◌≡◌, ◌≢◌, ◌<◌, ◌≤◌, ℕ, ◌+◌, ◌-◌, ◌*◌, ◌/◌, Bool, true, false, not, cond, eqb, ◌&&◌, List, [], ◌∷◌, length, Option, Some, None, Result, is_ok, is_some, refl, sym, ap, ◌∙◌, arith, inl, inr, count_by, nat_le, cases_Bool, nat_tests, AccountMaps, Rehomes, count_of, Full, charge_answer, Plan, command_at, who_of, permits, reference_of, Command, Reference, RefKind, access_of, Node, entries_on, has_directory, node_in, taken_on, volume_in, with_node, AreBelow, IsTree, has_segment, MayMove, awaits_by, awaits_in, awaits_move, is_held_at, is_uid, lacks_at, moved, is_used_up, is_volume_full, stores_page, room_for, Store, entries_of, known_uid, progress_of, records_of, field_kept, field_mapped, is_roomy, shifted, AreFlat, Gauge, gauge_at, filled, is_full, Held, Holds, pages_in, older, found_uid, room_parts, and_right}
use Rattle.laws.proofs.Bools.{and_false, and_first, not_true}
use Rattle.flat_model.specs.Rooms.{has_room}
use Rattle.flat_store.proofs.ChangeLaws.{field_other, field_set}
use Rattle.flat_store.proofs.NodeLaws.{has_pages}
use Rattle.flat_store.proofs.PassLaws.{count-cons}
use Rattle.flat_store.proofs.RoomyLaws.{counts_shifted, first_told}

-- ---- the nodes

-- the home of a node is on a volume
abbrev on_volume : ℕ → Node → Node
on_volume w n = record n { volume = w }

abbrev pub with_volume : List Node → ℕ → ℕ → List Node
with_volume ns u w = with_node ns u (on_volume w)

-- a field that stays where volumes change
stays : {X : Type 0} (read : List Node → X) (field : Node → X) (v : ℕ)
    → ((n : Node) (ns : List Node) → read (n ∷ ns) ≡ cond (eqb n.uid v) (field n) (read ns)) → (u w : ℕ)
    → ((n : Node) → field (on_volume w n) ≡ field n) → (ns : List Node) → read (with_volume ns u w) ≡ read ns
stays read field v reads u w same = field_mapped read field v reads (λ n. cond (eqb n.uid u) (on_volume w n) n)
    (field_kept (λ (n : Node). n.uid) (on_volume w) u (λ n. refl)) (field_kept field (on_volume w) u same)

pages_stay : (ns : List Node) (u w v : ℕ) → pages_in (with_volume ns u w) v ≡ pages_in ns v
pages_stay ns u w v = stays (λ xs. pages_in xs v) (λ n. n.pages) v (λ m xs. refl) u w (λ n. refl) ns

-- ---- stored pages

-- where a test changes for the pages of one segment alone
count_moved : (c d : ℕ → Bool) (u : ℕ) → ((v : ℕ) → v ≢ u → d v ≡ c v) → (xs : List (ℕ × ℕ))
    → count_by (λ x. d x.0) xs + cond {A = ℕ} (c u) (count_by (λ x. eqb x.0 u) xs) 0
    ≡ count_by (λ x. c x.0) xs + cond {A = ℕ} (d u) (count_by (λ x. eqb x.0 u) xs) 0
count_moved c d u kept [] = grind arith
count_moved c d u kept (x ∷ xs) = grind (arith, nat_tests, common_steps, count_moved c d u kept xs, count-cons)

-- the records of the segment go from its old volume to its new one
taken_moved : (ns : List Node) (xs : List (ℕ × ℕ)) (u w v : ℕ) → has_segment ns u ≡ true
    → taken_on (with_volume ns u w) xs v + cond {A = ℕ} (eqb (volume_in ns u) v) (count_by (λ x. eqb x.0 u) xs) 0
    ≡ taken_on ns xs v + cond {A = ℕ} (eqb w v) (count_by (λ x. eqb x.0 u) xs) 0
unfolding taken_on
taken_moved ns xs u w v there = rw volume_set at
    (count_moved (λ y. eqb (volume_in ns y) v) (λ y. eqb (volume_in (with_volume ns u w) y) v) u
    (λ y other. ap (λ z. eqb z v) (field_other (λ z ms. volume_in ms z) (λ n. n.volume) (λ z n ms. refl) (on_volume w)
    (λ n. refl) ns u y other)) xs)
  where
    volume_set : volume_in (with_volume ns u w) u ≡ w
    volume_set = field_set (λ z ms. volume_in ms z) (λ n. n.volume) (λ z n ms. refl) (on_volume w) (λ n. refl) ns u w
        there (λ n. refl)

-- ---- VTOC entries

none_moved : (ns : List Node) (u w : ℕ) → AreBelow u ns → with_volume ns u w ≡ ns
none_moved [] u w b = refl
none_moved (n ∷ ns) u w b = grind (arith, nat_tests, common_steps, none_moved ns u w b.1)

-- the VTOC entry too
entries_moved : (ns : List Node) (u w v : ℕ) → IsTree ns → has_segment ns u ≡ true
    → entries_on (with_volume ns u w) v + cond {A = ℕ} (eqb (volume_in ns u) v) 1 0
    ≡ entries_on ns v + cond {A = ℕ} (eqb w v) 1 0
unfolding entries_on
entries_moved [] u w v t there = cc
entries_moved (m ∷ ms) u w v t there = elim (cases_Bool (eqb m.uid u)) [
  | inl is ↦
      (let uid : m.uid ≡ u = grind (arith, nat_tests) in
      let rest = none_moved ms u w (rw uid at (older ms m m.superior t.0)) in
      rw (is, rest, count-cons (λ n. eqb n.volume v) (on_volume w m) ms, count-cons (λ n. eqb n.volume v) m ms)
      (omega arith))
  | inr isnt ↦
      (let ih = entries_moved ms u w v t.1 (rw isnt at there) in
      rw (isnt, count-cons (λ n. eqb n.volume v) m (with_volume ms u w), count-cons (λ n. eqb n.volume v) m ms)
      (omega (arith, ih)))
]

-- ---- the holdings

-- what the holdings are once a segment moved
pub moved_held : {p : Plan} {s : Store} {h : Held} {accounts : AccountMaps} {records entries : List Gauge}
    (u own pages w : ℕ) → Holds p h s → IsTree h.accounts.nodes → has_segment h.accounts.nodes u ≡ true
    → own ≡ volume_in h.accounts.nodes u → pages ≡ count_of h.accounts u
    → is_roomy h.records h.entries own pages w ≡ true → Rehomes h.accounts accounts u w 0
    → records ≡ shifted h.records own w pages → entries ≡ shifted h.entries own w 1
    → Holds p (record h { accounts = accounts; records = records; entries = entries }) (moved s u w)
moved_held {p} {s} {h} u own pages w holds tree segment home stored roomy moves records_are entries_are =
    let there : has_segment s.nodes u ≡ true = rw holds.nodes segment in
    let shape : IsTree s.nodes = rw holds.nodes tree in
    let at : own ≡ volume_in s.nodes u = rw holds.nodes home in
    let count : pages ≡ count_by (λ x. eqb x.0 u) s.stored = stored ∙ holds.counts u in
    let parts = room_parts (eqb w own) (nat_lt pages (records_of p w - taken_on s.nodes s.stored w))
    (nat_lt (entries_on s.nodes w) (entries_of p w)) (rw (holds.records w, holds.entries w) at roomy) in
    let other : eqb w own ≡ false = parts.0 in
    let some = parts.1 in
    let place = parts.2 in
    let apart : w ≢ own = grind (arith, nat_tests) in
    let fits : pages ≤ records_of p w - taken_on s.nodes s.stored w = grind (arith, nat_tests) in
    let one : 1 ≤ entries_of p w - entries_on s.nodes w = grind (arith, nat_tests) in
    record {
      nodes = rw (holds.nodes, moves.nodes) refl;
      next = holds.next ∙ sym moves.next;
      counts = λ x. moves.counts x ∙ holds.counts x;
      pages = holds.pages;
      inside = λ v q on. rw (
        stays (λ xs. has_segment xs v) (λ n. not n.directory) v (λ m xs. refl) u w (λ n. refl) s.nodes,
        pages_stay s.nodes u w v,
      ) (holds.inside v q on);
      flat = λ v is. pages_stay s.nodes u w v ∙ holds.flat v (rw (stays (λ xs. has_directory xs v) (λ n. n.directory)
          v (λ m xs. refl) u w (λ n. refl) s.nodes) at is);
      records = rw records_are (counts_shifted h.records (taken_on s.nodes s.stored)
          (taken_on (with_volume s.nodes u w) s.stored) (records_of p) own w pages holds.records apart fits
          (λ x. rw (at, count) (taken_moved s.nodes s.stored u w x there)));
      entries = rw entries_are (counts_shifted h.entries (entries_on s.nodes) (entries_on (with_volume s.nodes u w))
          (entries_of p) own w 1 holds.entries apart one (λ x. rw at (entries_moved s.nodes u w x shape there)));
    }

-- ---- what a process waits for

-- its account has some quota left, and all records of its volume are taken
pub lacks_told : {p : Plan} {s : Store} {h : Held} (u v o : ℕ) (how : RefKind) {stores full : Bool}
    {r : Result (Unit {0}) Full} → Holds p h s → stores ≡ stores_page s u o how → stores ≡ true
    → r ≡ charge_answer h.accounts.nodes s.stored u → is_ok r ≡ true → full ≡ is_full (gauge_at h.records v)
    → full ≡ (stores_page s u o how && (not (is_used_up s u) && is_volume_full p s v))
lacks_told {s = s} u v o how holds is on answer charged filled = grind (arith, nat_tests, common_steps, is_ok)

-- a reference to a segment whose volume isn't full
pub lacks_nothing : (p : Plan) (s : Store) (k u o : ℕ) (how : RefKind) {n : Node} {full : Bool}
    → node_in s.nodes u ≡ Some n → full ≡ is_volume_full p s n.volume → full ≡ false
    → false ≡ lacks_at p s k o how (node_in s.nodes u)
lacks_nothing p s k u o how found is not_full = rw (found, ← is, not_full) (sym (simp and_false))

-- a reference within the segment, which access permits
pub lacks_within : (p : Plan) (s : Store) (k u o : ℕ) (how : RefKind) {n : Node} {r : Bool}
    → node_in s.nodes u ≡ Some n → permits (access_of (who_of p k) n.rows) how ≡ true → o / 1024 < n.pages
    → r ≡ (stores_page s u o how && (not (is_used_up s u) && is_volume_full p s n.volume))
    → r ≡ lacks_at p s k o how (node_in s.nodes u)
lacks_within p s k u o how {n} found may lt answer =
    let inside : nat_le (1024 * n.pages) o ≡ false = grind (arith, nat_tests) in
    rw (found, may, inside, found_uid s.nodes u n found) answer

-- what lacks a record is a segment
awaited_by : (p : Plan) (s : Store) (k u o : ℕ) (how : RefKind) → AreFlat s.nodes → (found : Option Node)
    → node_in s.nodes u ≡ found → lacks_at p s k o how found ≡ true → has_segment s.nodes u ≡ true
awaited_by p s k u o how flat None e lacks = cc
awaited_by p s k u o how flat (Some n) e lacks =
    grind (arith, nat_tests, common_steps, not_true, and_first, and_right, has_pages)

pub awaited : (p : Plan) (s : Store) (k u : ℕ) → AreFlat s.nodes → awaits_move p s k u ≡ true
    → has_segment s.nodes u ≡ true
unfolding awaits_move
awaited p s k u flat awaits = by_command (command_at p k (progress_of s k).place) awaits
  where
    by_reference : (o : Option Reference) → awaits_by p s k u o ≡ true → has_segment s.nodes u ≡ true
    by_reference None e = cc
    by_reference (Some r) e = awaited_by p s k u r.offset r.kind flat (node_in s.nodes u) refl
        (and_right (is_uid (known_uid s k r.number) u) _ e)

    by_command : (o : Option Command) → awaits_in p s k u o ≡ true → has_segment s.nodes u ≡ true
    by_command None e = cc
    by_command (Some c) e = by_reference (reference_of c) e

-- ---- a reply that is held back

-- what lacks a record is held back where a volume has room
pub held_told : (p : Plan) (s : Store) (k u o : ℕ) (how : RefKind) (lacks : Bool) (room : Option ℕ)
    → lacks ≡ lacks_at p s k o how (node_in s.nodes u) → room ≡ room_for p s u
    → (lacks && is_some room) ≡ is_held_at p s k o how (node_in s.nodes u)
held_told p s k u o how lacks room is at = rw (is, at) (by (node_in s.nodes u) refl)
  where
    by : (found : Option Node) → node_in s.nodes u ≡ found
        → (lacks_at p s k o how found && is_some (room_for p s u)) ≡ is_held_at p s k o how found
    by None e = refl
    by (Some n) e = ap (λ x. lacks_at p s k o how (Some n) && is_some (room_for p s x)) (sym (found_uid s.nodes u n e))

-- a volume that a segment may move to has room
pub room_there : {p : Plan} {s : Store} {k u w : ℕ} → MayMove p s k u w → has_room p s u w ≡ true
room_there {p} {s} {k} {u} {w} may = (first_told (has_room p s u) (length p.volumes) w may.first).passes

-- a reference that stores no page anew lacks no record
pub lacks_none : (p : Plan) (s : Store) (k u o : ℕ) (how : RefKind) → stores_page s u o how ≡ false
    → false ≡ lacks_at p s k o how (node_in s.nodes u)
lacks_none p s k u o how none = grind (arith, nat_tests, common_steps, found_uid, and_false)
