-- What is active is in the tree after each entry that is allowed, and lies there and needs a place as before.
use Rattle.custody.proofs.Prelude.{not_both, ◌≡◌, ◌≢◌, ℕ, Bool, true, false, cond, eqb, List, [], ◌∷◌, Option, Some, None, Result, Ok, Err, map, ℤ, ◌+◌, ◌-◌, refl, sym, ap, ◌∙◌, inl, inr, is_some, IsSomeAnd, is_positive, unsigned_abs, eqb_tells, Plan, command_at, who_of, reference_of, Command, Reference, RefKind, Mode, Named, Entry, Reply, Row, with_row, giver_of, getter_of, with_quota_of, Node, above, node_in, pool_of, without_node, node_at, segment_at, branch_at, directory_at, changed, parts_of, effect_of, effect_by, effect_of_tree_command, after_command, takes_effect, reply_to_command, IsLawful, IsAnswer, after_do, after_entry, after_make, made_of, made_at, owner_row, after_delete, deleted, rehomed, after_initiate, initiated, after_terminate, after_reference, written_by, after_acl, after_move, moved, row_with, after_length, after_truncate, truncated, Store, known_uid, IsAllowed, MayAnswer, is_device, IsOutOfUse, MayTakeEffect, OfNode, AreApart, AreNodes, IsAsActivated, Tables, active_at, custody_of, use_in, ActiveUse, found_uid, node_without}
use Rattle.script.specs.declared.commands.Command.TheVariants as command
use Rattle.script.specs.declared.commands.RefKind.TheVariants as kind
use Rattle.book.specs.declared.entries.Entry.TheVariants as entry
use Rattle.book.specs.declared.replies.Reply.TheVariants as reply
use Rattle.custody.proofs.ActiveLaws.{some_none}

-- what is active isn't a node of which that isn't so
not_active : (uses : List (Option ActiveUse)) (u v : ℕ) (a : ActiveUse) → active_at uses u ≡ Some a
    → is_some (active_at uses v) ≡ false → u ≢ v
not_active uses u v a is off same = not_both (rw is refl) (rw (← same) at off)

-- ---- a node more

pub nodes_made : (n : Node) (ns : List Node) (uses : List (Option ActiveUse)) → node_in ns n.uid ≡ None
    → AreNodes ns uses → AreNodes (n ∷ ns) uses
nodes_made n ns uses new t = record {
  apart = (new, t.apart);
  there = λ u a is. elim (eqb_tells n.uid u) [
    | inl e ↦ absurd (rw (← e.1, new) at (t.there u a is))
    | inr e ↦ rw e.0 (t.there u a is)
  ];
}

-- ---- nodes changed, each with its uid

abbrev changed_option : (Node → Node) → Option Node → Option Node
changed_option g None = None
changed_option g (Some n) = Some (g n)

node_changed : (g : Node → Node) → ((n : Node) → (g n).uid ≡ n.uid) → (ns : List Node) (u : ℕ) → node_in (map g ns) u
    ≡ changed_option g (node_in ns u)
node_changed g same [] u = refl
node_changed g same (n ∷ ns) u =
    let here : eqb (g n).uid u ≡ eqb n.uid u = ap (λ v. eqb v u) (same n) in
    elim (eqb_tells n.uid u) [
      | inl e ↦ ap (λ b. cond b (Some (g n)) (node_in (map g ns) u)) (here ∙ e.0)
          ∙ sym (ap (λ b. changed_option g (cond b (Some n) (node_in ns u))) e.0)
      | inr e ↦ ap (λ b. cond b (Some (g n)) (node_in (map g ns) u)) (here ∙ e.0) ∙ node_changed g same ns u
          ∙ sym (ap (λ b. changed_option g (cond b (Some n) (node_in ns u))) e.0)
    ]

none_changed : (g : Node → Node) (o : Option Node) → o ≡ None → changed_option g o ≡ None
none_changed g None e = refl
none_changed g (Some n) e = cc

apart_changed : (g : Node → Node) → ((n : Node) → (g n).uid ≡ n.uid) → (ns : List Node) → AreApart ns
    → AreApart (map g ns)
apart_changed g same [] t = tt
apart_changed g same (n ∷ ns) t = (
  node_changed g same ns (g n).uid ∙ none_changed g (node_in ns (g n).uid) (ap (λ u. node_in ns u) (same n) ∙ t.0),
  apart_changed g same ns t.1,
)

-- a change that leaves superior and pool of the nodes that are active leaves what is active
pub nodes_changed : (g : Node → Node) (ns : List Node) (uses : List (Option ActiveUse))
    → ((n : Node) → (g n).uid ≡ n.uid)
    → ((n : Node) (a : ActiveUse) → active_at uses n.uid ≡ Some a → IsAsActivated a n → IsAsActivated a (g n))
    → AreNodes ns uses → AreNodes (map g ns) uses
nodes_changed g ns uses same keeps t = record {
  apart = apart_changed g same ns t.apart;
  there = λ u a is. rw (node_changed g same ns u) (by (node_in ns u) u a is refl (t.there u a is));
}
  where
    by : (o : Option Node) (u : ℕ) (a : ActiveUse) → active_at uses u ≡ Some a → node_in ns u ≡ o
        → IsSomeAnd o (IsAsActivated a) → IsSomeAnd (changed_option g o) (IsAsActivated a)
    by None u a is e h = h
    by (Some n) u a is e h = keeps n a (ap (λ v. active_at uses v) (found_uid ns u n e) ∙ is) h

-- ---- a node less

apart_left : (ns : List Node) (u : ℕ) → AreApart ns → AreApart (without_node ns u)
apart_left [] u t = tt
apart_left (n ∷ ns) u t = elim (eqb_tells n.uid u) [
  | inl e ↦ rw e.0 (apart_left ns u t.1)
  | inr e ↦ rw e.0 (node_without ns u n.uid e.1 ∙ t.0, apart_left ns u t.1)
]

pub nodes_left : (ns : List Node) (uses : List (Option ActiveUse)) (u : ℕ) → is_some (active_at uses u) ≡ false
    → AreNodes ns uses → AreNodes (without_node ns u) uses
nodes_left ns uses u off t = record {
  apart = apart_left ns u t.apart;
  there = λ v a is. rw (node_without ns u v (not_active uses v u a is off)) (t.there v a is);
}

-- ---- one active segment more or less

-- what is put for one uid is as its node is
pub nodes_put : (ns : List Node) (old new : List (Option ActiveUse)) (u : ℕ) (to : Option ActiveUse) → AreNodes ns old
    → ((v : ℕ) → active_at new v ≡ cond (eqb v u) to (active_at old v))
    → ((a : ActiveUse) → to ≡ Some a → IsSomeAnd (node_in ns u) (IsAsActivated a)) → AreNodes ns new
nodes_put ns old new u to t put is_node = record {
  apart = t.apart;
  there = λ v a is. elim (eqb_tells v u) [
    | inl e ↦ rw e.1 (is_node a (rw (put v, e.0) at is))
    | inr e ↦ t.there v a (rw (put v, e.0) at is)
  ];
}

-- a use that is that of a node is as the node is
pub use_as : (o : Option Node) (a : ActiveUse) → use_in o ≡ Some a → IsSomeAnd o (IsAsActivated a)
use_as None a e = absurd (some_none a e)
use_as (Some n) a e = let w : record { superior = n.superior; pool = pool_of n } ≡ a =
    cc in rw (sym w) (record { superior = refl; pool = refl })

-- ---- what each command leaves of the nodes

-- the store before and after: the uids of the tree are below the next one, and what is active is in the tree
abbrev Stay : Store → Store → List (Option ActiveUse) → Type 0
Stay s new uses = AreNodes s.nodes uses → AreNodes new.nodes uses

same_nodes : (s new : Store) (uses : List (Option ActiveUse)) → new.nodes ≡ s.nodes → Stay s new uses
same_nodes s new uses e t = rw e t

made_node : (s : Store) (uses : List (Option ActiveUse)) (volume : ℕ) (directory : Bool) (pages : ℕ) (rows : List Row)
    (name : List ℕ)
    (o : Result Node Reply) → node_in s.nodes s.next ≡ None → Stay s (made_at s volume directory pages rows name o) uses
made_node s uses volume directory pages rows name (Ok d) new t = nodes_made _ s.nodes uses new t
made_node s uses volume directory pages rows name (Err r) new t = t

made_parts : (s : Store) (uses : List (Option ActiveUse)) (volume : ℕ) (directory : Bool) (pages : ℕ) (rows : List Row)
    (parts : Option (List (List ℕ) × List ℕ)) → node_in s.nodes s.next ≡ None
    → Stay s (made_of s volume directory pages rows parts) uses
made_parts s uses volume directory pages rows None new t = t
made_parts s uses volume directory pages rows (Some parts) new t =
    made_node s uses volume directory pages rows parts.1 (node_at s.nodes parts.0) new t

made : (s : Store) (uses : List (Option ActiveUse)) (path : List (List ℕ)) (volume : ℕ) (directory : Bool) (pages : ℕ)
    (rows : List Row) → node_in s.nodes s.next ≡ None → Stay s (after_make s path volume directory pages rows) uses
unfolding after_make
made s uses path volume directory pages rows new t = made_parts s uses volume directory pages rows (parts_of path) new t

-- a node that is changed where it has a uid
one_uid : (u : ℕ) (f : Node → Node) → ((n : Node) → (f n).uid ≡ n.uid) → (n : Node)
    → (cond (eqb n.uid u) (f n) n).uid ≡ n.uid
one_uid u f same n = elim (eqb_tells n.uid u) [ inl e ↦ rw e.0 (same n) | inr e ↦ rw e.0 refl ]

one_as : (u : ℕ) (f : Node → Node) (n : Node) (a : ActiveUse) → (n.uid ≡ u → IsAsActivated a (f n))
    → IsAsActivated a n → IsAsActivated a (cond (eqb n.uid u) (f n) n)
one_as u f n a each h = elim (eqb_tells n.uid u) [ inl e ↦ rw e.0 (each e.1) | inr e ↦ rw e.0 h ]

one_changed : (ns : List Node) (uses : List (Option ActiveUse)) (u : ℕ) (f : Node → Node)
    → ((n : Node) → (f n).uid ≡ n.uid)
    → ((n : Node) (a : ActiveUse) → n.uid ≡ u → active_at uses n.uid ≡ Some a → IsAsActivated a n
    → IsAsActivated a (f n)) → AreNodes ns uses → AreNodes (map (λ n. cond (eqb n.uid u) (f n) n) ns) uses
one_changed ns uses u f same keeps = nodes_changed (λ n. cond (eqb n.uid u) (f n) n) ns uses (one_uid u f same)
    (λ n a is h. one_as u f n a (λ at. keeps n a at is h) h)

-- a node with another list of access
rows_changed : (s : Store) (uses : List (Option ActiveUse)) (row : Named) (m : Mode) (o : Result Node Reply)
    → Stay s (changed s (λ n. record n { rows = with_row (row_with row m) n.rows }) o) uses
rows_changed s uses row m (Err r) t = t
rows_changed s uses row m (Ok x) t =
    one_changed s.nodes uses x.uid (λ n. record n { rows = with_row (row_with row m) n.rows }) (λ n. refl)
    (λ n a at is h. record { superior = h.superior; pool = h.pool }) t

-- the length of a segment that isn't active
length_changed : (s : Store) (uses : List (Option ActiveUse)) (pages : ℕ) (o : Result Node Reply)
    → OfNode (λ n. is_some (active_at uses n.uid) ≡ false) o
    → Stay s (changed s (λ n. record n { pages = pages }) o) uses
length_changed s uses pages (Err r) off t = t
length_changed s uses pages (Ok x) off t = one_changed s.nodes uses x.uid (λ n. record n { pages = pages }) (λ n. refl)
    (λ n a at is h. absurd (not_active uses n.uid x.uid a is off at)) t

-- the volume of a segment
volume_changed : (s : Store) (uses : List (Option ActiveUse)) (u volume : ℕ) → Stay s (rehomed s u volume) uses
volume_changed s uses u volume = one_changed s.nodes uses u (λ n. record n { volume = volume }) (λ n. refl)
    (λ n a at is h. record { superior = h.superior; pool = h.pool })

quota_moved : (s : Store) (uses : List (Option ActiveUse)) (amount : ℤ) (o : Result Node Reply)
    → Stay s (moved s amount o) uses
quota_moved s uses amount (Err r) t = t
quota_moved s uses amount (Ok x) t = nodes_changed (λ n. give (get n)) s.nodes uses
    (λ n. one_uid giver (λ m. record m { quota = m.quota - pages }) (λ m. refl) (get n)
    ∙ one_uid getter (λ m. record m { quota = m.quota + pages }) (λ m. refl) n)
    (λ n a is h. stays giver (λ q. q - pages) (get n) a (stays getter (λ q. q + pages) n a h)) t
  where
    pages : ℕ
    pages = unsigned_abs amount

    giver : ℕ
    giver = giver_of (above s.nodes) x.uid (is_positive amount)

    getter : ℕ
    getter = getter_of (above s.nodes) x.uid (is_positive amount)

    get : Node → Node
    get = with_quota_of getter (λ q. q + pages)

    give : Node → Node
    give = with_quota_of giver (λ q. q - pages)

    stays : (u : ℕ) (change : ℕ → ℕ) (n : Node) (a : ActiveUse) → IsAsActivated a n
        → IsAsActivated a (with_quota_of u change n)
    stays u change n a h = one_as u (λ m. record m { quota = change m.quota }) n a
        (λ at. record { superior = h.superior; pool = h.pool }) h

node_deleted : (s : Store) (uses : List (Option ActiveUse)) (o : Result Node Reply)
    → OfNode (λ n. is_some (active_at uses n.uid) ≡ false) o → Stay s (deleted s o) uses
node_deleted s uses (Err r) off t = t
node_deleted s uses (Ok n) off t = nodes_left s.nodes uses n.uid off t

cut_nodes : (s : Store) (from : ℕ) (o : Result Node Reply) → (truncated s from o).nodes ≡ s.nodes
cut_nodes s from (Ok n) = refl
cut_nodes s from (Err r) = refl

known_nodes : (s : Store) (k : ℕ) (o : Result Node Reply) → (initiated s k o).nodes ≡ s.nodes
known_nodes s k (Ok n) = refl
known_nodes s k (Err r) = refl

written_nodes : (s : Store) (offset : ℕ) (how : RefKind) (o : Option ℕ) → (written_by s offset how o).nodes ≡ s.nodes
written_nodes s offset how None = refl
written_nodes s offset kind.Read (Some u) = refl
written_nodes s offset (kind.Write w) (Some u) = refl
written_nodes s offset (kind.Add w) (Some u) = refl

inactive_node : (t : Tables) (o : Result Node Reply) → OfNode (λ n. IsOutOfUse (custody_of t) n.uid) o
    → OfNode (λ n. is_some (active_at t.active n.uid) ≡ false) o
inactive_node t (Ok n) h = h.inactive
inactive_node t (Err r) h = tt

tree_command_stays : (p : Plan) (s : Store) (t : Tables) (k : ℕ) (c : Command) → node_in s.nodes s.next ≡ None
    → MayTakeEffect s (custody_of t) k c → Stay s (effect_of_tree_command p s k c) t.active
unfolding after_initiate after_terminate after_acl after_length after_truncate after_delete after_move
tree_command_stays p s t k (command.MkDir path volume) new may = made s t.active path volume true 0 [] new
tree_command_stays p s t k (command.MkSeg path pages volume) new may =
    made s t.active path volume false pages (owner_row (who_of p k) ∷ []) new
tree_command_stays p s t k (command.Initiate path) new may =
    same_nodes s (initiated s k (segment_at s.nodes path)) t.active (known_nodes s k (segment_at s.nodes path))
tree_command_stays p s t k (command.Acl path row m) new may = rows_changed s t.active row m (segment_at s.nodes path)
tree_command_stays p s t k (command.Length path pages) new may =
    length_changed s t.active pages (segment_at s.nodes path) may
tree_command_stays p s t k (command.Truncate path words) new may =
    same_nodes s (truncated s words (segment_at s.nodes path)) t.active (cut_nodes s words (segment_at s.nodes path))
tree_command_stays p s t k (command.Delete path) new may =
    node_deleted s t.active (branch_at s.nodes path) (inactive_node t (branch_at s.nodes path) may)
tree_command_stays p s t k (command.Move path amount) new may =
    quota_moved s t.active amount (directory_at s.nodes path)
tree_command_stays p s t k _ new may = λ x. x

effect_stays : (p : Plan) (s : Store) (t : Tables) (k d : ℕ) (f : Option ℕ) (c : Command) (r : Reply)
    (o : Option Reference) → node_in s.nodes s.next ≡ None → MayAnswer p s (custody_of t) d k f c r o
    → takes_effect (reply_to_command p s k c) ≡ true → is_device r ≡ false → Stay s (effect_by p s k c o) t.active
unfolding after_reference
effect_stays p s t k d f c r (Some x) new may takes told =
    same_nodes s (written_by s x.offset x.kind (known_uid s k x.number)) t.active
    (written_nodes s x.offset x.kind (known_uid s k x.number))
effect_stays p s t k d f c r None new may takes told =
    tree_command_stays p s t k c new (may.out (rw (takes, told) refl))

-- an answer that takes effect is the flat store's, and no drive's failure
due_answer : (p : Plan) (s : Store) (k : ℕ) (c : Command) (r : Reply) → IsAnswer p s k (Some c) r → takes_effect r
    ≡ true → (takes_effect (reply_to_command p s k c) ≡ true) × (is_device r ≡ false)
due_answer p s k c r (inl e) takes = (rw e.own at takes, no_device r takes)
  where
    no_device : (r : Reply) → takes_effect r ≡ true → is_device r ≡ false
    no_device reply.Device h = cc
    no_device _ h = refl
due_answer p s k c r (inr m) takes = let clash : false ≡ true = rw m.device at takes in cc

answer_stays : (p : Plan) (s : Store) (t : Tables) (k d : ℕ) (f : Option ℕ) (c : Command) (r : Reply)
    → node_in s.nodes s.next ≡ None
    → MayAnswer p s (custody_of t) d k f c r (reference_of c) → IsAnswer p s k (Some c) r → (b : Bool) → takes_effect r
    ≡ b → Stay s (cond b (effect_of p s k c) s) t.active
answer_stays p s t k d f c r new may answer false e = λ x. x
answer_stays p s t k d f c r new may answer true e =
    let due = due_answer p s k c r answer e in
    effect_stays p s t k d f c r (reference_of c) new may due.0 due.1

command_stays : (p : Plan) (s : Store) (t : Tables) (k d : ℕ) (f : Option ℕ) (o : Option Command) (r : Reply)
    → node_in s.nodes s.next ≡ None
    → IsSomeAnd o (λ c. MayAnswer p s (custody_of t) d k f c r (reference_of c)) → IsAnswer p s k o r
    → Stay s (after_do p s k o r) t.active
unfolding after_command
command_stays p s t k d f None r new may answer = absurd may
command_stays p s t k d f (Some c) r new may answer = answer_stays p s t k d f c r new may answer (takes_effect r) refl

-- ---- each entry

-- what is active stays so in the tree after an entry that is lawful and allowed
pub nodes_kept : (p : Plan) (s : Store) (t : Tables) (e : Entry) → node_in s.nodes s.next ≡ None
    → IsAllowed p s (custody_of t) e → IsLawful p s e
    → AreNodes s.nodes t.active → AreNodes (after_entry p s e).nodes t.active
unfolding IsLawful after_entry
nodes_kept p s t (entry.Do k place d f r) new may lawful nodes =
    command_stays p s t k d f (command_at p k place) r new (rw lawful.next at may.command) lawful.answer nodes
nodes_kept p s t (entry.Release u q) new may lawful nodes = nodes
nodes_kept p s t (entry.Fault None) new may lawful nodes = nodes
nodes_kept p s t (entry.Fault (Some k)) new may lawful nodes = nodes
nodes_kept p s t (entry.Moved k u w) new may lawful nodes = volume_changed s t.active u w nodes
nodes_kept p s t _ new may lawful nodes = nodes
