-- What the flat store answers a command is never that a drive failed.
use Rattle.machine_model.proofs.Prelude.{◌≡◌, ℕ, ℤ, Bool, true, false, not, ◌&&◌, cond, eqb, List, [], ◌∷◌, Option, Some, None, Result, Ok, Err, refl, nat_le, ◌*◌, length, is_some, ◌/◌, Named, Plan, new_word, permits, reference_of, Command, Reference, RefKind, Reply, access_of, takes_row, giver_of, over_in, above, branch_in, entries_on, is_inferior, quota_in, Node, Walk, LeadsTo, node_in, walk_in, branch_at, directory_at, done_at, node_at, only_directory, only_segment, parts_of, segment_at, there_or, walked, reply_by, reply_to_command, reply_to_tree_command, delete_of, delete_reply, make_at, make_of, make_reply, initiate_of, initiate_reply, known_or_full, status_of, status_reply, terminate_reply, is_used_up, is_out_of_room, stores_page, reply_at, reply_in, reply_to_reference, word_reply, acl_of, acl_reply, done_or_over, move_reply, nodes_moved, is_stored_from, number_for, who_of, is_positive, unsigned_abs, list_any, nat_lt, length_of, length_reply, truncate_reply, Store, entries_of, known_uid, numbers_of, Held, frame_of, seg_of, HeldSeg, Ptw, Sdw, sdw_at, Move, by_descriptor, by_page, by_seg, by_word, next_move, Command as command, RefKind as kind, Reply as reply, references_reply_of as reply_of, rights_move_of as move_of, Ptw as ptw, Sdw as sdw, Move as move, cond_both}

abbrev pub is_device : Reply → Bool
is_device reply.Device = true
is_device _ = false

abbrev fails : Result Node Reply → Bool
fails (Ok n) = false
fails (Err r) = is_device r

-- ---- paths

node_plain : (nodes : List Node) (path : List (List ℕ)) → fails (node_at nodes path) ≡ false
unfolding node_at
node_plain nodes path = by (walk_in nodes path)
  where
    there : (x : Option Node) → fails (there_or x) ≡ false
    there None = refl
    there (Some n) = refl

    by : (w : Walk) → fails (walked nodes w) ≡ false
    by (LeadsTo u) = there (node_in nodes u)
    by _ = refl

segment_plain : (nodes : List Node) (path : List (List ℕ)) → fails (segment_at nodes path) ≡ false
segment_plain nodes path = by (node_at nodes path) (node_plain nodes path)
  where
    only : (n : Node) (b : Bool) → fails (cond b (Err reply.IsDir) (Ok n)) ≡ false
    only n true = refl
    only n false = refl

    by : (x : Result Node Reply) → fails x ≡ false → fails (only_segment x) ≡ false
    by (Ok n) h = only n n.directory
    by (Err r) h = h

directory_plain : (refusal : Reply) → is_device refusal ≡ false → (x : Result Node Reply) → fails x ≡ false
    → fails (only_directory refusal x) ≡ false
directory_plain refusal plain (Ok n) h =
    cond_both n.directory (Ok n) (Err refusal) (λ x. fails x ≡ false) (λ e. refl) (λ e. plain)
directory_plain refusal plain (Err r) h = h

branch_plain : (nodes : List Node) (path : List (List ℕ)) → fails (branch_at nodes path) ≡ false
branch_plain nodes [] = refl
branch_plain nodes (name ∷ names) = node_plain nodes (name ∷ names)

-- ---- commands

four_of : (a b c d : Bool) (n : ℕ) → is_device (cond a reply.Exists (cond b reply.Deep (cond c reply.Room
    (cond d reply.NoEntry (reply.Made n))))) ≡ false
four_of true b c d n = refl
four_of false true c d n = refl
four_of false false true d n = refl
four_of false false false true n = refl
four_of false false false false n = refl

make_at_plain : (p : Plan) (s : Store) (volume : ℕ) (directory : Bool) (name : List ℕ) (x : Result Node Reply)
    → fails x ≡ false → is_device (make_at p s volume directory name x) ≡ false
make_at_plain p s volume directory name (Ok d) h = four_of (is_some (branch_in s.nodes d.uid name))
    (directory && nat_le 8 (length (above s.nodes d.uid))) (nat_le 4097 (length s.nodes))
    (nat_le (entries_of p volume) (entries_on s.nodes volume)) s.next
make_at_plain p s volume directory name (Err r) h = h

make_plain : (p : Plan) (s : Store) (path : List (List ℕ)) (volume : ℕ) (directory : Bool)
    → is_device (make_reply p s path volume directory) ≡ false
unfolding make_reply
make_plain p s path volume directory = by (parts_of path)
  where
    by : (x : Option (List (List ℕ) × List ℕ)) → is_device (make_of p s volume directory x) ≡ false
    by None = refl
    by (Some parts) = make_at_plain p s volume directory parts.1 (only_directory reply.NotDir (node_at s.nodes parts.0))
        (directory_plain reply.NotDir refl (node_at s.nodes parts.0) (node_plain s.nodes parts.0))

known_plain : (x : Option ℕ) → is_device (known_or_full x) ≡ false
known_plain None = refl
known_plain (Some n) = refl

over_plain : (x : Option ℕ) → is_device (done_or_over x) ≡ false
over_plain None = refl
over_plain (Some n) = refl

initiate_plain : (numbers : List (Option ℕ)) (x : Result Node Reply) → fails x ≡ false
    → is_device (initiate_of numbers x) ≡ false
initiate_plain numbers (Ok n) h = known_plain (number_for numbers n.uid)
initiate_plain numbers (Err r) h = h

two_of : (b : Bool) (x y : Reply) → is_device x ≡ false → is_device y ≡ false → is_device (cond b x y) ≡ false
two_of true x y h i = h
two_of false x y h i = i

acl_plain : (row : Named) (x : Result Node Reply) → fails x ≡ false → is_device (acl_of row x) ≡ false
acl_plain row (Ok n) h = two_of (takes_row row.person row.project n.rows) reply.Done reply.AclFull refl refl
acl_plain row (Err r) h = h

length_plain : (stored : List (ℕ × ℕ)) (pages : ℕ) (x : Result Node Reply) → fails x ≡ false
    → is_device (length_of stored pages x) ≡ false
length_plain stored pages (Ok n) h = two_of (is_stored_from stored n.uid pages) reply.Beyond reply.Done refl refl
length_plain stored pages (Err r) h = h

truncate_plain : (x : Result Node Reply) → fails x ≡ false → is_device (done_at x) ≡ false
truncate_plain (Ok n) h = refl
truncate_plain (Err r) h = h

delete_plain : (nodes : List Node) (x : Result Node Reply) → fails x ≡ false → is_device (delete_of nodes x) ≡ false
delete_plain nodes (Ok n) h = two_of (list_any (is_inferior n.uid) nodes) reply.NotEmpty _ refl
    (two_of (eqb n.quota 0) reply.Done _ refl refl)
delete_plain nodes (Err r) h = h

move_plain : (s : Store) (amount : ℤ) (x : Result Node Reply) → fails x ≡ false → is_device (move_of s amount x) ≡ false
move_plain s amount (Ok n) h = two_of (nat_lt (quota_in s.nodes (giver_of (above s.nodes) n.uid (is_positive amount)))
    (unsigned_abs amount)) reply.TooLittle (done_or_over (over_in (nodes_moved s.nodes n.uid amount) s.stored)) refl
    (over_plain (over_in (nodes_moved s.nodes n.uid amount) s.stored))
move_plain s amount (Err r) h = h

status_plain : (s : Store) (x : Result Node Reply) → fails x ≡ false → is_device (status_of s x) ≡ false
status_plain s (Ok n) h = two_of n.directory _ _ refl refl
status_plain s (Err r) h = h

-- a tree command
pub tree_plain : (p : Plan) (s : Store) (k : ℕ) (c : Command) → is_device (reply_to_tree_command p s k c) ≡ false
unfolding initiate_reply terminate_reply acl_reply length_reply truncate_reply delete_reply move_reply status_reply
tree_plain p s k (command.MkDir path volume) = make_plain p s path volume true
tree_plain p s k (command.MkSeg path pages volume) = make_plain p s path volume false
tree_plain p s k (command.Initiate path) = initiate_plain (numbers_of s k) (segment_at s.nodes path)
    (segment_plain s.nodes path)
tree_plain p s k (command.Terminate number) = two_of (is_some (known_uid s k number)) reply.Done reply.Unknown refl refl
tree_plain p s k (command.Acl path row m) = acl_plain row (segment_at s.nodes path) (segment_plain s.nodes path)
tree_plain p s k (command.Length path pages) = length_plain s.stored pages (segment_at s.nodes path)
    (segment_plain s.nodes path)
tree_plain p s k (command.Truncate path words) = truncate_plain (segment_at s.nodes path) (segment_plain s.nodes path)
tree_plain p s k (command.Delete path) = delete_plain s.nodes (branch_at s.nodes path) (branch_plain s.nodes path)
tree_plain p s k (command.Move path amount) = move_plain s amount (directory_at s.nodes path)
    (directory_plain reply.IsSeg refl (branch_at s.nodes path) (branch_plain s.nodes path))
tree_plain p s k (command.Status path) = status_plain s (node_at s.nodes path) (node_plain s.nodes path)
tree_plain p s k _ = refl

-- a reference
pub word_plain : (old : ℕ) (how : RefKind) → is_device (word_reply old how) ≡ false
word_plain old kind.Read = refl
word_plain old _ = refl

reference_plain : (p : Plan) (s : Store) (k : ℕ) (r : Reference) → is_device (reply_to_reference p s k r) ≡ false
unfolding reply_to_reference
reference_plain p s k r = by (known_uid s k r.number)
  where
    node : (n : Node) → is_device (reply_in p s k r.offset r.kind n) ≡ false
    node n = two_of (not (permits (access_of (who_of p k) n.rows) r.kind)) reply.NoAccess _ refl
        (two_of (nat_le (1024 * n.pages) r.offset) reply.Length _ refl (two_of (stores_page s n.uid r.offset r.kind) _ _
        (two_of (is_used_up s n.uid) reply.Quota _ refl
        (two_of (is_out_of_room p s n) reply.NoRecord _ refl (word_plain (s.words n.uid r.offset) r.kind)))
        (word_plain (s.words n.uid r.offset) r.kind)))

    there : (x : Option Node) → is_device (reply_at p s k r.offset r.kind x) ≡ false
    there None = refl
    there (Some n) = node n

    by : (x : Option ℕ) → is_device (reply_of p s k r.offset r.kind x) ≡ false
    by None = refl
    by (Some u) = there (node_in s.nodes u)

pub command_plain : (p : Plan) (s : Store) (k : ℕ) (c : Command) → is_device (reply_to_command p s k c) ≡ false
command_plain p s k c = by (reference_of c)
  where
    by : (x : Option Reference) → is_device (reply_by p s k c x) ≡ false
    by None = tree_plain p s k c
    by (Some r) = reference_plain p s k r

-- ---- a move by itself

abbrev pub tells_device : Move → Bool
tells_device (move.Plain r) = is_device r
tells_device _ = false

by_word_plain : (w : Ptw) (how : RefKind) → tells_device (by_word w how) ≡ false
by_word_plain ptw.Null how = cond_both (eqb (new_word 0 how) 0) (move.Plain (word_reply 0 how)) move.Fault
    (λ x. tells_device x ≡ false) (λ e. word_plain 0 how) (λ e. refl)
by_word_plain _ how = refl

pub move_plainly : (held : Held) (ds : List Sdw) (words : ℕ → ℕ → Ptw) (r : Reference)
    → tells_device (next_move held ds words r) ≡ false
move_plainly held ds words r = by (seg_of held r.number)
  where
    page : (e : HeldSeg) (o : Option ℕ) → tells_device (by_page o (words e.uid (r.offset / 1024)) r.kind) ≡ false
    page e (Some f) = refl
    page e None = by_word_plain (words e.uid (r.offset / 1024)) r.kind

    held_by : (e : HeldSeg) (a b : Bool) (o : Option ℕ) → tells_device (cond a (move.Plain reply.NoAccess) (cond b
        (move.Plain reply.Length) (by_page o (words e.uid (r.offset / 1024)) r.kind))) ≡ false
    held_by e false false o = page e o
    held_by e _ _ o = refl

    seg : (w : Sdw) → tells_device (by_descriptor w) ≡ false
    seg sdw.Fault = refl
    seg (sdw.Present aste mode pages) = refl

    by : (x : Option HeldSeg) → tells_device (by_seg held ds words r x) ≡ false
    by None = seg (sdw_at ds r.number)
    by (Some e) = held_by e (not (permits e.mode r.kind)) (nat_le (1024 * e.pages) r.offset)
        (frame_of held e.uid (r.offset / 1024))
