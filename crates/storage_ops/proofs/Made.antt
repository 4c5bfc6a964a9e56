-- What the making of a directory or a segment in a directory is answered, and what it leaves.
use Rattle.storage_ops.proofs.Prelude.{◌≡◌, ℕ, ◌<◌, Bool, true, false, cond, List, [], ◌∷◌, ◌++◌, is_none, Option, Some, None, Result, Ok, All, IsSome, set, get_or, is_some, ◌&&◌, length, sym, ◌∙◌, arith, nat_le, nat_tests, length-set, position-Some, Plan, AddFault, add_fault_of, Node, above, branch_in, entries_on, node_at, after_make, made_in, make_in, Row, parts_are, Store, entries_of, least_free_entry, entries, used, vtoc_in, Reply as reply, AddFault as add_fault, Nodes_unless as unless, VtocEntry as Entry}
use Rattle.storage_ops.proofs.Known.{size_set}
use Rattle.storage_ops.proofs.NamingLaws.{count_full, count_less}

told : (x y z w full : Bool) (n : ℕ)
    → ◌≡◌ {A = Result (Unit {0}) AddFault} (Ok tt) (unless (cond x (Some add_fault.Exists) (cond y
    (Some add_fault.Deep) (cond z (Some add_fault.Room) None))) tt) → full ≡ w
    → cond full reply.NoEntry (reply.Made n) ≡ cond x reply.Exists (cond y reply.Deep (cond z reply.Room
    (cond w reply.NoEntry (reply.Made n))))
told true y z w full n ok is = cc
told false true z w full n ok is = cc
told false false true w full n ok is = cc
told false false false w full n ok is = cc

-- where nothing but the want of a VTOC entry can refuse it
pub made_told : (p : Plan) (s : Store) (volume : ℕ) (dir : Bool) (name : List ℕ) (d : Node) (nodes : List Node)
    (superior next : ℕ) (r : Result (Unit {0}) AddFault)
    (full : Bool) → s.nodes ≡ nodes → s.next ≡ next → d.uid ≡ superior
    → r ≡ unless (add_fault_of nodes superior name dir) tt → Ok tt ≡ r
    → full ≡ nat_le (entries_of p volume) (entries_on s.nodes volume)
    → cond full reply.NoEntry (reply.Made next) ≡ make_in p s volume dir name d
made_told p s volume dir name d nodes superior next r full same at below answer ok is =
    rw (← at) (told (is_some (branch_in s.nodes d.uid name)) (dir && nat_le 8 (length (above s.nodes d.uid)))
    (nat_le 4097 (length s.nodes)) (nat_le (entries_of p volume) (entries_on s.nodes volume)) full s.next
    (cc (ok, answer, same, below)) is)

-- all entries of a volume are used, and not all
pub all_used : (vtocs : List (List (Option Entry))) (v most count : ℕ)
    → All (λ entry. IsSome entry) (vtoc_in vtocs v) → most ≡ entries vtocs v
    → count ≡ used vtocs v → true ≡ nat_le most count
all_used vtocs v most count all is counted =
    grind (arith, is ∙ sym (count_full (vtoc_in vtocs v) (λ k lt. all k None lt)) ∙ sym counted, nat_tests)

pub some_free : (vtocs : List (List (Option Entry))) (v : ℕ) {e most count : ℕ}
    → Some e ≡ least_free_entry (vtoc_in vtocs v) → most ≡ entries vtocs v
    → count ≡ used vtocs v → false ≡ nat_le most count
some_free vtocs v {e} {most} {count} least is counted =
    let at = position-Some is_none (vtoc_in vtocs v) e None (sym least) in
    let less = count_less (vtoc_in vtocs v) e at.0 at.1 in
    let fewer : count < most = omega arith in
    grind (arith, nat_tests)

-- each table of tables is as long as before, once an element of one is changed
pub length_inside : {X : Type 0} (vtocs : List (List X)) (v e w : ℕ) (x : X) {now : List (List X)}
    → now ≡ set vtocs v (set (get_or vtocs v []) e x) → length (get_or now w []) ≡ length (get_or vtocs w [])
length_inside vtocs v e w x is =
    rw is (size_set vtocs v (set (get_or vtocs v []) e x) (length-set (get_or vtocs v []) e x) w)

-- ---- by its path

module _ (s : Store) {nodes : List Node} {path : List (List ℕ)} (names : List (List ℕ)) (name : List ℕ) (volume : ℕ)
    (dir : Bool) (same : s.nodes ≡ nodes) (parts : path ≡ names ++ name ∷ []) where
  pub after_make_is : (pages : ℕ) (rows : List Row) {d : Node} → node_at nodes names ≡ Ok d
      → made_in s volume dir pages rows name d ≡ after_make s path volume dir pages rows
  unfolding after_make
  after_make_is pages rows found = rw (parts_are path names name parts, same, found)
