-- What processors hold stays what their processes may do where a command leaves the access lists, the lengths and the
-- numbers of what it doesn't take away.
use Rattle.machine_model.proofs.StepBasics.{option_map, cond_both, ◌≡◌, ◌<◌, ℕ, Bool, true, false, cond, eqb, length, set, List, [], ◌∷◌, Option, Some, None, refl, sym, inl, inr, ap, ◌∙◌, arith, eqb_tells, length-set, Who, HeldSeg, uid_of, Node, above, node_in, without_node, getter_of, giver_of, with_quota_of, ◌+◌, ◌-◌, ℤ, map, is_positive, unsigned_abs, kst_at, node_gone, Mover, AreEntitled, HoldEntitled, IsEntitled, move_committed, cpu_at, Processor, Command, Row, Ptw, erased, parts_of, committed, committed_at, with_made, with_truncated, frames_freed, inactive_if, with_deleted, without_page, IsEntitledToAll, with_inactive, Keeps, frames_of_owner, home_in, is_active, process_at, uid_of_command, State, Storage, with_pages, Sdw, leads, leads_to, AreHeldSegs, led_to, seen, descriptor_of, shown, slice_index_or, with_node, uid_at, Segment, sdw_at, node_without, Command as command, Ptw as ptw, Sdw as sdw, set_entitled, node_mapped, none_some, truncated_has}
use Rattle.machine_model.proofs.CommitRests.{led_now}

-- each older node that is there now was there, with these rows and pages
pub record HaveFrom (old now : List Node) (next : ℕ) : Type 0 where
  pub each : (u : ℕ) (n : Node) → u < next → node_in now u ≡ Some n → (m : Node) × (node_in old u ≡ Some m)
      × (n.rows ≡ m.rows) × (n.pages ≡ m.pages)

pub from_same : (ns : List Node) (next : ℕ) → HaveFrom ns ns next
from_same ns next = record { each = λ u n less h. (n, h, refl, refl) }

-- a node more
pub from_more : (ns : List Node) (b : Node) (next : ℕ) → b.uid ≡ next → HaveFrom ns (b ∷ ns) next
from_more ns b next is = record {
  each = λ u n less h. elim (eqb_tells b.uid u) [
    | inl same ↦ (let e = same.1 in absurd (omega arith))
    | inr other ↦ (n, rw other.0 at h, refl, refl)
  ];
}

-- a node less
pub from_less : (ns : List Node) (v next : ℕ) → HaveFrom ns (without_node ns v) next
from_less ns v next = record {
  each = λ u n less h. elim (eqb_tells u v) [
    | inl same ↦ absurd (none_some (sym (node_gone ns v) ∙ (ap (λ (x : ℕ). node_in (without_node ns v) x) (sym same.1)
        ∙ h)))
    | inr other ↦ (n, sym (node_without ns v u other.1) ∙ h, refl, refl)
  ];
}

module _ {old now : List Node} (whos : List Who) (known : List (List (Option ℕ))) {next : ℕ}
    (from : HaveFrom old now next) (older : (k number u : ℕ) → uid_of (kst_at known k) number ≡ Some u → u < next) where
  one_from : {k : ℕ} {e : HeldSeg} → IsEntitled old whos known k e → IsEntitled now whos known k e
  one_from {k} {e} h = record {
    stands = h.stands;
    mode = λ n at. (let m = from.each e.uid n (older k e.number e.uid h.stands) at in cc (h.mode m.0 m.1));
    pages = λ n at. (let m = from.each e.uid n (older k e.number e.uid h.stands) at in h.pages m.0 m.1 ∙ sym m.3);
  }

  all_from : (k : ℕ) (es : List HeldSeg) → AreEntitled old whos known k es → AreEntitled now whos known k es
  all_from k [] h = tt
  all_from k (e ∷ es) h = (one_from h.0, all_from k es h.1)

  pub hold_from : {ps : List Processor} → HoldEntitled old whos known ps → HoldEntitled now whos known ps
  hold_from {ps} h = record { each = λ d k at. all_from k (cpu_at ps d).assoc.segs (h.each d k at) }

-- a node that is there once each is changed, but for its uid, was there
was_mapped : (change : Node → Node) → ((n : Node) → (change n).uid ≡ n.uid) → (ns : List Node) (u : ℕ) (n : Node)
    → node_in (map change ns) u ≡ Some n → (m : Node) × (node_in ns u ≡ Some m) × (change m ≡ n)
was_mapped change uid ns u n h = by (node_in ns u) refl (sym (node_mapped change uid ns u) ∙ h)
  where
    by : (x : Option Node) → node_in ns u ≡ x → option_map change x ≡ Some n
        → (m : Node) × (node_in ns u ≡ Some m) × (change m ≡ n)
    by None e i = cc
    by (Some m) e i = (m, e, cc i)

-- quota that moves leaves the rest of a node
quota_changes : (v : ℕ) (f : ℕ → ℕ) (n : Node) → with_quota_of v f n ≡ record n { quota = (with_quota_of v f n).quota }
quota_changes v f n = cond_both (eqb n.uid v) (record n { quota = f n.quota }) n (λ x. x ≡ record n { quota = x.quota })
    (λ h. refl) (λ h. refl)

-- a node once quota has moved to a directory, or from it
abbrev pub node_moved : List Node → ℕ → ℤ → Node → Node
node_moved ns d amount n = with_quota_of (giver_of (above ns) d (is_positive amount)) (λ q. q - unsigned_abs amount)
    (with_quota_of (getter_of (above ns) d (is_positive amount)) (λ q. q + unsigned_abs amount) n)

pub quota_moves : (ns : List Node) (d : ℕ) (amount : ℤ) (n : Node)
    → node_moved ns d amount n ≡ record n { quota = (node_moved ns d amount n).quota }
quota_moves ns d amount n =
    let got = with_quota_of (getter_of (above ns) d (is_positive amount)) (λ q. q + unsigned_abs amount) n in
    quota_changes (giver_of (above ns) d (is_positive amount)) (λ q. q - unsigned_abs amount) got
    ∙ (λ i. record (quota_changes (getter_of (above ns) d (is_positive amount)) (λ q. q + unsigned_abs amount) n i) {
      quota = (node_moved ns d amount n).quota;
    })

-- a segment that moves to another volume
from_moved : (ns : List Node) (u volume next : ℕ)
    → HaveFrom ns (with_node ns u (λ n. record n { volume = volume })) next
from_moved ns u volume next = record {
  each = λ v n less h. (let m = was_mapped (λ x. cond (eqb x.uid u) (record x { volume = volume }) x)
      (λ x. still (λ y. y.uid ≡ x.uid) x refl refl) ns v n h in (
        m.0,
        m.1,
        cc (still (λ y. y.rows ≡ m.0.rows) m.0 refl refl),
        cc (still (λ y. y.pages ≡ m.0.pages) m.0 refl refl),
      ));
}
  where
    still : (P : Node → Type 0) (x : Node) → P (record x { volume = volume }) → P x
        → P (cond (eqb x.uid u) (record x { volume = volume }) x)
    still P x moved stays = cond_both (eqb x.uid u) (record x { volume = volume }) x P (λ e. moved) (λ e. stays)

-- ---- the commands

-- pages that are cut leave the tree, the principals and the numbers
pub record LeavesNames (old now : Storage) : Type 0 where
  pub nodes : now.accounts.nodes ≡ old.accounts.nodes
  pub whos : now.whos ≡ old.whos
  pub known : now.links.known ≡ old.links.known

then_names : {a b c : Storage} → LeavesNames a b → LeavesNames b c → LeavesNames a c
then_names x y = assumption (y.nodes ∙ x.nodes, y.whos ∙ x.whos, y.known ∙ x.known)

page_names : (st : Storage) (u p : ℕ) (w : Ptw) → LeavesNames st (without_page st u p w)
page_names st u p ptw.Null = assumption
page_names st u p _ = assumption

pub truncated_names : (st : Storage) (u words : ℕ) → LeavesNames st (with_truncated st u words)
truncated_names st u words = truncated_has (LeavesNames st) (record {
  without = λ t u p w h. then_names h (page_names t u p w);
  shortened = λ t f at h. assumption;
  here = λ t f u p h. assumption;
}) st u words (assumption)

-- so does a node that is deleted, but for the tree
pub deleted_names : (st : Storage) (u : ℕ) (frames : List ℕ)
    → LeavesNames st (inactive_if (with_pages st (erased (frames_freed st.pages frames) (home_in st u))) u)
deleted_names st u frames = let freed = with_pages st (erased (frames_freed st.pages frames) (home_in st u)) in
    cond_both (is_active st.ast u) (with_inactive freed u) freed (LeavesNames st) (λ h. assumption) (λ h. assumption)

-- ---- numbers come and go

-- without an owner that has cut something, what a processor holds is what the number of its descriptor stands for
module _ (now : State) (k : Keeps now) (none : now.owner ≡ None) where
  linked_now : (j n u : ℕ) → leads_to ((shown (seen now)).descriptor j n) ≡ Some u
      → led_to now.store.ast.entries (descriptor_of now.store.links j n) ≡ Some u
  linked_now j n u h = led_now (led_to now.store.ast.entries (descriptor_of now.store.links j n)) u (rw none at h)

  stands_now : (j n : ℕ) {u : ℕ} → leads_to ((shown (seen now)).descriptor j n) ≡ Some u
      → uid_of (kst_at now.store.links.known j) n ≡ Some u
  stands_now j n {u} h = by (descriptor_of now.store.links j n) refl
    where
      by : (y : Sdw) → descriptor_of now.store.links j n ≡ y → uid_of (kst_at now.store.links.known j) n ≡ Some u
      by sdw.Fault e = cc (linked_now j n u h)
      by (sdw.Present place mode pages) e = let known = k.store.kept.linked.known j n place (ap leads e) in
          cc (linked_now j n u h)

  segs_again : (known : List (List (Option ℕ))) (j : ℕ) (es : List HeldSeg)
      → AreHeldSegs (shown (seen now)).descriptor j es → AreEntitled now.store.accounts.nodes now.store.whos known j es
      → AreEntitled now.store.accounts.nodes now.store.whos now.store.links.known j es
  segs_again known j [] held h = tt
  segs_again known j (e ∷ es) held h = (assumption (stands_now j e.number held.0), segs_again known j es held.1 h.1)

  pub held_again : {known : List (List (Option ℕ))}
      → HoldEntitled now.store.accounts.nodes now.store.whos known now.processors → IsEntitledToAll now
  held_again {known} h = record {
    each = λ d j at. segs_again known j (cpu_at now.processors d).assoc.segs (rw at at (k.book.holding_right d).segs)
        (h.each d j at);
  }

-- ---- an access list or a length changes

-- A connected descriptor has the mode and the length before and after, so that what is held of it has them too.
module _ (s now : State) (old : Keeps s) (k : Keeps now) (none : now.owner ≡ None)
    (descriptors : now.store.links.descriptors ≡ s.store.links.descriptors)
    (entries : now.store.ast.entries ≡ s.store.ast.entries) (change : Node → Node)
    (uid : (n : Node) → (change n).uid ≡ n.uid) (nodes : now.store.accounts.nodes ≡ map change s.store.accounts.nodes)
  where
    older : (u : ℕ) (n : Node) → node_in now.store.accounts.nodes u ≡ Some n
        → (m : Node) × (node_in s.store.accounts.nodes u ≡ Some m) × (change m ≡ n)
    older u n h = was_mapped change uid s.store.accounts.nodes u n (rw nodes at h)

    one_right : (j : ℕ) (e : HeldSeg) → leads_to ((shown (seen now)).descriptor j e.number) ≡ Some e.uid
        → IsEntitled s.store.accounts.nodes s.store.whos s.store.links.known j e
        → IsEntitled now.store.accounts.nodes now.store.whos now.store.links.known j e
    one_right j e held h = by (descriptor_of now.store.links j e.number) refl
      where
        by : (y : Sdw) → descriptor_of now.store.links j e.number ≡ y
            → IsEntitled now.store.accounts.nodes now.store.whos now.store.links.known j e
        by sdw.Fault i = cc
        by (sdw.Present place mode pages) i = record {
          stands = stands_now now k none j e.number held;
          mode = λ n at. (let m = older e.uid n at in h.mode m.0 m.1
              ∙ (sym (old.store.counted.rights.modes j e.number place pages e.uid mode m.0 was active_was m.1)
              ∙ k.store.counted.rights.modes j e.number place pages e.uid mode n i active at));
          pages = λ n at. (let m = older e.uid n at in h.pages m.0 m.1
              ∙ (sym (old.store.counted.rights.lengths j e.number place pages e.uid mode m.0 was active_was m.1)
              ∙ k.store.counted.rights.lengths j e.number place pages e.uid mode n i active at));
        }
          where
            active : uid_at now.store.ast.entries place ≡ Some e.uid
            active = sym (ap (led_to now.store.ast.entries) i) ∙ (linked_now now k none j e.number e.uid held)

            active_was : uid_at s.store.ast.entries place ≡ Some e.uid
            active_was = ap (λ (es : List (Option Segment)). uid_at es place) (sym entries) ∙ active

            was : descriptor_of s.store.links j e.number ≡ sdw.Present place mode pages
            was = ap (λ (ds : List (List Sdw)). sdw_at (slice_index_or ds j []) e.number) (sym descriptors) ∙ i

    all_right : (j : ℕ) (es : List HeldSeg) → AreHeldSegs (shown (seen now)).descriptor j es
        → AreEntitled s.store.accounts.nodes s.store.whos s.store.links.known j es
        → AreEntitled now.store.accounts.nodes now.store.whos now.store.links.known j es
    all_right j [] held h = tt
    all_right j (e ∷ es) held h = (one_right j e held.0 h.0, all_right j es held.1 h.1)

    pub right_again : HoldEntitled s.store.accounts.nodes s.store.whos s.store.links.known now.processors
        → IsEntitledToAll now
    right_again h = record {
      each = λ d j at. all_right j (cpu_at now.processors d).assoc.segs (rw at at (k.book.holding_right d).segs)
          (h.each d j at);
    }

module _ (s : State) (c : ℕ) (k : Keeps s) (there : c < length s.processors) (h : IsEntitledToAll s) where
  -- nodes that are as they were, with a processor that holds what it held
  by_nodes : {now : List Node} (p : Processor) → HaveFrom s.store.accounts.nodes now s.store.accounts.next
      → p.cpu ≡ cpu_at s.processors c → HoldEntitled now s.store.whos s.store.links.known (set s.processors c p)
  by_nodes {now} p from same = set_entitled now s.store.whos s.store.links.known c p there all
      (λ j e. (rw same (all.each c j (cc))))
    where
      all : HoldEntitled now s.store.whos s.store.links.known s.processors
      all = hold_from s.store.whos s.store.links.known from k.store.counted.known.older h

  abbrev j : ℕ
  j = process_at s c

  same_nodes : HaveFrom s.store.accounts.nodes s.store.accounts.nodes s.store.accounts.next
  same_nodes = from_same s.store.accounts.nodes s.store.accounts.next

  -- a store with the same principals and numbers
  by_store : (now : Storage) (p : Processor) → HaveFrom s.store.accounts.nodes now.accounts.nodes s.store.accounts.next
      → now.whos ≡ s.store.whos → now.links.known ≡ s.store.links.known → p.cpu ≡ cpu_at s.processors c
      → HoldEntitled now.accounts.nodes now.whos now.links.known (set s.processors c p)
  by_store now p from whos known same = rw (whos, known) (by_nodes p from same)

  made : (directory : Bool) (pages volume : ℕ) (rows : List Row) (x : Option (List (List ℕ) × List ℕ)) (p : Processor)
      → p.cpu ≡ cpu_at s.processors c → HoldEntitled (with_made s.store directory pages volume rows x).accounts.nodes
      (with_made s.store directory pages volume rows x).whos
      (with_made s.store directory pages volume rows x).links.known (set s.processors c p)
  made directory pages volume rows None p same = by_nodes p same_nodes same
  made directory pages volume rows (Some parts) p same = by_nodes p
      (from_more s.store.accounts.nodes _ s.store.accounts.next refl) same

  -- What processors hold stays so once a segment has moved.
  pub moved_entitled : (m : Mover) → IsEntitledToAll (move_committed s c m)
  moved_entitled m = hold_from s.store.whos s.store.links.known
      (from_moved s.store.accounts.nodes m.uid m.to.0 s.store.accounts.next) k.store.counted.known.older h

  -- What processors hold stays so after a command.
  pub commit_entitled : (x : Option Command) → Keeps (committed_at s c x) → IsEntitledToAll (committed_at s c x)
  commit_entitled None kept = h
  commit_entitled (Some (command.Acl path row m)) kept = right_again s (committed s c j (command.Acl path row m)) k kept
      refl refl refl _ (λ n. cond_both _ _ n (λ x. x.uid ≡ n.uid) (λ h. refl) (λ h. refl)) refl
      (by_nodes _ same_nodes refl)
  commit_entitled (Some (command.Length path pages)) kept = right_again s (committed s c j (command.Length path pages))
      k kept refl refl refl _ (λ n. cond_both _ _ n (λ x. x.uid ≡ n.uid) (λ h. refl) (λ h. refl)) refl
      (by_nodes _ same_nodes refl)
  commit_entitled (Some (command.Move path amount)) kept = right_again s (committed s c j (command.Move path amount)) k
      kept refl refl refl _ (λ n. cc (quota_moves s.store.accounts.nodes (uid_of_command s.store j
      (command.Move path amount)) amount n)) refl (by_nodes _ same_nodes refl)
  commit_entitled (Some (command.Initiate path)) kept = held_again (committed s c j (command.Initiate path)) kept
      refl (by_nodes _ same_nodes refl)
  commit_entitled (Some (command.Terminate n)) kept = held_again (committed s c j (command.Terminate n)) kept
      refl (by_nodes _ same_nodes refl)
  commit_entitled (Some (command.MkDir path volume)) kept = made true 0 volume [] (parts_of path) _ refl
  commit_entitled (Some (command.MkSeg path pages volume)) kept = made false pages volume _ (parts_of path) _ refl
  commit_entitled (Some (command.Truncate path words)) kept =
      let names = truncated_names s.store (uid_of_command s.store j (command.Truncate path words)) words in
      by_store (with_truncated s.store (uid_of_command s.store j (command.Truncate path words)) words) _
      (rw names.nodes same_nodes) names.whos names.known refl
  commit_entitled (Some (command.Delete path)) kept = let u = uid_of_command s.store j (command.Delete path) in
      let names = deleted_names s.store u (frames_of_owner s.owner) in
      by_store (with_deleted s.store u (frames_of_owner s.owner)) _
      (from_less s.store.accounts.nodes u s.store.accounts.next) names.whos names.known refl
  commit_entitled (Some command.End) kept = set_entitled s.store.accounts.nodes s.store.whos s.store.links.known c _
      (rw (length-set s.processors c _) there) (by_nodes _ same_nodes refl) (λ i e. cc)
  commit_entitled _ kept = by_nodes _ same_nodes refl
