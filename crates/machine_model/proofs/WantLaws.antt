-- What the next command of a process wants of the tables, by what a look finds for it.
use Rattle.machine_model.proofs.StepBasics.{◌≡◌, ℕ, ◌*◌, Bool, true, false, not, cond, eqb, List, Option, Some, None, Result, Ok, Err, inl, inr, refl, sym, ap, ◌∙◌, arith, nat_le, [], ◌/◌, leb_tells, new_word, permits, Command, Reference, Who, Reply, access_of, Node, node_in, chain_of, uid_of, kst_at, segment_at, who_at, Keeps, Want, Refer, Other, runner_at, want_at, around, is_linked, outline_of, reference_in, runner_by, want_in, want_known, want_lengthened, want_of, want_of_command, want_of_reference, want_truncated, cpu_at, next_command, processor_at, State, found_uid, not_both, Command as command, ◌≢◌, subst, command_at, who_of, entries_on, taken_on, volume_in, MayMove, awaits_by, awaits_in, awaits_move, is_stored, is_used_up, is_volume_full, stores_page, room_for, has_room_flat, Store, known_uid, volume_found, room_is, Ptw, is_full, has_record, Mover, word_of, MayRehome, seen, IsFirstWithRoom, IsMovedFor, LacksRecord, MovesFor, MovesForNext, has_room, tables_of, flat_of, is_active, bound_use, frame_use, shown, nonzero_alters, moves_lacks_record as lacks_record, Ptw as ptw, FrameUse as frame, eqb_self, IsInside, at_outline, who_is, null_word, stored_is, Speaks, turn_is}

-- ---- What a move rests on by the tables is what the flat store and custody ask of it.

module _ (s : State) (keeps : Keeps s) where
  abbrev t : Store
  t = flat_of s

  -- ---- volumes

  -- no record of a volume is free in the flat store where none is by the tables
  pub full_is : (v : ℕ) → is_full s.store.pages.records v ≡ is_volume_full s.plan t v
  full_is v = cc (
    keeps.store.counted.taken.records t.stored v keeps.faithful.tree.counts,
    keeps.faithful.script.records v,
  )

  -- a volume has room for a segment there where it has by the tables
  pub room_same : (u v : ℕ) → has_room (tables_of s.store) u v ≡ has_room_flat s.plan t u v
  room_same u v =
      let home = ap (λ (ns : List Node). volume_in ns u) keeps.faithful.tree.nodes in
      let taken = keeps.store.counted.taken.records t.stored v keeps.faithful.tree.counts
      ∙ ap (λ (ns : List Node). taken_on ns t.stored v) (sym keeps.faithful.tree.nodes) in
      rw (
        home,
        keeps.faithful.tree.counts u,
        taken,
        (keeps.store.counted.taken.entries v ∙ ap (λ (ns : List Node). entries_on ns v)
            (sym keeps.faithful.tree.nodes)),
        keeps.faithful.script.records v,
        keeps.faithful.script.entries v,
      ) refl

  first_room : {u v : ℕ} → IsFirstWithRoom (tables_of s.store) u v → room_for s.plan t u ≡ Some v
  first_room {u} {v} h = sym
      (room_is s.plan t u v (cc (room_same u v)) (λ w less. sym (room_same u w) ∙ h.before w less))

  -- ---- the reference

  module _ (k u : ℕ) (r : Reference) (active : is_active s.store.ast u ≡ true)
      (h : LacksRecord (tables_of s.store) k u r) where
    unstored : is_stored t.stored u (r.offset / 1024) ≡ false
    unstored = keeps.faithful.pages.stored u (r.offset / 1024) ∙ h.unstored

    blank : t.words u r.offset ≡ 0
    blank = null_word s keeps u active r.offset (null (word_of s.store.ast u (r.offset / 1024))
        (sym (stored_is s keeps u active (r.offset / 1024)) ∙ unstored))
      where
        null : (w : Ptw) → has_record w ≡ false → w ≡ ptw.Null
        null ptw.Null e = refl
        null _ e = cc

    stores : stores_page t u r.offset r.kind ≡ true
    stores = rw (nonzero_alters r.kind h.word, blank, h.word, unstored) refl

    unspent : is_used_up t u ≡ false
    unspent = cc (keeps.faithful.tree.nodes, h.unspent t.stored keeps.faithful.tree.counts)

    full : is_volume_full s.plan t h.node.volume ≡ true
    full = cc (volume_found s.store.accounts.nodes u h.node h.there, full_is (volume_in s.store.accounts.nodes u))

    permitted : permits (access_of (who_of s.plan k) h.node.rows) r.kind ≡ true
    permitted = cc (who_is keeps k)

    short : nat_le (1024 * h.node.pages) r.offset ≡ false
    short = elim (leb_tells (1024 * h.node.pages) r.offset) [
      | inl e ↦ (let le = e.1 in let lt = h.within in absurd (omega arith))
      | inr m ↦ m.0
    ]

    -- it lacks a record alone
    pub lacks : lacks_record s.plan t k r.offset r.kind h.node ≡ true
    lacks = rw (permitted, short, (found_uid s.store.accounts.nodes u h.node h.there), stores, unspent, full) refl

    known : known_uid t k r.number ≡ Some u
    known = cc

    there : node_in t.nodes u ≡ Some h.node
    there = cc

    -- it isn't refused before its page is looked at
    pub inside : IsInside s k r u
    inside = record {
      known = known;
      node = h.node;
      there = there;
      permitted = permitted;
      within = h.within;
    }

    pub awaits : awaits_by s.plan t k u (Some r) ≡ true
    awaits = cc (known, (eqb_self u), there, lacks)

-- ---- the flat store

pub may_move : {s : State} {c k : ℕ} {cmd : Command} {m : Mover} → Keeps s → Speaks s c k cmd
    → IsMovedFor s.store k m (next_command s k) → MayMove s.plan (flat_of s) k m.uid m.to.0
unfolding awaits_move
may_move {s} {c} {k} {cmd} {m} keeps sp h = assumption (
  turn_is sp,
  (sp.runs k).ended ∙ sp.going,
  ap (λ (n : ℕ). awaits_in s.plan (flat_of s) k m.uid (command_at s.plan k n)) (sp.runs k).place
      ∙ (ap (awaits_in s.plan (flat_of s) k m.uid) sp.next ∙ (ap (awaits_by s.plan (flat_of s) k m.uid) moves.is
      ∙ awaits s keeps k m.uid moves.reference h.active moves.lacks)),
  first_room s keeps moves.first,
)
  where
    moves : MovesFor (tables_of s.store) k m cmd
    moves = subst (MovesForNext (tables_of s.store) k m) sp.next h.moves

-- ---- custody

pub may_rehome : (s : State) {k : ℕ} {m : Mover} {x : Option Command} → IsMovedFor s.store k m x
    → MayRehome (shown (seen s)) m.uid
may_rehome s {k} {m} h = record {
  active = h.active;
  still = λ f q e. by f q ((seen s).bound f) ((seen s).reads f) refl e;
}
  where
    bound : (page : ℕ × ℕ) (w : Ptw) (q : ℕ) → bound_use page w ≢ frame.Started m.uid q
    bound page (ptw.Leaving f) q e = let no : frame.Going page.0 page.1 ≡ frame.Started m.uid q = e in cc
    bound page _ q e = let no : frame.Current page.0 page.1 ≡ frame.Started m.uid q = e in cc

    by : (f q : ℕ) (b y : Option (ℕ × ℕ)) → (seen s).reads f ≡ y
        → frame_use (seen s).words b y ≡ frame.Started m.uid q → ⊥
    by f q (Some page) y e i = bound page ((seen s).words page.0 page.1) q i
    by f q None None e i = let no : frame.Free ≡ frame.Started m.uid q = i in cc
    by f q None (Some page) e i = h.unread.none f q (e ∙ (let is : frame.Started page.0 page.1
        ≡ frame.Started m.uid q = i in let u : page.0 ≡ m.uid = cc in let p : page.1 ≡ q = cc in λ j. Some (u j, p j)))

-- ---- a processor that has a process

module _ (s : State) (c : ℕ) {k : ℕ} (its : (cpu_at s.processors c).process ≡ Some k) where
  runner_is : runner_at (outline_of s).runners c ≡ runner_by (around s) (processor_at s.processors c) (Some k)
  runner_is = cc (at_outline s c)

  pub want_here : want_at (outline_of s) c ≡ want_of (around s) k (next_command s k)
  want_here = cc (runner_is)

  pub linked_here : (runner_at (outline_of s).runners c).linked
      ≡ is_linked (around s) k (reference_in (next_command s k))
  linked_here = cc (runner_is)

-- ---- a reference

abbrev refer_to : List Node → Reference → ℕ → Want
refer_to nodes r u = Refer (chain_of nodes u) u (r.offset / 1024) (not (eqb (new_word 0 r.kind) 0))

module _ (s : State) (k : ℕ) (keeps : Keeps s) (r : Reference) (u : ℕ) (inside : IsInside s k r u) where
  stands : uid_of (kst_at s.store.links.known k) r.number ≡ Some u
  stands = cc

  its_node : node_in s.store.accounts.nodes u ≡ Some inside.node
  its_node = cc

  not_past : nat_le (1024 * inside.node.pages) r.offset ≡ false
  not_past = elim (leb_tells (1024 * inside.node.pages) r.offset) [
    | inl e ↦ (let le = e.1 in let lt = inside.within in absurd (omega arith))
    | inr m ↦ m.0
  ]

  allowed : permits (access_of (who_at s.store.whos k) inside.node.rows) r.kind ≡ true
  allowed = cc (who_is keeps k)

  pub refer_wants : want_of_reference (around s) k r
      ≡ Refer (chain_of s.store.accounts.nodes u) u (r.offset / 1024) (not (eqb (new_word 0 r.kind) 0))
  refer_wants = cc (stands, its_node, allowed, not_past, found_uid s.store.accounts.nodes u inside.node its_node)

-- ---- the other way

unfoldable pub is_refer : Want → Bool
is_refer (Refer chain uid page makes) = true
is_refer _ = false

-- what a reference is to that wants this
pub record IsReferring (nodes : List Node) (numbers : List (List (Option ℕ))) (k : ℕ) (r : Reference) (chain : List ℕ)
    (uid page : ℕ) (makes : Bool) : Type 0 where
  pub stands : uid_of (kst_at numbers k) r.number ≡ Some uid
  pub node : Node
  pub there : node_in nodes uid ≡ Some node
  pub chain_is : chain ≡ chain_of nodes uid
  pub page_is : r.offset / 1024 ≡ page
  pub makes_is : not (eqb (new_word 0 r.kind) 0) ≡ makes

abbrev uid_or : Want → ℕ
uid_or (Refer chain uid page makes) = uid
uid_or _ = 0

abbrev page_or : Want → ℕ
page_or (Refer chain uid page makes) = page
page_or _ = 0

abbrev makes_or : Want → Bool
makes_or (Refer chain uid page makes) = makes
makes_or _ = false

abbrev chain_or : Want → List ℕ
chain_or (Refer chain uid page makes) = chain
chain_or _ = []

module _ (nodes : List Node) (who : Who) (numbers : List (List (Option ℕ))) (k : ℕ) (r : Reference) (chain : List ℕ)
    (uid page : ℕ) (makes : Bool) where
  none_refers : {w : Want} → w ≡ Refer chain uid page makes → is_refer w ≡ false → ⊥
  unfolding is_refer
  none_refers h off = not_both (ap is_refer h) off

  node_refers : {v : ℕ} (n : Node) → uid_of (kst_at numbers k) r.number ≡ Some v → node_in nodes v ≡ Some n
      → want_in nodes who r (Some n) ≡ Refer chain uid page makes → IsReferring nodes numbers k r chain uid page makes
  unfolding is_refer
  node_refers {v} n e at h = by (not (permits (access_of who n.rows) r.kind)) (nat_le (1024 * n.pages) r.offset) h
    where
      by : (a b : Bool) → cond a Other (cond b Other (refer_to nodes r n.uid)) ≡ Refer chain uid page makes
          → IsReferring nodes numbers k r chain uid page makes
      by true b i = absurd (none_refers i refl)
      by false true i = absurd (none_refers i refl)
      by false false i = let same = sym (found_uid nodes v n at) ∙ ap uid_or i in record {
        stands = cc;
        node = n;
        there = ap (node_in nodes) (sym same) ∙ at;
        chain_is = cc;
        page_is = ap page_or i;
        makes_is = ap makes_or i;
      }

  number_refers : (x : Option ℕ) → uid_of (kst_at numbers k) r.number ≡ x
      → want_known nodes who r x ≡ Refer chain uid page makes → IsReferring nodes numbers k r chain uid page makes
  unfolding is_refer
  number_refers None e h = absurd (none_refers h refl)
  number_refers (Some v) e h = by (node_in nodes v) refl h
    where
      by : (y : Option Node) → node_in nodes v ≡ y → want_in nodes who r y ≡ Refer chain uid page makes
          → IsReferring nodes numbers k r chain uid page makes
      by None at i = absurd (none_refers i refl)
      by (Some n) at i = node_refers n e at i

pub refers : (s : State) (k : ℕ) (r : Reference) (chain : List ℕ) (uid page : ℕ) (makes : Bool)
    → want_of_reference (around s) k r ≡ Refer chain uid page makes
    → IsReferring s.store.accounts.nodes s.store.links.known k r chain uid page makes
refers s k r chain uid page makes h = number_refers s.store.accounts.nodes (who_at s.store.whos k) s.store.links.known k
    r chain uid page makes (uid_of (kst_at s.store.links.known k) r.number) refl h

-- a command without a reference wants none
pub tree_wants : (nodes : List Node) (c : Command) (chain : List ℕ) (uid page : ℕ) (makes : Bool)
    → want_of_command nodes c ≡ Refer chain uid page makes → ⊥
unfolding is_refer
tree_wants nodes c chain uid page makes h = not_both (ap is_refer h) (by c)
  where
    cut : (words : ℕ) (x : Result Node Reply) → is_refer (want_truncated nodes words x) ≡ false
    cut words (Err e) = refl
    cut words (Ok n) = refl

    long : (x : Result Node Reply) → is_refer (want_lengthened x) ≡ false
    long (Err e) = refl
    long (Ok n) = refl

    by : (x : Command) → is_refer (want_of_command nodes x) ≡ false
    by (command.Truncate path words) = cut words (segment_at nodes path)
    by (command.Length path pages) = long (segment_at nodes path)
    by _ = refl
