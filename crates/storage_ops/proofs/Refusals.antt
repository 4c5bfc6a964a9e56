-- What refuses a reference, by the tables and by the flat store that they show.
use Rattle.storage_ops.proofs.Prelude.{◌≡◌, ℕ, ◌*◌, ◌<◌, ◌/◌, Bool, true, false, cond, not, ◌&&◌, List, [], Option, Some, None, Result, Ok, Err, get_or, map, refl, sym, ◌∙◌, arith, nat_le, nat_tests, get_or-map, Who, Plan, ProcessPlan, nobody, who_of, RefKind, Reference, Reply, uid_of, access_of, Node, node_in, has_segment, AccountMaps, HasParts, is_stored, permits, is_out_of_room, is_used_up, reply_to_reference, stores_page, word_reply, Store, plain, IsKept, brings_word, is_of_room, is_outside, only, outside_by, outside_refusal, refusal_in, refused_by, room_by, room_in, room_refusal, target, has_no_room, is_spent, unless, want_of_room, AreCounted, IsStore, Shows, Storage, is_filed, refusal, who_at, and_false, RefKind as kind, Reply as reply, VtocEntry as Entry}
use Rattle.storage_ops.proofs.Held.{shown_held}
use Rattle.storage_ops.proofs.PageFacts.{segment_of}
use Rattle.storage_ops.proofs.PageRoom.{full_told}
use Rattle.storage_ops.proofs.RoomsFound.{room_shown as room_is_shown}
use Rattle.storage_ops.proofs.Paged.{blank_shown}

-- ---- replies

-- a refusal that comes before the page is looked at is none for want of room
outside_only : (e : Reply) → is_outside e ≡ true
    → (only is_outside e ≡ Some e) × (only is_of_room e ≡ None) × (refusal e ≡ Some e)
outside_only e h1 = grind arith

-- a word, or that one is written, is no refusal
word_none : (old : ℕ) (how : RefKind) → (only is_outside (word_reply old how) ≡ None)
    × (only is_of_room (word_reply old how) ≡ None) × (refusal (word_reply old how) ≡ None)
word_none old kind.Read = (refl, refl, refl)
word_none old _ = (refl, refl, refl)

-- the reply where neither access nor the length refuses a reference
abbrev reply_on : Bool → Bool → Bool → Reply → Reply
reply_on stores used full otherwise = cond stores (cond used reply.Quota (cond full reply.NoRecord otherwise)) otherwise

abbrev room_on : Bool → Bool → Bool → Option Reply
room_on stores used full = cond stores (cond used (Some reply.Quota) (cond full (Some reply.NoRecord) None)) None

room_told : (stores used full : Bool) (old : ℕ) (how : RefKind)
    → (only is_outside (reply_on stores used full (word_reply old how)) ≡ None)
    × (only is_of_room (reply_on stores used full (word_reply old how)) ≡ room_on stores used full)
    × (refusal (reply_on stores used full (word_reply old how)) ≡ room_on stores used full)
room_told true true full old how = (refl, refl, refl)
room_told true false true old how = (refl, refl, refl)
room_told true false false old how = word_none old how
room_told false used full old how = word_none old how

-- a page more is stored where it isn't stored yet and a word other than 0 comes into it
stores_told : (s : Store) (uid offset : ℕ) (how : RefKind)
    → (is_stored s.stored uid (offset / 1024) ≡ false → s.words uid offset ≡ 0)
    → stores_page s uid offset how ≡ (brings_word how && not (is_stored s.stored uid (offset / 1024)))
stores_told s uid offset how h1 = grind (arith, and_false)

-- ---- by what is shown

abbrev reply_for : Plan → Store → Reference → Result Node Reply → Reply
reply_for p s r (Err e) = e
reply_for p s r (Ok n) = reply_on (stores_page s n.uid r.offset r.kind) (is_used_up s n.uid)
    (is_out_of_room p s n) (word_reply (s.words n.uid r.offset) r.kind)

-- what stands where a page can't be looked at
abbrev is_outside_of : Result Node Reply → Bool
is_outside_of (Ok n) = true
is_outside_of (Err e) = is_outside e

module _ {D : Type 0} {drive : D → List (List ℕ)} {p : Plan} {s : Store} {t : Storage D} (h : Shows drive p s t)
    (k : ℕ) (r : Reference) where
  who_told : who_of p k ≡ who_at t.whos k
  who_told =
      cc (h.script.whos, get_or-map (λ (x : ProcessPlan). x.who) p.processes k (record { who = nobody; commands = [] }))

  reply_told : reply_to_reference p s k r ≡ reply_for p s r (target t k r)
  unfolding reply_to_reference target
  reply_told = grind (arith, who_told)

outside_target : {D : Type 0} (t : Storage D) (k : ℕ) (r : Reference) → is_outside_of (target t k r) ≡ true
unfolding target
outside_target t k r = grind arith

-- ---- by the tables

-- where the number stands for nothing, or its segment isn't there
pub target_unknown : {D : Type 0} (t : Storage D) (k : ℕ) (r : Reference)
    → uid_of (get_or t.segs.links.known k []) r.number ≡ None → target t k r ≡ Err reply.Unknown
unfolding target
target_unknown t k r none = rw none

pub target_gone : {D : Type 0} (t : Storage D) (k : ℕ) (r : Reference) {uid : ℕ}
    → uid_of (get_or t.segs.links.known k []) r.number ≡ Some uid → node_in t.accounts.nodes uid ≡ None
    → target t k r ≡ Err reply.Gone
unfolding target
target_gone t k r known none = rw (known, none)

-- where it is there
pub target_found : {D : Type 0} (t : Storage D) (k : ℕ) (r : Reference) {uid : ℕ} {n : Node}
    → uid_of (get_or t.segs.links.known k []) r.number ≡ Some uid → node_in t.accounts.nodes uid ≡ Some n
    → target t k r ≡ unless (refusal_in (who_at t.whos k) r n) n
unfolding target
target_found t k r known found = rw (known, found)

-- the offset is below the end of the segment that a reference goes to
pub within_told : (who : Who) (r : Reference) (n : Node) → refusal_in who r n ≡ None → r.offset < 1024 * n.pages
within_told who r n none = by_right (permits (access_of who n.rows) r.kind) (nat_le (1024 * n.pages) r.offset) refl none
  where
    by_right : (may past : Bool) → nat_le (1024 * n.pages) r.offset ≡ past
        → cond (not may) (Some reply.NoAccess) (cond past (Some reply.Length) None) ≡ None → r.offset < 1024 * n.pages
    by_right true true e h = cc
    by_right true false e h = grind (arith, nat_tests)
    by_right false past e h = cc

-- a segment has pages, and a directory none
pub long_segment : (a : AccountMaps) (vtocs : List (List (Option Entry))) → AreCounted a vtocs
    → (u offset : ℕ) (n : Node) → node_in a.nodes u ≡ Some n → offset < 1024 * n.pages → has_segment a.nodes u ≡ true
long_segment a vtocs h u offset n found lt = grind (arith, segment_of)

-- why a page more can't be stored, by whether the account is used up, and the volume with no other that has room
pub want_told : {D : Type 0} (t : Storage D) (stored : List (ℕ × ℕ)) (n : Node) {spent out : Bool}
    → is_spent t.accounts.nodes stored n.uid ≡ spent → has_no_room t n ≡ out
    → want_of_room t stored n ≡ cond spent (Some reply.Quota) (cond out (Some reply.NoRecord) None)
want_told t stored n at_account at_volume = rw (at_account, at_volume)

-- ---- by both

module _ {D : Type 0} {drive : D → List (List ℕ)} {p : Plan} {s : Store} {t : Storage D} (h : Shows drive p s t)
    (k : ℕ) (r : Reference) where
  outside_told : (found : Result Node Reply) → is_outside_of found ≡ true
      → only is_outside (reply_for p s r found) ≡ outside_by found
  outside_told (Err e) is = (outside_only e is).0
  outside_told (Ok n) is = (room_told (stores_page s n.uid r.offset r.kind) (is_used_up s n.uid)
      (is_out_of_room p s n) (s.words n.uid r.offset) r.kind).0

  pub outside_shown : outside_by (target t k r) ≡ outside_refusal p s k r
  unfolding outside_refusal
  outside_shown = cc (reply_told h k r, outside_told (target t k r) (outside_target t k r))

module _ {D : Type 0} (drive : D → List (List ℕ)) (p : Plan) (s : Store) (t : Storage D)
    (kept : IsKept (plain drive t.segs.pages) t.segs.ast t.segs.links)
    (store : IsStore (plain drive t.segs.pages) t.segs.ast t.segs.links t.accounts t.whos) (h : Shows drive p s t)
    (parts : HasParts (map drive t.segs.pages.volumes.drives) t.segs.pages.volumes.records t.segs.pages.volumes.vtocs)
    (k : ℕ) (r : Reference) where
  room_shown : (n : Node) → room_in t s.stored r n
      ≡ room_on (stores_page s n.uid r.offset r.kind) (is_used_up s n.uid) (is_out_of_room p s n)
  room_shown n =
      let stores : (brings_word r.kind && not (is_filed t.accounts t.segs.pages.volumes.vtocs n.uid (r.offset / 1024)))
      ≡ stores_page s n.uid r.offset r.kind = cc (
        h.pages.stored n.uid (r.offset / 1024),
        stores_told s n.uid r.offset r.kind (blank_shown kept store h n.uid r.offset),
      ) in
      rw (
        stores,
        full_told drive p s t n.volume store h,
        room_is_shown drive p s t h store n.uid parts,
        ← h.tree.nodes,
      ) refl

  told : (found : Result Node Reply) → is_outside_of found ≡ true
      → (only is_of_room (reply_for p s r found) ≡ room_by t s.stored r found)
      × (refusal (reply_for p s r found) ≡ refused_by t s.stored r found)
  told (Err e) is = ((outside_only e is).1, (outside_only e is).2)
  told (Ok n) is =
      let all = room_told (stores_page s n.uid r.offset r.kind) (is_used_up s n.uid) (is_out_of_room p s n)
      (s.words n.uid r.offset) r.kind in
      (all.1 ∙ sym (room_shown n), all.2 ∙ sym (room_shown n))

  pub room_refused : room_by t s.stored r (target t k r) ≡ room_refusal p s k r
  unfolding room_refusal
  room_refused = cc (reply_told h k r, (told (target t k r) (outside_target t k r)).0)

  pub reference_refused : refused_by t s.stored r (target t k r) ≡ refusal (reply_to_reference p s k r)
  reference_refused = cc (reply_told h k r, (told (target t k r) (outside_target t k r)).1)

-- so in a call, by the segment that the reference was found to go to
module _ {D : Type 0} {drive : D → List (List ℕ)} {p : Plan} {s : Store} {t now : Storage D} (same : t ≡ now)
    (kept : IsKept (plain drive t.segs.pages) t.segs.ast t.segs.links)
    (store : IsStore (plain drive t.segs.pages) t.segs.ast t.segs.links t.accounts t.whos) (h : Shows drive p s now)
    (parts : HasParts (map drive t.segs.pages.volumes.drives) t.segs.pages.volumes.records t.segs.pages.volumes.vtocs)
    (k : ℕ) (r : Reference) {found : Result Node Reply} (is : target now k r ≡ found) where
  pub room_found : room_by now s.stored r found ≡ room_refusal p s k r
  room_found = rw (← is, ← same) (room_refused drive p s t kept store (shown_held same h) parts k r)

  pub reference_found : refused_by now s.stored r found ≡ refusal (reply_to_reference p s k r)
  reference_found = rw (← is, ← same) (reference_refused drive p s t kept store (shown_held same h) parts k r)
