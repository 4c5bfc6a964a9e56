-- Whether there is room for a page more of a segment: quota of its account, and a record of its volume.
use Rattle.storage_ops.proofs.Prelude.{◌≡◌, ◌≢◌, ℕ, suc, ◌/◌, ◌%◌, Bool, true, false, cond, List, [], ◌∷◌, All, OnOk, length, Some, Result, Ok, Err, is_err, refl, arith, count_by, ne_eqb, sum_by-cons, Plan, AccountMaps, Counts, Full, charge_answer, Node, after_reference, is_out_of_room, is_used_up, is_volume_full, room_reply, Store, known_uid, plain, is_full, done_or, page_made, is_spent, IsStore, Shows, ShowsTree, Storage, RefKind as kind, Reply as reply}

pub on_ok : {E P : Type 0} (r : Result (Unit {0}) E) → false ≡ is_err r → OnOk r P → P
on_ok (Ok x) e p = p
on_ok (Err x) e p = cc

pub ok_then : {E P Q : Type 0} (r : Result (Unit {0}) E) → (P → Q) → OnOk r P → OnOk r Q
ok_then (Ok x) f p = f p
ok_then (Err x) f p = p

-- all are in use exactly where they are as many as there are
pub all_taken : (flags : List Bool) → All (λ flag. flag ≡ true) flags → count_by (λ flag. flag) flags ≡ length flags
all_taken [] all = refl
all_taken (flag ∷ flags) all =
    let first = sum_by-cons (λ (x : Bool). cond {A = ℕ} x 1 0) flag flags in
    let one : cond {A = ℕ} flag 1 0 ≡ 1 = rw (all 0 true (omega arith)) in
    let rest = all_taken flags (λ k d lt. all (suc k) d (omega arith)) in
    omega arith

-- the account of a segment has used up its quota exactly where it can't be charged
pub spent_told : (nodes : List Node) (stored : List (ℕ × ℕ)) (uid : ℕ) {r : Result (Unit {0}) Full}
    → r ≡ charge_answer nodes stored uid → is_err r ≡ is_spent nodes stored uid
spent_told nodes stored uid answer = grind arith

pub used_told : {s : Store} {a : AccountMaps} (uid : ℕ) {r : Result (Unit {0}) Full} → ShowsTree s a
    → ((stored : List (ℕ × ℕ)) → Counts a stored → r ≡ charge_answer a.nodes stored uid) → is_err r ≡ is_used_up s uid
used_told {s} {a} uid {r} h answer = cc (spent_told a.nodes s.stored uid (answer s.stored h.counts), h.nodes)

-- a volume is full exactly where its records are all in use
pub full_told : {D : Type 0} (drive : D → List (List ℕ)) (p : Plan) (s : Store) (t : Storage D) (v : ℕ)
    → IsStore (plain drive t.segs.pages) t.segs.ast t.segs.links t.accounts t.whos → Shows drive p s t
    → is_full t.segs.pages.volumes.records v ≡ is_volume_full p s v
full_told drive p s t v store h = cc (store.taken.records s.stored v h.tree.counts, h.tree.nodes, h.script.records v)

-- ---- the answers

module _ (p : Plan) (s : Store) (n : Node) where
  -- no record is left, and no volume has room
  pub no_record : (used out : Bool) → is_used_up s n.uid ≡ used → is_out_of_room p s n ≡ out → out ≡ true
      → Err (cond used reply.Quota reply.NoRecord) ≡ done_or (room_reply p s n reply.Done)
  no_record true out at_used at_out on = rw at_used
  no_record false out at_used at_out on = rw (at_used, at_out, on)

  -- no quota is left
  pub no_quota : is_used_up s n.uid ≡ true → Err reply.Quota ≡ done_or (room_reply p s n reply.Done)
  no_quota at_used = rw at_used

  -- both are
  pub room : is_used_up s n.uid ≡ false → is_volume_full p s n.volume ≡ false
      → Ok tt ≡ done_or (room_reply p s n reply.Done)
  room at_used at_full = rw (at_used, at_full)

-- ---- by process and number

-- what the flat store has once a word other than 0 is written into a page
pub written_made : (s : Store) (process number offset w : ℕ) {uid : ℕ} → known_uid s process number ≡ Some uid → w ≢ 0
    → page_made s uid (offset / 1024) (offset % 1024) w
    ≡ after_reference s process (record { number = number; offset = offset; kind = kind.Write w })
unfolding after_reference
written_made s process number offset w known full = grind (arith, ne_eqb)
