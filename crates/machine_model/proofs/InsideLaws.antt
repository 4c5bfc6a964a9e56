-- What the flat store answers a reference that isn't refused before its page is looked at.
use Rattle.machine_model.proofs.Laws.{◌≡◌, ◌<◌, ℕ, ◌*◌, Bool, true, false, not, ◌&&◌, cond, eqb, Option, Some, None, inl, inr, refl, ◌∙◌, arith, ◌/◌, nat_le, leb_tells, who_of, Command, Reference, Reply, access_of, Node, node_in, is_held_back, is_held_in, is_stored, alters, new_word, permits, reference_of, is_used_up, is_out_of_room, reply_at, reply_to_reference, room_reply, stores_page, word_reply, is_volume_full, room_for, Store, known_uid, Keeps, flat_of, is_of_room, is_outside, only, outside_refusal, room_refusal, uid_of_number, move_to, State, held_by, held_in, held_of, held_parts, volume_found, found_uid, Reply as reply, references_reply_of as reply_of, false_from_ne_true, and-false, IsInside}

module _ (s : State) (k : ℕ) (r : Reference) (keeps : Keeps s) where
  abbrev t : Store
  t = flat_of s

  -- what a number stands for, by the tables
  known_is : {v : ℕ} → known_uid t k r.number ≡ Some v → uid_of_number s.store k r.number ≡ v
  known_is e = cc keeps.faithful.known

  less : (a b : ℕ) → nat_le a b ≡ false → b < a
  less a b h = elim (leb_tells a b) [
    | inl e ↦ cc
    | inr m ↦ (omega arith)
  ]

  -- a reference that isn't refused so is to a segment that is there
  pub inside_is : outside_refusal s k r ≡ None → IsInside s k r (uid_of_number s.store k r.number)
  unfolding outside_refusal reply_to_reference
  inside_is h = by (known_uid t k r.number) refl h
    where
      allowed : (v : ℕ) (n : Node) → known_uid t k r.number ≡ Some v → node_in t.nodes v ≡ Some n → (a b : Bool)
          → permits (access_of (who_of s.plan k) n.rows) r.kind ≡ a → nat_le (1024 * n.pages) r.offset ≡ b
          → (rest : Reply) → only is_outside (cond (not a) reply.NoAccess (cond b reply.Length rest)) ≡ None
          → IsInside s k r v
      allowed v n e there true false p w rest i = record {
        known = e;
        node = n;
        there = there;
        permitted = p;
        within = less (1024 * n.pages) r.offset w;
      }
      allowed v n e there true true p w rest i = cc
      allowed v n e there false b p w rest i = cc

      node : (v : ℕ) → known_uid t k r.number ≡ Some v → (x : Option Node) → node_in t.nodes v ≡ x
          → only is_outside (reply_at s.plan t k r.offset r.kind x) ≡ None → IsInside s k r v
      node v e None there i = cc
      node v e (Some n) there i = allowed v n e there (permits (access_of (who_of s.plan k) n.rows) r.kind)
          (nat_le (1024 * n.pages) r.offset) refl refl _ i

      by : (x : Option ℕ) → known_uid t k r.number ≡ x → only is_outside (reply_of s.plan t k r.offset r.kind x) ≡ None
          → IsInside s k r (uid_of_number s.store k r.number)
      by None e i = cc
      by (Some v) e i = rw (known_is e) (node v e (node_in t.nodes v) refl i)

  module _ (u : ℕ) (inside : IsInside s k r u) where
    abbrev word : Reply
    word = word_reply (t.words u r.offset) r.kind

    -- there is room for its page, or there isn't
    pub due_is : reply_to_reference s.plan t k r
        ≡ cond (stores_page t u r.offset r.kind) (room_reply s.plan t inside.node word) word
    unfolding reply_to_reference
    due_is = cc (not_past, (found_uid t.nodes u inside.node inside.there))
      where
        not_past : nat_le (1024 * inside.node.pages) r.offset ≡ false
        not_past = elim (leb_tells (1024 * inside.node.pages) r.offset) [
          | inl e ↦ (let le = e.1 in let lt = inside.within in absurd (omega arith))
          | inr m ↦ m.0
        ]

    -- no page more is stored for a page that is, or for one of zeros to which no other word comes
    stored_same : is_stored t.stored u (r.offset / 1024) ≡ true → stores_page t u r.offset r.kind ≡ false
    stored_same h = cc (no_page (alters r.kind) (not (eqb (new_word (t.words u r.offset) r.kind) 0)))
      where
        no_page : (a b : Bool) → (a && (b && false)) ≡ false
        no_page true true = refl
        no_page true false = refl
        no_page false b = refl

    zero_same : t.words u r.offset ≡ 0 → eqb (new_word 0 r.kind) 0 ≡ true → stores_page t u r.offset r.kind ≡ false
    zero_same zero h = cc (and-false (alters r.kind))

    -- what such a page is answered
    pub stored_due : is_stored t.stored u (r.offset / 1024) ≡ true → reply_to_reference s.plan t k r ≡ word
    stored_due h = cc (due_is, stored_same h)

    pub zero_due : t.words u r.offset ≡ 0 → eqb (new_word 0 r.kind) 0 ≡ true
        → reply_to_reference s.plan t k r ≡ word_reply 0 r.kind
    zero_due zero h = cc (due_is, zero_same zero h)

    -- of one for which there is room
    pub room_due : room_refusal s k r ≡ None → reply_to_reference s.plan t k r ≡ word
    unfolding room_refusal
    room_due h = due_is ∙ by (stores_page t u r.offset r.kind) (is_used_up t inside.node.uid)
        (is_out_of_room s.plan t inside.node) (cc (due_is, h))
      where
        by : (a b d : Bool) → only is_of_room (cond a (cond b reply.Quota (cond d reply.NoRecord word)) word) ≡ None
            → cond a (cond b reply.Quota (cond d reply.NoRecord word)) word ≡ word
        by true true d i = cc
        by true false true i = cc
        by _ _ _ i = refl

    -- ---- what isn't held back

    module _ (cmd : Command) (is : reference_of cmd ≡ Some r) where
      held_is : is_held_back s.plan t k cmd ≡ is_held_in s.plan t k r.offset r.kind inside.node
      held_is = held_by s.plan t k cmd (Some r) is ∙ (held_of s.plan t k r (Some u) inside.known
          ∙ held_in s.plan t k r.offset u r.kind (Some inside.node) inside.there)

      -- where no page more is stored
      same_free : stores_page t u r.offset r.kind ≡ false → is_held_back s.plan t k cmd ≡ false
      same_free same = held_is ∙ by (is_held_in s.plan t k r.offset r.kind inside.node) refl
        where
          by : (z : Bool) → is_held_in s.plan t k r.offset r.kind inside.node ≡ z → z ≡ false
          by true held = cc (
            (held_parts s.plan t k r.offset r.kind inside.node held).2,
            found_uid t.nodes u inside.node inside.there,
          )
          by false held = refl

      pub stored_free : is_stored t.stored u (r.offset / 1024) ≡ true → is_held_back s.plan t k cmd ≡ false
      stored_free h = same_free (stored_same h)

      pub zero_free : t.words u r.offset ≡ 0 → eqb (new_word 0 r.kind) 0 ≡ true → is_held_back s.plan t k cmd ≡ false
      zero_free zero h = same_free (zero_same zero h)

      -- where the segment stays on its volume
      pub stays_free : move_to s u ≡ None → is_held_back s.plan t k cmd ≡ false
      unfolding move_to
      stays_free stays = held_is ∙ false_from_ne_true (is_held_in s.plan t k r.offset r.kind inside.node) (λ held.
          (let parts = held_parts s.plan t k r.offset r.kind inside.node held in cc (room parts.4)))
        where
          room : is_volume_full s.plan t inside.node.volume ≡ true → room_for s.plan t inside.node.uid ≡ None
          room full = cc (found_uid t.nodes u inside.node inside.there, volume_found t.nodes u inside.node inside.there)
