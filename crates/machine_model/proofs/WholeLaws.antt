-- What was taken whole stays so, entry by entry; and what of it is no more to go is gone.
use Rattle.machine_model.proofs.Prelude.{◌≡◌, ◌≢◌, ℕ, true, false, [], Option, Some, None, refl, sym, ap, ◌∙◌, Plan, Entry, Store, DescriptorUse, FrameUse, Custody, is_going_descriptor, is_going_frame, leads_to, page_of, uid_of_page, HasNoPage, custody_next, with_descriptor, IsOwned, frames_of_owner, Owner, State, IsWhole, Spares, TakenWhole, going_for, some_same, Entry as entry, DescriptorUse as descriptor, FrameUse as frame, custody_cut as cut, custody_taken as taken, next_with_frame as with_frame, ◌≤◌, ◌*◌, Bool, not, cond, List, inl, inr, arith, nat_le, Ok, leb_tells, reference_of, who_of, Command, RefKind, Reference, Reply, access_of, Node, node_in, segment_at, is_end, reply_to_command, is_early, may_fail, permits, is_used_up, is_out_of_room, reply_to_reference, stores_page, word_reply, length_reply, truncate_reply, known_uid, none_from, IsFaithful, IsReached, MayChange, MayFailBy, is_filed, Command as command, RefKind as kind, Reply as reply}
use Rattle.machine_model.proofs.Places.{by_place, by_places}

-- ---- A drive's failure may be told of a command that its page was looked for.

word_late : (w : ℕ) (how : RefKind) → is_early (word_reply w how) ≡ false
word_late w kind.Read = refl
word_late w _ = refl

module _ (s : State) (k : ℕ) {t : Store} (shown : IsFaithful s.plan t s.store) where
  -- a reference to a word that is there is refused for its page alone, or its access list
  reached_late : {r : Reference} → IsReached s.store.accounts.nodes s.store.links.known k r
      → is_early (reply_to_reference s.plan t k r) ≡ false
  unfolding reply_to_reference
  reached_late {r} h = ap is_early (cc)
      ∙ by (permits (access_of (who_of s.plan k) h.node.rows) r.kind) (nat_le (1024 * h.node.pages) r.offset)
      (stores_page t h.node.uid r.offset r.kind) (is_used_up t h.node.uid) (is_out_of_room s.plan t h.node) short
    where
      known : known_uid t k r.number ≡ Some h.uid
      known = cc

      there : node_in t.nodes h.uid ≡ Some h.node
      there = cc

      short : nat_le (1024 * h.node.pages) r.offset ≡ false
      short = elim (leb_tells (1024 * h.node.pages) r.offset) [
        | inl e ↦ (let le = e.1 in let lt = h.within in absurd (omega arith))
        | inr m ↦ m.0
      ]

      word : Reply
      word = word_reply (t.words h.node.uid r.offset) r.kind

      by : (a b d e f : Bool) → b ≡ false → is_early (cond (not a) reply.NoAccess (cond b reply.Length
          (cond d (cond e reply.Quota (cond f reply.NoRecord word)) word))) ≡ false
      by true true d e f i = cc
      by true false true false false i = word_late (t.words h.node.uid r.offset) r.kind
      by true false false e f i = word_late (t.words h.node.uid r.offset) r.kind
      by _ _ _ _ _ i = refl

  segment_same : (path : List (List ℕ)) (n : Node) → segment_at s.store.accounts.nodes path ≡ Ok n
      → segment_at t.nodes path ≡ Ok n
  segment_same path n h = cc

  le_is : (a b : ℕ) → nat_le a b ≡ true → a ≤ b
  le_is a b h = elim (leb_tells a b) [ inl e ↦ e.1 | inr m ↦ cc ]

  changes_late : (c : Command) → MayChange s.store.accounts.nodes (is_filed s.store.accounts s.store.pages.vtocs) c
      → may_fail c (reply_to_command s.plan t k c) ≡ true
  unfolding length_reply truncate_reply
  changes_late (command.Length path pages) h = cc (
    segment_same path h.0 h.1,
    none_from t.stored h.0.uid pages (λ q le. shown.pages.stored h.0.uid q ∙ h.2 q (le_is pages q le)),
  )
  changes_late (command.Truncate path words) h = rw (segment_same path h.0 h.1)
  changes_late _ h = absurd h

  pub may_fail_is : (c : Command) → MayFailBy s.store k (Some c) → may_fail c (reply_to_command s.plan t k c) ≡ true
  may_fail_is c (inl x) = cc (reached_late x.2)
  may_fail_is c (inr x) = changes_late c x

  -- such a command isn't the end of its process
  pub fails_more : (c : Command) → MayFailBy s.store k (Some c) → is_end c ≡ false
  fails_more c (inl x) = by c x.1
    where
      by : (d : Command) → reference_of d ≡ Some x.0 → is_end d ≡ false
      by command.End e = cc
      by _ e = refl
  fails_more c (inr x) = by c x
    where
      by : (d : Command) → MayChange s.store.accounts.nodes (is_filed s.store.accounts s.store.pages.vtocs) d
          → is_end d ≡ false
      by command.End e = absurd e
      by _ e = refl

-- one frame is used otherwise: for nothing of the segment, or for what is going
frame_whole : {c : Custody} {u : ℕ} (f : ℕ) (x : FrameUse) → IsWhole c u
    → (uid_of_page (page_of x) ≡ Some u → is_going_frame x ≡ true) → IsWhole (with_frame c f x) u
frame_whole {c} {u} f x w new = record {
  pages = λ g. by_place (λ (y : FrameUse). uid_of_page (page_of y) ≡ Some u → is_going_frame y ≡ true) c.frame f x g
      (λ e. new) (λ n. w.pages g);
  descriptors = w.descriptors;
}

descriptor_whole : {c : Custody} {u : ℕ} (k n : ℕ) (x : DescriptorUse) → IsWhole c u
    → (leads_to x ≡ Some u → is_going_descriptor x ≡ true) → IsWhole (with_descriptor c k n x) u
descriptor_whole {c} {u} k n x w new = record {
  pages = w.pages;
  descriptors = λ i j. by_places (λ (y : DescriptorUse). leads_to y ≡ Some u
      → is_going_descriptor y ≡ true) c.descriptor k n x i j (λ a b. new) (λ m. w.descriptors i j);
}

taken_whole : (x : FrameUse) (u : ℕ) → (uid_of_page (page_of x) ≡ Some u → is_going_frame x ≡ true)
    → uid_of_page (page_of (taken x)) ≡ Some u → is_going_frame (taken x) ≡ true
taken_whole (frame.Current v q) u w h = refl
taken_whole (frame.Going v q) u w h = refl
taken_whole _ u w h = w h

cut_whole : (x : DescriptorUse) (u : ℕ) → (leads_to x ≡ Some u → is_going_descriptor x ≡ true)
    → leads_to (cut x) ≡ Some u → is_going_descriptor (cut x) ≡ true
cut_whole descriptor.Free u w h = w h
cut_whole _ u w h = refl

-- only seats, the ready list or what is active changes
seat_whole : {c : Custody} (e : Custody) {u : ℕ} → e.frame ≡ c.frame → e.descriptor ≡ c.descriptor → IsWhole c u
    → IsWhole e u
seat_whole e f d w = record {
  pages = rw f w.pages;
  descriptors = rw d w.descriptors;
}

-- An entry that spares the segment leaves it whole.
pub whole_next : (p : Plan) (s : Store) {c : Custody} {u : ℕ} (e : Entry) → IsWhole c u → Spares u e
    → IsWhole (custody_next p s c e) u
unfolding custody_next
whole_next p s {c} (entry.Do k i d f r) w h = seat_whole (custody_next p s c (entry.Do k i d f r)) refl refl w
whole_next p s {c} (entry.Online d) w h = seat_whole (custody_next p s c (entry.Online d)) refl refl w
whole_next p s {c} (entry.Load d k) w h = seat_whole (custody_next p s c (entry.Load d k)) refl refl w
whole_next p s {c} (entry.Leave d) w h = seat_whole (custody_next p s c (entry.Leave d)) refl refl w
whole_next p s {c} (entry.Activate v) w h = seat_whole (custody_next p s c (entry.Activate v)) refl refl w
whole_next p s {c} (entry.Deactivate v) w h = seat_whole (custody_next p s c (entry.Deactivate v)) refl refl w
whole_next p s {c} {u} (entry.Start f v q) w h = frame_whole f (frame.Started v q) w (λ e. absurd (h (some_same v u e)))
whole_next p s {c} {u} (entry.Lose f) w h = frame_whole f frame.Free w (λ e. cc)
whole_next p s {c} {u} (entry.Here f v q) w h = frame_whole f (frame.Current v q) w (λ e. absurd (h (some_same v u e)))
whole_next p s {c} {u} (entry.Connect k n v) w h =
    descriptor_whole k n (descriptor.Current v) w (λ e. absurd (h (some_same v u e)))
whole_next p s {c} {u} (entry.Take f) w h = frame_whole f (taken (c.frame f)) w (taken_whole (c.frame f) u (w.pages f))
whole_next p s {c} {u} (entry.Cut k n) w h = descriptor_whole k n (cut (c.descriptor k n)) w
    (cut_whole (c.descriptor k n) u (w.descriptors k n))
whole_next p s {c} (entry.Signal d x) w h = seat_whole (custody_next p s c (entry.Signal d x)) refl refl w
whole_next p s {c} (entry.Clear d x) w h = seat_whole (custody_next p s c (entry.Clear d x)) refl refl w
whole_next p s {c} (entry.FillSeg d n) w h = seat_whole (custody_next p s c (entry.FillSeg d n)) refl refl w
whole_next p s {c} (entry.FillPage d f) w h = seat_whole (custody_next p s c (entry.FillPage d f)) refl refl w
whole_next p s {c} {u} (entry.GonePage f) w h = frame_whole f frame.Free w (λ e. cc)
whole_next p s (entry.BackPage f) w h = absurd h
whole_next p s {c} {u} (entry.GoneSeg k n) w h = descriptor_whole k n descriptor.Free w (λ e. cc)
whole_next p s (entry.BackSeg k n) w h = absurd h
whole_next p s _ w h = w

-- a page that is being read spares a segment that is whole
pub started_spares : {c : Custody} {u : ℕ} (f v q : ℕ) → IsWhole c u → c.frame f ≡ frame.Started v q → v ≢ u
started_spares f v q w started same = cc (sym (ap is_going_frame started) ∙ (w.pages f (cc)))

-- ---- nothing is left

-- what goes of a segment that is whole is what the owner has taken: once that is gone, nothing of it is left
pub no_page_left : (c : Custody) (o : Option Owner) (u : ℕ) → IsOwned c o → IsWhole c u → frames_of_owner o ≡ []
    → HasNoPage c u
no_page_left c o u k w none f h = let no : false ≡ true = sym (cc (k.frames f)) ∙ w.pages f h in cc

-- ---- steps

-- where the owner makes no segment inactive, there is nothing to say
pub whole_idle : (now : State) → going_for now.owner ≡ None → TakenWhole now
whole_idle now none = record { whole = λ u h. cc }
