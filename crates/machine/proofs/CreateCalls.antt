-- What the call asks that makes a page for a reference.
use Rattle.machine.proofs.Prelude.{◌≡◌, ◌≢◌, ℕ, Bool, true, false, not, ◌&&◌, cond, eqb, Some, None, List, refl, sym, ap, subst, ◌∙◌, ◌/◌, alters, new_word, Reference, Reply, Node, node_in, frame_at, is_free, uid_of, has_record, IsActive, kst_at, leads, word_of, IsKnownAt, pages_of, is_stored, is_out_of_room, is_used_up, room_reply, stores_page, word_reply, Keeps, cpu_at, flat_of, is_active, or_zero, process_at, is_of_room, only, room_refusal, State, free_frame, position_at, free_is, due_is, inside_is, IsInside, null_word, stored_is, active_at, HasPlace, IsMakeable, Parts, nonzero_alters, some_same, Reply as reply, Frame as frame, Ptw as ptw, Action as act}
use Rattle.machine.proofs.AloneLaws.{process_known}
use Rattle.machine.proofs.Does.{Does, found, keeps_of}
use Rattle.machine.proofs.Found.{Looked}

module _ {D : Type 0} {t : Parts D} {c f u p : ℕ} {r : Reference} (d : Does t c (act.Create f u p r)) where
  abbrev s : State
  s = t.state

  abbrev keeps : Keeps s
  keeps = keeps_of d

  abbrev k : ℕ
  k = process_at s c

  looked : Looked s c (act.Create f u p r)
  looked = found d

  inside : IsInside s k r u
  inside = subst (IsInside s k r) looked.finds.finds.uid (inside_is s k r keeps looked.finds.finds.inside)

  known : uid_of (kst_at s.store.links.known k) r.number ≡ Some u
  known = cc (keeps.faithful.known, inside.known)

  at : IsKnownAt s.store.ast.entries s.store.links.known k r.number looked.finds.finds.aste
  at = keeps.store.kept.linked.known k r.number looked.finds.finds.aste (ap leads looked.finds.finds.linked)

  active_in : IsActive s.store.ast.entries u
  active_in = (looked.finds.finds.aste, at.active ∙ (sym at.known_as ∙ known))

  active : is_active s.store.ast u ≡ true
  active = active_at s.store.ast active_in.0 u active_in.1

  null : word_of s.store.ast u (r.offset / 1024) ≡ ptw.Null
  null = cc (looked.finds.finds.page, looked.finds.null)

  unstored : is_stored (flat_of s).stored u (r.offset / 1024) ≡ false
  unstored = stored_is s keeps u active (r.offset / 1024) ∙ ap has_record null

  zero_word : (flat_of s).words u r.offset ≡ 0
  zero_word = null_word s keeps u active r.offset null

  -- it stores a page more, for which there is room
  stores : stores_page (flat_of s) u r.offset r.kind ≡ true
  stores = ap (λ (w : ℕ). alters r.kind && (not (eqb (new_word w r.kind) 0)
      && not (is_stored (flat_of s).stored u (r.offset / 1024)))) zero_word
      ∙ (ap (λ (b : Bool). alters r.kind && (not (eqb (new_word 0 r.kind) 0) && not b)) unstored
      ∙ (ap (λ (b : Bool). alters r.kind && (not b && true)) looked.finds.word
      ∙ ap (λ (b : Bool). b && true) (nonzero_alters r.kind looked.finds.word)))

  has_room : room_reply s.plan (flat_of s) inside.node reply.Done ≡ reply.Done
  unfolding room_refusal
  has_room = by (is_used_up (flat_of s) inside.node.uid) (is_out_of_room s.plan (flat_of s) inside.node)
      (sym (ap (only is_of_room) (due_is s k r keeps u inside
      ∙ ap (λ (b : Bool). cond b (room_reply s.plan (flat_of s) inside.node word) word) stores)) ∙ looked.finds.room)
    where
      word : Reply
      word = word_reply ((flat_of s).words u r.offset) r.kind

      by : (b e : Bool) → only is_of_room (cond b reply.Quota (cond e reply.NoRecord word)) ≡ None
          → cond b reply.Quota (cond e reply.NoRecord reply.Done) ≡ reply.Done
      by true e i = absurd (let none : Some reply.Quota ≡ None = i in cc)
      by false true i = absurd (let none : Some reply.NoRecord ≡ None = i in cc)
      by false false i = refl

  free : frame_at s.store.pages.core f ≡ frame.Free
  free = free_is (frame_at s.store.pages.core f)
      (position_at is_free s.store.pages.core.frames frame.Free f looked.finds.frame).1

  pub made_known : (j : ℕ) → (cpu_at s.processors c).process ≡ Some j
      → uid_of (kst_at s.store.links.known j) r.number ≡ Some u
  made_known j its = subst (λ (i : ℕ). uid_of (kst_at s.store.links.known i) r.number ≡ Some u) (ap or_zero its) known

  place : (j : ℕ) → (cpu_at s.processors c).process ≡ Some j → HasPlace s.store j f r
  place j its = record {
    uid = u;
    knows = process_known d.sound c its;
    known = made_known j its;
    active = active_in;
    within = rw (ap pages_of (ap (λ (ns : List Node). node_in ns u) (sym keeps.faithful.tree.nodes) ∙ inside.there))
        inside.within;
    null = null;
    word = zero_not;
    frame = (free_frame s.store.pages.core f looked.finds.frame).0;
    free = free;
  }
    where
      zero_not : new_word 0 r.kind ≢ 0
      zero_not e = let no : true ≡ false = sym (cc) ∙ looked.finds.word in cc

  pub makeable : (j : ℕ) → (cpu_at s.processors c).process ≡ Some j → IsMakeable s j f r
  unfolding place
  makeable j its = record {
    place = place j its;
    faithful = keeps.faithful;
    room = λ n e. rw (← (some_same inside.node n (sym inside.there ∙ e))) has_room;
    stays = looked.finds.stays;
  }

  pub made_page : r.offset / 1024 ≡ p
  made_page = looked.finds.finds.page
