-- A segment becomes active, or is it no more.
use Rattle.machine_model.proofs.Basics.{◌≡◌, ◌≢◌, ℕ, Bool, true, false, [], ◌∷◌, ◌++◌, Option, Some, None, inl, inr, refl, sym, ap, subst, ◌∙◌, eqb_tells, Entry, Ptw, IsLawful, after_entry, IsAllowed, MayActivate, MayDeactivate, Custody, page_of, uid_of_page, HasNoPage, at_put, custody_next, activated, deactivated, KeepsBook, IsOwned, IsRun, IsTied, is_pending, names, is_out, Seen, flat, shown, frame_use, progress_of, FillsOnline, pending_after, Entry as entry, Ptw as ptw, book_next, like_active, owned_like, not_there, page_used}

-- The words of one segment are others, which name no frame, as those before didn't; no page of it is being read.
pub record ChangesSegment (v : Seen) (u : ℕ) (words : ℕ → ℕ → Ptw) : Type 0 where
  pub others : (w q : ℕ) → w ≢ u → words w q ≡ v.words w q
  pub before : (q : ℕ) → names (v.words u q) ≡ None
  pub after : (q : ℕ) → names (words u q) ≡ None
  pub unread : (f q : ℕ) → v.reads f ≢ Some (u, q)

module _ {v : Seen} {u : ℕ} {words : ℕ → ℕ → Ptw} (k : KeepsBook v) (change : ChangesSegment v u words) where
  -- a page of another segment has the word that it had
  kept : (f w q : ℕ) → v.bound f ≡ Some (w, q) → words w q ≡ v.words w q
  kept f w q h = change.others w q (λ e. not_there f (cc (change.before q, k.tied.named f w q h)))

  tied_segment : IsTied v.bound v.reads words
  tied_segment = record {
    named = λ f w q h. ap names (kept f w q h) ∙ k.tied.named f w q h;
    back = λ f w q h. elim (eqb_tells w u) [
      | inl e ↦ absurd (not_there f (cc (change.after q)))
      | inr n ↦ k.tied.back f w q (cc (change.others w q n.1))
    ];
    out = λ f w q h. elim (eqb_tells w u) [
      | inl e ↦ absurd (change.unread f q (cc))
      | inr n ↦ ap is_out (change.others w q n.1) ∙ k.tied.out f w q h
    ];
    alone = k.tied.alone;
    unbound = k.tied.unbound;
  }

  uses_same : (f : ℕ) → frame_use words (v.bound f) (v.reads f) ≡ (shown v).frame f
  uses_same f = by (v.bound f) refl
    where
      by : (x : Option (ℕ × ℕ)) → v.bound f ≡ x → frame_use words x (v.reads f) ≡ frame_use v.words x (v.reads f)
      by None e = refl
      by (Some page) e = cc (kept f page.0 page.1 e)

-- the segment is active, or is it no more, by an entry that says so and nothing else
activity_keeps : {v : Seen} {u : ℕ} {words : ℕ → ℕ → Ptw} (active : Bool) (e : Entry) → KeepsBook v
    → ChangesSegment v u words → IsLawful v.plan (flat v) e → IsAllowed v.plan (flat v) (shown v) e
    → FillsOnline (shown v) e
    → custody_next v.plan (flat v) (shown v) e ≡ record (shown v) { active = at_put v.active u active }
    → pending_after (is_pending v.owner) e ≡ is_pending v.owner
    → ((j : ℕ) → IsRun (progress_of (after_entry v.plan (flat v) e) j) (v.runs j))
    → KeepsBook (record v { active = at_put v.active u active; words = words; entries = v.entries ++ e ∷ [] })
activity_keeps {v} {u} {words} active e k change lawful allowed online next pending runs = book_next refl refl k
    (assumption (
      (λ i. record (shown v) {
        active = at_put v.active u active;
        frame = λ f. uses_same k change f i;
      }) ∙ sym next,
      sym pending,
      subst (λ (c : Custody). IsOwned c v.owner) (sym next)
          (owned_like (like_active (shown v) (at_put v.active u active)) k.going_owned),
      tied_segment k change,
    ))

-- a segment whose words all said that it has no page
abbrev pub IsBlank : (ℕ → ℕ → Ptw) → ℕ → Type 0
IsBlank words u = (q : ℕ) → words u q ≡ ptw.Null

-- a segment that may become active, with words that name no frame
pub record CanActivate (v : Seen) (u : ℕ) (words : ℕ → ℕ → Ptw) : Type 0 where
  pub may : MayActivate v.plan (flat v) (shown v) u
  pub blank : IsBlank v.words u
  pub others : (w q : ℕ) → w ≢ u → words w q ≡ v.words w q
  pub nowhere : (q : ℕ) → names (words u q) ≡ None

activates : (v : Seen) (u : ℕ) (words : ℕ → ℕ → Ptw) → KeepsBook v → CanActivate v u words → ChangesSegment v u words
activates v u words k can = record {
  others = can.others;
  before = λ q. ap names (can.blank q);
  after = can.nowhere;
  unread = λ f q h. (let no = sym (ap is_out (can.blank q)) ∙ k.tied.out f u q h in cc);
}

pub activate_keeps : {v : Seen} (u : ℕ) (words : ℕ → ℕ → Ptw) → KeepsBook v → CanActivate v u words
    → KeepsBook (activated v u words)
unfolding IsLawful after_entry custody_next
activate_keeps {v} u words k can =
    activity_keeps true (entry.Activate u) k (activates v u words k can) tt can.may tt refl refl k.runs

-- a segment that may become inactive, whose words all say then that it has no page
pub record CanDeactivate (v : Seen) (u : ℕ) (words : ℕ → ℕ → Ptw) : Type 0 where
  pub may : MayDeactivate (flat v) (shown v) u
  pub others : (w q : ℕ) → w ≢ u → words w q ≡ v.words w q
  pub blank : IsBlank words u

module _ {v : Seen} (u : ℕ) (k : KeepsBook v) (pages : HasNoPage (shown v) u) where
  uid_bound : (f q : ℕ) → v.bound f ≡ Some (u, q) → uid_of_page (page_of ((shown v).frame f)) ≡ Some u
  uid_bound f q h = cc (page_used (u, q) (v.words u q))

  uid_read : (f q : ℕ) → v.reads f ≡ Some (u, q) → uid_of_page (page_of ((shown v).frame f)) ≡ Some u
  uid_read f q h = cc (k.tied.unbound f u q h)

  nowhere_before : (q : ℕ) → names (v.words u q) ≡ None
  nowhere_before q = by (names (v.words u q)) refl
    where
      by : (x : Option ℕ) → names (v.words u q) ≡ x → x ≡ None
      by None e = refl
      by (Some f) e = absurd (pages f (uid_bound f q (k.tied.back f u q e)))

pub deactivate_keeps : {v : Seen} (u : ℕ) (words : ℕ → ℕ → Ptw) → KeepsBook v → CanDeactivate v u words
    → KeepsBook (deactivated v u words)
unfolding IsLawful after_entry custody_next
deactivate_keeps {v} u words k can =
    activity_keeps false (entry.Deactivate u) k change tt can.may tt refl refl k.runs
  where
    change : ChangesSegment v u words
    change = record {
      others = can.others;
      before = nowhere_before u k can.may.pages;
      after = λ q. ap names (can.blank q);
      unread = λ f q h. can.may.pages f (uid_read u k can.may.pages f q h);
    }
