-- What a command's job has taken stays just what it takes, entry by entry, while the others go on.
use Rattle.machine_model.proofs.Laws.{◌≡◌, ℕ, true, false, List, [], ◌∷◌, ◌++◌, Option, Some, None, refl, sym, ap, subst, ◌∙◌, Plan, Command, Entry, Node, node_at, store_after, Store, FrameUse, custody_after, Custody, is_going_frame, page_of, custody_next, custody_after-push, Aim, Phase, holding, Keeps, refusal_of, uid_of_command, uid_of_node, State, Storage, GoesJust, IsAlone, IsTakenBy, IsTakenFor, TakenIn, TakenTo, TakesDescriptor, TakesPage, WasBrought, FailsBy, FailsIn, TakesSome, is_active, ◌/◌, append-nil, append_assoc, page_is, Command as command, Entry as entry, FrameUse as frame, next_with_frame as with_frame, Aim as aim, Phase as phase, get_or, set, inl, inr, What, Ptw, ActiveSegs, place_of, table_of, word_of, worded, is_out, took, Ptw as ptw, by_place, took_has}
use Rattle.machine_model.proofs.ReleaseSeen.{set_either}

-- ---- A page that isn't on its record alone stays so while other pages come into frames and are on their way out.

-- no page more is on its record alone
abbrev pub NoneOut : ActiveSegs → ActiveSegs → Type 0
NoneOut old now = (u q : ℕ) → is_out (word_of old u q) ≡ false → is_out (word_of now u q) ≡ false

pub word_out : (ast : ActiveSegs) (u p : ℕ) (w : Ptw) → is_out w ≡ false → NoneOut ast (worded ast u p w)
word_out ast u p w off v q h = elim (set_either ast.tables (place_of ast.entries u) (set (table_of ast u) p w)
    (place_of ast.entries v) []) [
      | inl same ↦ ap (λ (t : List Ptw). is_out (get_or t q ptw.Null)) same ∙ h
      | inr is ↦ ap (λ (t : List Ptw). is_out (get_or t q ptw.Null)) is.1 ∙ elim (set_either (table_of ast u) p w q
          ptw.Null) [
            | inl same ↦ ap is_out same ∙ (cc)
            | inr at ↦ ap is_out at.1 ∙ off
          ]
    ]

pub took_out : (s : State) (c : ℕ) (a : Aim) (w : What) (fs : List ℕ) (xs : List (ℕ × ℕ))
    → NoneOut s.store.ast (took s c a w fs xs).store.ast
took_out s c a w fs xs u q h = took_has (λ st. is_out (word_of st.ast u q) ≡ false)
    (λ st f v p e. word_out st.ast v p (ptw.Leaving f) refl u q e) (λ st k n e. e) c a w s fs xs h

-- an entry takes nothing, lets nothing go, and brings no page that is taken
abbrev pub Stays : (ℕ → ℕ → Type 0) → Entry → Type 0
Stays Page (entry.Here f v q) = Page v q → ⊥
Stays Page (entry.Start f v q) = ⊥
Stays Page (entry.Connect k n v) = ⊥
Stays Page (entry.Take f) = ⊥
Stays Page (entry.Cut k n) = ⊥
Stays Page (entry.GonePage f) = ⊥
Stays Page (entry.BackPage f) = ⊥
Stays Page (entry.GoneSeg k n) = ⊥
Stays Page (entry.BackSeg k n) = ⊥
Stays Page _ = Unit {0}

abbrev pub AllStay : (ℕ → ℕ → Type 0) → List Entry → Type 0
AllStay Page [] = Unit {0}
AllStay Page (e ∷ es) = Stays Page e × AllStay Page es

module _ (Page : ℕ → ℕ → Type 0) (Descriptor : ℕ → ℕ → ℕ → Type 0) where
  -- one frame is used otherwise, and isn't on its way out
  frame_just : {c : Custody} (f : ℕ) (x : FrameUse) → GoesJust c Page Descriptor → is_going_frame x ≡ false
      → ((u q : ℕ) → page_of x ≡ Some (u, q) → Page u q → ⊥) → GoesJust (with_frame c f x) Page Descriptor
  frame_just {c} f x j off none = record {
    pages = λ g u q. by_place (λ (y : FrameUse). page_of y ≡ Some (u, q) → Page u q → is_going_frame y ≡ true)
        c.frame f x g (λ e h i. absurd (none u q h i)) (λ n. j.pages g u q);
    its_pages = λ g u q. by_place (λ (y : FrameUse). page_of y ≡ Some (u, q) → is_going_frame y ≡ true → Page u q)
        c.frame f x g (λ e h i. cc) (λ n. j.its_pages g u q);
    descriptors = j.descriptors;
    its_descriptors = j.its_descriptors;
  }

  seat_just : {c : Custody} (e : Custody) → e.frame ≡ c.frame → e.descriptor ≡ c.descriptor → GoesJust c Page Descriptor
      → GoesJust e Page Descriptor
  seat_just e f d j = record {
    pages = rw f j.pages;
    its_pages = rw f j.its_pages;
    descriptors = rw d j.descriptors;
    its_descriptors = rw d j.its_descriptors;
  }

  just_next : (p : Plan) (s : Store) {c : Custody} (e : Entry) → GoesJust c Page Descriptor → Stays Page e
      → GoesJust (custody_next p s c e) Page Descriptor
  unfolding custody_next
  just_next p s {c} (entry.Do k i d f r) j h = seat_just (custody_next p s c (entry.Do k i d f r)) refl refl j
  just_next p s (entry.Release v q) j h = j
  just_next p s (entry.Fault k) j h = j
  just_next p s (entry.Moved k u w) j h = j
  just_next p s {c} (entry.Online d) j h = seat_just (custody_next p s c (entry.Online d)) refl refl j
  just_next p s {c} (entry.Load d k) j h = seat_just (custody_next p s c (entry.Load d k)) refl refl j
  just_next p s {c} (entry.Leave d) j h = seat_just (custody_next p s c (entry.Leave d)) refl refl j
  just_next p s {c} (entry.Activate v) j h = seat_just (custody_next p s c (entry.Activate v)) refl refl j
  just_next p s {c} (entry.Deactivate v) j h = seat_just (custody_next p s c (entry.Deactivate v)) refl refl j
  just_next p s {c} (entry.Lose f) j h = frame_just f frame.Free j refl (λ u q e. cc)
  just_next p s {c} (entry.Here f v q) j h = frame_just f (frame.Current v q) j refl
      (λ u p e i. h (let same = page_is v q u p e in
      rw (same.0, same.1) i))
  just_next p s {c} (entry.Signal d x) j h = seat_just (custody_next p s c (entry.Signal d x)) refl refl j
  just_next p s {c} (entry.Clear d x) j h = seat_just (custody_next p s c (entry.Clear d x)) refl refl j
  just_next p s {c} (entry.FillSeg d n) j h = seat_just (custody_next p s c (entry.FillSeg d n)) refl refl j
  just_next p s {c} (entry.FillPage d f) j h = seat_just (custody_next p s c (entry.FillPage d f)) refl refl j
  just_next p s _ j h = absurd h

  just_list : (p : Plan) (es more : List Entry) → GoesJust (custody_after p es) Page Descriptor → AllStay Page more
      → GoesJust (custody_after p (es ++ more)) Page Descriptor
  just_list p es [] j stay =
      subst (λ (xs : List Entry). GoesJust (custody_after p xs) Page Descriptor) (sym (append-nil es)) j
  just_list p es (e ∷ more) j stay = rw (append_assoc es (e ∷ []) more) at (just_list p (es ++ e ∷ []) more
      (rw (custody_after-push p es e) (just_next p (store_after p es) e j stay.0)) stay.1)

  -- what goes is just that still
  pub just_on : {s now : State} (more : List Entry) → Keeps s → Keeps now → now.plan ≡ s.plan
      → now.entries ≡ s.entries ++ more → GoesJust (holding s) Page Descriptor → AllStay Page more
      → GoesJust (holding now) Page Descriptor
  just_on {s} more k kept plan entries j stay = rw (kept.book.held ∙ λ i. custody_after (plan i) (entries i))
      (just_list s.plan s.entries more (rw (← k.book.held) j) stay)

  -- a page that is being read isn't taken
  pub started_free : {c : Custody} (f v q : ℕ) → GoesJust c Page Descriptor → c.frame f ≡ frame.Started v q → Page v q
      → ⊥
  started_free f v q j started h = cc (sym (ap is_going_frame started) ∙ (j.pages f v q (ap page_of started) h))

-- ---- the segment of the command

-- it is the same where the tree and the numbers are
pub same_uid : (old now : Storage) (k : ℕ) (c : Command) → now.accounts.nodes ≡ old.accounts.nodes
    → now.links.known ≡ old.links.known → uid_of_command now k c ≡ uid_of_command old k c
same_uid old now k c nodes known = by c
  where
    path_same : (path : List (List ℕ)) → uid_of_node (node_at now.accounts.nodes path)
        ≡ uid_of_node (node_at old.accounts.nodes path)
    path_same path = cc

    by : (x : Command) → uid_of_command now k x ≡ uid_of_command old k x
    by (command.Initiate path) = path_same path
    by (command.Terminate n) = cc
    by (command.Acl path row m) = path_same path
    by (command.Length path pages) = path_same path
    by (command.Truncate path words) = path_same path
    by (command.Delete path) = path_same path
    by (command.Move path amount) = path_same path
    by (command.Status path) = path_same path
    by _ = refl

alone_same : {old : List Node} (now : List Node) (u : ℕ) (c : Command) → now ≡ old → IsAlone old u c → IsAlone now u c
alone_same now u c same h = rw same h

-- ---- what a job has taken

-- steps that leave the tree, the numbers and what is taken, and refuse no command that takes
pub record LeavesTaken (s now : State) : Type 1 where
  pub nodes : now.store.accounts.nodes ≡ s.store.accounts.nodes
  pub known : now.store.links.known ≡ s.store.links.known
  pub active : (u : ℕ) → is_active now.store.ast u ≡ is_active s.store.ast u
  pub out : NoneOut s.store.ast now.store.ast
  pub just : (Page : ℕ → ℕ → Type 0) (Descriptor : ℕ → ℕ → ℕ → Type 0) → GoesJust (holding s) Page Descriptor
      → GoesJust (holding now) Page Descriptor
  pub stands : (k : ℕ) (c : Command) → TakesSome (Some c) → refusal_of s k c ≡ None → refusal_of now k c ≡ None

-- what was brought for a command
pub brought_on : (old now : Storage) (u : ℕ) (c : Command) → (is_active old.ast u ≡ true → is_active now.ast u ≡ true)
    → NoneOut old.ast now.ast → WasBrought old u c → WasBrought now u c
brought_on old now u (command.Truncate path words) active out h = (
  active h.0,
  λ cut. out u (words / 1024) (h.1 cut),
)
brought_on old now u _ active out h = tt

taken_for : {s now : State} {k : ℕ} {c : Command} → LeavesTaken s now → TakesSome (Some c) → IsTakenFor s k c
    → IsTakenFor now k c
taken_for {s} {now} {k} {c} l some h = record {
  just = rw same (l.just (TakesPage c (uid_of_command s.store k c)) (TakesDescriptor c k (uid_of_command s.store k c))
      h.just);
  alone = rw same (alone_same now.store.accounts.nodes (uid_of_command s.store k c) c l.nodes h.alone);
  brought = rw same (brought_on s.store now.store (uid_of_command s.store k c) c (λ e. l.active _ ∙ e) l.out h.brought);
  stands = l.stands k c some h.stands;
}
  where
    same : uid_of_command now.store k c ≡ uid_of_command s.store k c
    same = same_uid s.store now.store k c l.nodes l.known

taken_by : (s now : State) (k : ℕ) (x : Option Command) → LeavesTaken s now → TakesSome x → IsTakenBy s k x
    → IsTakenBy now k x
taken_by s now k None l some h = tt
taken_by s now k (Some c) l some h = taken_for l some h

taken_to : (a : Aim) {s now : State} (k : ℕ) (x : Option Command) → LeavesTaken s now → FailsBy a s.store k x
    → TakenTo a s k x → TakenTo a now k x
taken_to aim.Committing {s} {now} k x l fails h = taken_by s now k x l fails h
taken_to _ k x l fails h = tt

pub taken_in : (ph : Phase) {s now : State} (k : ℕ) (x : Option Command) → LeavesTaken s now → FailsIn ph s.store k x
    → TakenIn ph s k x → TakenIn ph now k x
taken_in (phase.Taken a w) {s} {now} k x l fails h = taken_to a k x l fails h
taken_in (phase.Waiting a w) {s} {now} k x l fails h = taken_to a k x l fails h
taken_in _ k x l fails h = tt
