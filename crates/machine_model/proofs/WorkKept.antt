-- What the owner's job rests on stays so through every action.
use Rattle.machine_model.proofs.Laws.{◌≡◌, ◌≤◌, ℕ, Bool, true, false, cond, List, [], ◌∷◌, ◌++◌, Option, Some, None, ◌⊎◌, inl, inr, refl, sym, ap, subst, ◌∙◌, arith, get_or, set, nat_le, Ok, leb_tells, Plan, reference_of, Command, Reference, Entry, Node, segment_at, store_after, is_stored, is_stored_from, length_reply, stored_from, is_filed, refusal, custody_after, custody_after-push, Mover, Core, reads_of, after_reference, frame_at, started_page, Aim, Phase, holding, Keeps, IsMovedFor, MovesForNext, MovesIn, Tables, tables_of, past_page, with_copy, flat_of, is_active, outside_refusal, refusal_of, uid_of_number, read_at, IsUnread, State, Storage, IsWhole, Spares, FailsBy, FailsIn, MayChange, MayFailBy, append-nil, append_assoc, Frame, Command as command, Reply as reply, core_map_with_frame as with_frame, Aim as aim, Phase as phase, Frame as frame, false_from_ne_true, LeadsToSegment, length_stands, truncate_stands, map_list, FindsActive, FindsCut, FindsPage, IsAbout, whole_next}
use Rattle.machine_model.proofs.InsideLaws.{inside_is}
use Rattle.machine_model.proofs.ReleaseSeen.{set_either}

-- ---- entries that spare a segment

abbrev pub AllSpare : ℕ → List Entry → Type 0
AllSpare u [] = Unit {0}
AllSpare u (e ∷ es) = Spares u e × AllSpare u es

whole_list : (p : Plan) (es more : List Entry) (u : ℕ) → IsWhole (custody_after p es) u → AllSpare u more
    → IsWhole (custody_after p (es ++ more)) u
whole_list p es [] u w spare = subst (λ (xs : List Entry). IsWhole (custody_after p xs) u) (sym (append-nil es)) w
whole_list p es (e ∷ more) u w spare = rw (append_assoc es (e ∷ []) more) at (whole_list p (es ++ e ∷ []) more u
    (rw (custody_after-push p es e) (whole_next p (store_after p es) e w spare.0)) spare.1)

-- what goes of a segment is all of it still
pub whole_on : {s now : State} (more : List Entry) {u : ℕ} → Keeps s → Keeps now → now.plan ≡ s.plan
    → now.entries ≡ s.entries ++ more → IsWhole (holding s) u → AllSpare u more → IsWhole (holding now) u
whole_on {s} more {u} k kept plan entries w spare = rw (kept.book.held ∙ λ i. custody_after (plan i) (entries i))
    (whole_list s.plan s.entries more u (rw (← k.book.held) w) spare)

-- ---- of which commands a failure may be told, by tables that are as before

-- nodes and numbers are as before, and no page more is stored
pub record IsLess (old now : Storage) : Type 0 where
  pub nodes : now.accounts.nodes ≡ old.accounts.nodes
  pub known : now.links.known ≡ old.links.known
  pub filed : (u q : ℕ) → is_filed old.accounts old.pages.vtocs u q ≡ false
      → is_filed now.accounts now.pages.vtocs u q ≡ false

pub fails_less : (old now : Storage) (k : ℕ) (x : Option Command) → IsLess old now → MayFailBy old k x
    → MayFailBy now k x
fails_less old now k None less h = absurd h
fails_less old now k (Some c) less (inl h) = inl (
  h.0,
  h.1,
  record { uid = h.2.uid; stands = cc; node = h.2.node; there = cc; within = h.2.within },
)
fails_less old now k (Some c) less (inr h) = inr (by c h)
  where
    by : (d : Command) → MayChange old.accounts.nodes (is_filed old.accounts old.pages.vtocs) d
        → MayChange now.accounts.nodes (is_filed now.accounts now.pages.vtocs) d
    by (command.Length path pages) x = (x.0, cc, λ q le. less.filed x.0.uid q (x.2 q le))
    by (command.Truncate path words) x = (x.0, cc)
    by _ x = absurd x

fails_by_less : (a : Aim) {old now : Storage} (k : ℕ) (x : Option Command) → IsLess old now → FailsBy a old k x
    → FailsBy a now k x
fails_by_less aim.Committing k x less h = h
fails_by_less _ {old} {now} k x less h = fails_less old now k x less h

pub fails_in_less : (ph : Phase) {old now : Storage} (k : ℕ) (x : Option Command) → IsLess old now → FailsIn ph old k x
    → FailsIn ph now k x
fails_in_less phase.Looking k x less h = tt
fails_in_less (phase.Taken a w) {old} {now} k x less h = fails_by_less a k x less h
fails_in_less (phase.Waiting a w) {old} {now} k x less h = fails_by_less a k x less h
fails_in_less (phase.Moving m) {old} {now} k x less h = fails_less old now k x less h

-- ---- what a move rests on, by tables that are as before

-- the same accounts, records and VTOCs: no page more is stored
pub same_less : (old now : Storage) → tables_of now ≡ tables_of old → IsLess old now
same_less old now same = record {
  nodes = ap (λ (t : Tables). t.accounts.nodes) same;
  known = ap (λ (t : Tables). t.known) same;
  filed = λ u q h. ap (λ (t : Tables). is_filed t.accounts t.vtocs u q) same ∙ h;
}

-- what is active is so still, and no page more is being read into a frame
pub record LeavesMove (old now : Storage) : Type 0 where
  pub tables : tables_of now ≡ tables_of old
  pub active : (u : ℕ) → is_active now.ast u ≡ is_active old.ast u
  pub unread : (u : ℕ) → IsUnread old.pages.core u → IsUnread now.pages.core u

pub moved_on : {old : Storage} (now : Storage) {k : ℕ} {m : Mover} {x : Option Command} → LeavesMove old now
    → IsMovedFor old k m x → IsMovedFor now k m x
moved_on now {k} {m} leaves h = record {
  moves = rw leaves.tables h.moves;
  active = leaves.active m.uid ∙ h.active;
  unread = leaves.unread m.uid h.unread;
}

pub moves_in_on : (ph : Phase) {old now : Storage} (k : ℕ) (x : Option Command) → LeavesMove old now
    → MovesIn ph old k x → MovesIn ph now k x
moves_in_on (phase.Moving m) {old} {now} k x leaves h = moved_on now leaves h
moves_in_on _ k x leaves h = tt

-- a page is copied: the move goes on past it
past_moves : (t : Tables) (k : ℕ) (m : Mover) (p : ℕ) (x : Option Command) → MovesForNext t k m x
    → MovesForNext t k (past_page m p) x
past_moves t k m p None h = h
past_moves t k m p (Some c) h = record {
  reference = h.reference;
  is = h.is;
  lacks = h.lacks;
  first = h.first;
  its = ap (λ (x : Mover). past_page x p) h.its;
}

pub past_moved : {st : Storage} {k : ℕ} {m : Mover} (p : ℕ) {x : Option Command} → IsMovedFor st k m x
    → IsMovedFor (with_copy st m p) k (past_page m p) x
past_moved {st} {k} {m} p {x} h = assumption (past_moves (tables_of st) k m p x h.moves)

-- the frames into which pages are being read are as they were, or fewer
pub unread_less : {old : Core} (now : Core) {u : ℕ}
    → ((f : ℕ) (page : ℕ × ℕ) → read_at (reads_of now) f ≡ Some page → read_at (reads_of old) f ≡ Some page)
    → IsUnread old u → IsUnread now u
unread_less now {u} less h = record { none = λ f p e. h.none f p (less f (u, p) e) }

-- one frame changes, and no page more is being read into it
pub frame_less : (core : Core) (f : ℕ) (y : Frame)
    → ((page : ℕ × ℕ) → started_page y ≡ Some page → started_page (frame_at core f) ≡ Some page)
    → (g : ℕ) (page : ℕ × ℕ) → read_at (reads_of (with_frame core f y)) g ≡ Some page
    → read_at (reads_of core) g ≡ Some page
frame_less core f y less g page h = map_list started_page core.frames g frame.Free
    ∙ by (sym (map_list started_page (set core.frames f y) g frame.Free) ∙ h)
  where
    by : started_page (get_or (set core.frames f y) g frame.Free) ≡ Some page
        → started_page (get_or core.frames g frame.Free) ≡ Some page
    by e = elim (set_either core.frames f y g frame.Free) [
      | inl same ↦ ap started_page (sym same) ∙ e
      | inr is ↦ ap (λ (i : ℕ). started_page (get_or core.frames i frame.Free)) is.0 ∙ less page (cc)
    ]

-- a reference reads no page into its frame
pub referred_less : (x : Frame) (wrote : Bool) (page : ℕ × ℕ) → started_page (after_reference x wrote) ≡ Some page
    → started_page x ≡ Some page
referred_less frame.Free wrote page h = h
referred_less _ wrote page h = h

-- ---- what a look finds

-- no page past the length that a `length` sets is stored
none_from_is : (s : State) (k : ℕ) (path : List (List ℕ)) (pages : ℕ) (n : Node)
    → segment_at (flat_of s).nodes path ≡ Ok n → refusal_of s k (command.Length path pages) ≡ None
    → is_stored_from (flat_of s).stored n.uid pages ≡ false
unfolding refusal_of length_reply
none_from_is s k path pages n found stands = by (is_stored_from (flat_of s).stored n.uid pages) (cc)
  where
    by : (b : Bool) → refusal (cond b reply.Beyond reply.Done) ≡ None → b ≡ false
    by false e = refl
    by true e = cc

module _ {s : State} (k : ℕ) (cmd : Command) (keeps : Keeps s) where
  reference_fails : {r : Reference} → reference_of cmd ≡ Some r → outside_refusal s k r ≡ None
      → MayFailBy s.store k (Some cmd)
  reference_fails {r} is inside = let h = inside_is s k r keeps inside in inl (
    r,
    is,
    record { uid = uid_of_number s.store k r.number; stands = cc; node = h.node; there = cc; within = h.within },
  )

  same_path : (path : List (List ℕ)) (n : Node) → segment_at (flat_of s).nodes path ≡ Ok n
      → segment_at s.store.accounts.nodes path ≡ Ok n
  same_path path n h = cc

  truncate_fails : (path : List (List ℕ)) (words : ℕ) → cmd ≡ command.Truncate path words → refusal_of s k cmd ≡ None
      → MayFailBy s.store k (Some cmd)
  truncate_fails path words is stands = let leads = truncate_stands s k keeps path words (rw (← is) stands) in
      rw is (inr (leads.node, same_path path leads.node leads.found))

  pub page_fails : (uid page : ℕ) → ((r : Reference) × FindsPage s k cmd r uid page) ⊎ FindsCut s k cmd uid page
      → MayFailBy s.store k (Some cmd)
  page_fails uid page (inl x) = reference_fails x.1.is x.1.inside
  page_fails uid page (inr x) = truncate_fails x.path x.words x.is x.stands

  pub about_fails : {u : ℕ} → IsAbout s k cmd u → MayFailBy s.store k (Some cmd)
  about_fails h = elim h.case [ inl x ↦ reference_fails x.1 x.3 | inr x ↦ truncate_fails x.0 x.1 x.2 x.3 ]

  pub length_fails : {u : ℕ} → FindsActive s k cmd u → MayFailBy s.store k (Some cmd)
  length_fails finds = rw finds.is (inr (leads.node, same_path finds.path leads.node leads.found, none_filed))
    where
      stands : refusal_of s k (command.Length finds.path finds.pages) ≡ None
      stands = subst (λ (c : Command). refusal_of s k c ≡ None) finds.is finds.stands

      leads : LeadsToSegment s finds.path
      leads = length_stands s k keeps finds.path finds.pages stands

      none_filed : (q : ℕ) → finds.pages ≤ q → is_filed s.store.accounts s.store.pages.vtocs leads.node.uid q ≡ false
      none_filed q le = sym (keeps.faithful.pages.stored leads.node.uid q)
          ∙ false_from_ne_true (is_stored (flat_of s).stored leads.node.uid q) (λ e. cc (
            stored_from (flat_of s).stored leads.node.uid finds.pages q e le_tells,
            none_from_is s k finds.path finds.pages leads.node leads.found stands,
          ))
        where
          le_tells : nat_le finds.pages q ≡ true
          le_tells = elim (leb_tells finds.pages q) [ inl e ↦ e.0 | inr n ↦ (let lt = n.1 in absurd (omega arith)) ]
