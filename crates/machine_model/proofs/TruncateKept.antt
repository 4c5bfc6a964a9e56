-- The machine keeps its promise where a `truncate` takes effect: the pages that are cut off have left their frames, and
-- a page that keeps a word is here again.
use Rattle.machine_model.proofs.Kept.{[], ◌≡◌, ◌≢◌, ℕ, Bool, true, false, if◌then◌else◌, List, ◌∷◌, ◌++◌, map, Option, Some, None, ◌⊎◌, inl, inr, refl, sym, ap, subst, ◌∙◌, Path, Entry, Ptw, binding_at, bindings, reads_of, list_any, Segment, is_for, word_of, read_at, Custody, Fine, page_at, back, gone, committed, gone_entries, stays, with_truncated, IsOwned, IsTied, KeepsBook, is_out, is_pending, names, led_to, seen, Keeps, StoreSays, cut_of_owner, descriptor_of, frames_of_owner, process_at, reply_of, uid_of_command, Seen, frame_use, shown, CutDescriptor, State, Storage, with_owner, without_first_frame, append-nil, append_assoc, Command as command, Entry as entry, Ptw as ptw, GoesOn, HasGone, IsDone, gone_done, idle_done, back_on, first_finish, LeavesRest, goes_with, back_keeps, gone_keeps, IsIdle, owned_laws_nobody as nobody, job_over, tell_kept_CanTell as CanTell, not_there, effected}
use Rattle.machine_model.proofs.DeleteKept.{told_commit}

-- ---- words that custody doesn't see

-- Each word is as it was, or named no frame and names none, and its page isn't being read.
pub record QuietWords (v : Seen) (words : ℕ → ℕ → Ptw) : Type 0 where
  pub each : (w q : ℕ) → (words w q ≡ v.words w q)
      ⊎ ((names (v.words w q) ≡ None) × (names (words w q) ≡ None) × ((f : ℕ) → v.reads f ≢ Some (w, q)))

module _ {v : Seen} {words : ℕ → ℕ → Ptw} (k : KeepsBook v) (quiet : QuietWords v words) where
  bound_same : (f w q : ℕ) → v.bound f ≡ Some (w, q) → words w q ≡ v.words w q
  bound_same f w q h = elim (quiet.each w q) [
    | inl e ↦ e
    | inr n ↦ absurd (not_there f (sym n.0 ∙ k.tied.named f w q h))
  ]

  quiet_tied : IsTied v.bound v.reads words
  quiet_tied = record {
    named = λ f w q h. ap names (bound_same f w q h) ∙ k.tied.named f w q h;
    back = λ f w q h. elim (quiet.each w q) [
      | inl e ↦ k.tied.back f w q (cc)
      | inr n ↦ absurd (not_there f (sym n.1 ∙ h))
    ];
    out = λ f w q h. elim (quiet.each w q) [ inl e ↦ ap is_out e ∙ k.tied.out f w q h | inr n ↦ absurd (n.2 f h) ];
    alone = k.tied.alone;
    unbound = k.tied.unbound;
  }

  quiet_shown : shown v ≡ shown (record v { words = words })
  quiet_shown = λ i. record (shown v) { frame = λ f. use_same f i }
    where
      use_same : (f : ℕ) → frame_use v.words (v.bound f) (v.reads f) ≡ frame_use words (v.bound f) (v.reads f)
      use_same f = by (v.bound f) refl
        where
          by : (x : Option (ℕ × ℕ)) → v.bound f ≡ x → frame_use v.words x (v.reads f) ≡ frame_use words x (v.reads f)
          by None e = refl
          by (Some page) e = cc (bound_same f page.0 page.1 e)

  pub quiet_keeps : KeepsBook (record v { words = words })
  quiet_keeps = assumption (
    sym quiet_shown ∙ k.held,
    subst (λ (c : Custody). Fine c (is_pending v.owner)) quiet_shown k.stale_due,
    subst (λ (c : Custody). IsOwned c v.owner) quiet_shown k.going_owned,
    quiet_tied,
  )

-- ---- pages leave their frames, or are back

-- the page in a frame is back, or has left it and is stored no more
abbrev pub leaf : Seen → ℕ → Bool → Seen
leaf v f true = back v f (page_at v f).0 (page_at v f).1 (without_first_frame v.owner)
leaf v f false = gone v f (page_at v f).0 (page_at v f).1 ptw.Null (without_first_frame v.owner)

abbrev pub leaves : Seen → (ℕ → Bool) → List ℕ → Seen
leaves v test [] = v
leaves v test (f ∷ fs) = leaves (leaf v f (test f)) test fs

leaf_keeps : {v : Seen} (f : ℕ) (fs : List ℕ) {ds : List CutDescriptor} (b : Bool) → KeepsBook v → GoesOn v (f ∷ fs) ds
    → HasGone (leaf v f b) fs ds
leaf_keeps {v} f fs {ds} true k on = assumption (
  back_keeps v f (page_at v f).0 (page_at v f).1 (without_first_frame v.owner) k (first_finish f fs k on),
  back_on v f fs ds on,
)
leaf_keeps {v} f fs {ds} false k on = let back = back_on v f fs ds on in record {
  book = gone_keeps v f (page_at v f).0 (page_at v f).1 (without_first_frame v.owner) k
      (first_finish f fs k on) ptw.Null refl;
  on = goes_with refl back.none back;
}

pub leaves_keep : (v : Seen) (test : ℕ → Bool) (fs : List ℕ) (ds : List CutDescriptor) → KeepsBook v → GoesOn v fs ds
    → HasGone (leaves v test fs) [] ds
leaves_keep v test [] ds k on = assumption
leaves_keep v test (f ∷ fs) ds k on = let first =
    leaf_keeps f fs (test f) k on in leaves_keep (leaf v f (test f)) test fs ds first.book first.on

abbrev leaf_entry : (ℕ → Bool) → ℕ → Entry
leaf_entry test f = if test f then entry.BackPage f else entry.GonePage f

leaf_entries : (v : Seen) (f : ℕ) (b : Bool)
    → (leaf v f b).entries ≡ v.entries ++ (if b then entry.BackPage f else entry.GonePage f) ∷ []
leaf_entries v f true = refl
leaf_entries v f false = refl

leaves_entries : (v : Seen) (test : ℕ → Bool) (fs : List ℕ)
    → (leaves v test fs).entries ≡ v.entries ++ map (leaf_entry test) fs
leaves_entries v test [] = sym (append-nil v.entries)
leaves_entries v test (f ∷ fs) = cc (
  leaves_entries (leaf v f (test f)) test fs,
  leaf_entries v f (test f),
  append_assoc v.entries (leaf_entry test f ∷ []) (map (leaf_entry test) fs),
)

leaf_leaves : (v : Seen) (f : ℕ) (b : Bool) → LeavesRest v (leaf v f b)
leaf_leaves v f true = refl
leaf_leaves v f false = refl

leaves_rest : (v : Seen) (test : ℕ → Bool) (fs : List ℕ) → LeavesRest v (leaves v test fs)
leaves_rest v test [] = refl
leaves_rest v test (f ∷ fs) = leaves_rest (leaf v f (test f)) test fs ∙ (λ i. record (leaf_leaves v f (test f) i) {
  entries = (leaves v test (f ∷ fs)).entries;
  bound = (leaves v test (f ∷ fs)).bound;
  words = (leaves v test (f ∷ fs)).words;
  owner = (leaves v test (f ∷ fs)).owner;
})

-- ---- the command

-- a job that took pages alone, or nothing, is done once they have left or are back
pub leaves_done : (s : State) (test : ℕ → Bool) → KeepsBook (seen s)
    → GoesOn (seen s) (frames_of_owner s.owner) (cut_of_owner s.owner)
    → cut_of_owner s.owner ≡ [] → IsDone (leaves (seen s) test (frames_of_owner s.owner))
leaves_done s test k on cut = gone_done (leaves (seen s) test (frames_of_owner s.owner))
    (rw (← cut) (leaves_keep (seen s) test (frames_of_owner s.owner) (cut_of_owner s.owner) k on))

pub leaves_idle : (s : State) (test : ℕ → Bool) → KeepsBook (seen s) → IsIdle s.owner → is_pending s.owner ≡ false
    → IsDone (leaves (seen s) test (frames_of_owner s.owner))
leaves_idle s test k idle still = subst IsDone (λ i. leaves (seen s) test (sym idle.frames i)) (idle_done k idle still)

module _ (s : State) (c k : ℕ) (path : Path) (size : ℕ) where
  abbrev pub segment : ℕ
  segment = uid_of_command s.store k (command.Truncate path size)

  abbrev pub fs : List ℕ
  fs = frames_of_owner s.owner

  -- the pages that the job took have left their frames, or are back
  abbrev pub all_left : Seen
  all_left = leaves (seen s) (stays s.store size) fs

  abbrev pub cut_store : Storage
  cut_store = with_truncated s.store segment size

  -- A truncation: the job has taken pages alone. The frames and the words are then as the chain of its entries has
  -- them, but that words of pages in no frame may be others; the places of the active segments and the descriptors are
  -- as before.
  pub record LeavesCut : Type 0 where
    pub cut : cut_of_owner s.owner ≡ []
    pub bound : (g : ℕ) → binding_at (bindings cut_store.pages.core) g ≡ all_left.bound g
    pub reads : (g : ℕ) → read_at (reads_of cut_store.pages.core) g ≡ (seen s).reads g
    pub words : QuietWords all_left (λ w q. word_of cut_store.ast w q)
    pub places : cut_store.ast.entries ≡ s.store.ast.entries
    pub links : cut_store.links ≡ s.store.links

  module _ (keeps : Keeps s) (left : LeavesCut) (done : IsDone all_left) where
    rest : LeavesRest (seen s) all_left
    rest = leaves_rest (seen s) (stays s.store size) fs

    over : KeepsBook (record all_left { words = λ w q. word_of cut_store.ast w q; owner = None })
    over = job_over (record all_left { words = λ w q. word_of cut_store.ast w q }) None
        (quiet_keeps done.book left.words) done.frames
        done.cut done.none done.still nobody refl

    entries_are : s.entries ++ gone_entries s segment (command.Truncate path size) ≡ all_left.entries
    entries_are = cc (
      append-nil (map (leaf_entry (stays s.store size)) fs),
      leaves_entries (seen s) (stays s.store size) fs,
    )

    truncated_seen : seen (with_owner (effected s k (command.Truncate path size)) None)
        ≡ record all_left { words = λ w q. word_of cut_store.ast w q; owner = None }
    truncated_seen = λ i. record {
      plan = (sym rest i).plan;
      entries = entries_are i;
      bound = λ g. left.bound g i;
      reads = λ g. (left.reads g ∙ ap (λ (x : Seen). x.reads g) (sym rest)) i;
      words = λ w q. word_of cut_store.ast w q;
      active = λ u. (ap (λ (es : List (Option Segment)). list_any (is_for u) es) left.places
          ∙ ap (λ (x : Seen). x.active u) (sym rest)) i;
      linked = λ j n. ((λ t. led_to (left.places t) (descriptor_of (left.links t) j n))
          ∙ ap (λ (x : Seen). x.linked j n) (sym rest)) i;
      ready = (sym rest i).ready;
      processors = (sym rest i).processors;
      owner = None;
      runs = (sym rest i).runs;
    }

    pub truncate_kept : CanTell (with_owner (effected s k (command.Truncate path size)) None) c (process_at s c) None
        (reply_of s k (command.Truncate path size)) → StoreSays (committed s c k (command.Truncate path size))
        → Keeps (committed s c k (command.Truncate path size))
    truncate_kept tell says = told_commit k (command.Truncate path size) keeps
        (subst KeepsBook (sym truncated_seen) over) tell says
