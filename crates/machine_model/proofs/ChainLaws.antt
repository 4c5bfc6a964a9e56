-- Pages are taken and descriptors cut one after the other; what was taken is back, or gone.
use Rattle.machine_model.proofs.Basics.{◌≡◌, ℕ, Bool, true, false, List, [], ◌∷◌, ◌++◌, Option, Some, None, refl, sym, ap, subst, ◌∙◌, What, Ptw, NamesAllGoing, has, is_going_frame, is_uid, names_descriptor, names_frame, NoneDue, Aim, page_at, page_or_zero, takes, each_seg, gone_segs, gones, taken, cut, back, gone, gone_seg, AreDistinct, IsAimed, IsShaped, FitsPhase, KeepsBook, is_pending, names, says, waits_for, cut_of_owner, frames_of_owner, Seen, bound_use, frame_use, read_use, shown, CutDescriptor, Owner, rest_of, without_first_cut, without_first_frame, has_head, has_tail, What as what, Ptw as ptw, custody_bound_page as bound_page, IsIdle, by_places, bound_used}
use Rattle.machine_model.proofs.DescriptorLaws.{CanFinishSeg, gone_seg_keeps}
use Rattle.machine_model.proofs.DueLaws.{HasLeft, HasLeftCut, none_due, LeavesFirst}
use Rattle.machine_model.proofs.FrameLaws.{CanFinish, gone_keeps, take_keeps}

-- ---- what is named, by the page in a frame

-- the page in a frame, as custody sees it
pub bound_shown : (v : Seen) (f : ℕ) → bound_page ((shown v).frame f) ≡ v.bound f
bound_shown v f = by (v.bound f)
  where
    read : (y : Option (ℕ × ℕ)) → bound_page (read_use y) ≡ None
    read None = refl
    read (Some page) = refl

    by : (x : Option (ℕ × ℕ)) → bound_page (frame_use v.words x (v.reads f)) ≡ x
    by None = read (v.reads f)
    by (Some page) = bound_used page (v.words page.0 page.1)

-- what is named of a frame doesn't depend on the words
pub names_shown : (v now : Seen) (w : What) (f : ℕ) → now.bound f ≡ v.bound f
    → names_frame (shown now) w f ≡ names_frame (shown v) w f
names_shown v now (what.Seg u) f same = cc (bound_shown now f, same, bound_shown v f)
names_shown v now _ f same = refl

-- ---- pages are taken

pub record CanTakeAll (v : Seen) (aim : Aim) (w : What) (fs : List ℕ) : Type 0 where
  pub here : (f : ℕ) → has fs f ≡ true → v.words (page_at v f).0 (page_at v f).1 ≡ ptw.Here f
  pub once : AreDistinct fs
  pub named : (f : ℕ) → has fs f ≡ true → names_frame (shown v) w f ≡ true
  pub others : NamesAllGoing (shown v) w
  pub still : waits_for v.owner ≡ None
  pub aimed : (gs : List ℕ) (ds : List CutDescriptor) → IsAimed aim w gs ds

-- the other pages are here still once one of them is taken
pub here_after : (v : Seen) (c : ℕ) (aim : Aim) (w : What) (f : ℕ) (fs : List ℕ)
    → v.words (page_at v f).0 (page_at v f).1 ≡ ptw.Here f → has fs f ≡ false
    → ((g : ℕ) → has (f ∷ fs) g ≡ true → v.words (page_at v g).0 (page_at v g).1 ≡ ptw.Here g) → (g : ℕ)
    → has fs g ≡ true
    → (taken v c aim w f (page_at v f).0 (page_at v f).1).words (page_at v g).0 (page_at v g).1 ≡ ptw.Here g
here_after v c aim w f fs first once here g h =
    by_places (λ (x : Ptw). x ≡ ptw.Here g) v.words (page_at v f).0 (page_at v f).1
    (ptw.Leaving f) (page_at v g).0 (page_at v g).1 (λ a b. cc (subst (λ (i : ℕ). has fs i ≡ true) (same a b) h))
    (λ n. here g (has_tail f fs g h))
  where
    same : (page_at v g).0 ≡ (page_at v f).0 → (page_at v g).1 ≡ (page_at v f).1 → g ≡ f
    same a b = let both : ptw.Here g ≡ ptw.Here f = sym (here g (has_tail f fs g h)) ∙ (cc) in
        cc

-- the machine keeps what it keeps, the owner waits for nothing still, and what goes is named
pub record HasTaken (v : Seen) (w : What) : Type 0 where
  pub book : KeepsBook v
  pub others : NamesAllGoing (shown v) w
  pub still : waits_for v.owner ≡ None

pub takes_keep : (v : Seen) (c : ℕ) (aim : Aim) (w : What) (fs : List ℕ) → KeepsBook v → CanTakeAll v aim w fs
    → HasTaken (takes v c aim w fs) w
takes_keep v c aim w [] k can = assumption
takes_keep v c aim w (f ∷ fs) k can = takes_keep now c aim w fs book (record {
  here = here;
  once = can.once.1;
  named = λ g h. names_shown v now w g refl ∙ can.named g (has_tail f fs g h);
  others = (book.going_owned.says w refl).1;
  still = refl;
  aimed = can.aimed;
})
  where
    u : ℕ
    u = (page_at v f).0

    p : ℕ
    p = (page_at v f).1

    now : Seen
    now = taken v c aim w f u p

    book : KeepsBook now
    book = take_keeps c aim w f u p k (assumption (
      can.here f (has_head f fs),
      can.named f (has_head f fs),
      can.aimed (frames_of_owner v.owner ++ f ∷ []) (cut_of_owner v.owner),
    ))

    here : (g : ℕ) → has fs g ≡ true → now.words (page_at v g).0 (page_at v g).1 ≡ ptw.Here g
    here = here_after v c aim w f fs (can.here f (has_head f fs)) can.once.0 can.here

-- ---- descriptors are cut

-- whether a signal names the descriptors of a segment
abbrev pub names_uid : What → ℕ → Bool
names_uid what.All u = true
names_uid (what.Page g) u = false
names_uid (what.Seg v) u = is_uid v (Some u)

pub names_linked : (v : Seen) (w : What) (k n : ℕ) {u : ℕ} → v.linked k n ≡ Some u
    → names_descriptor (shown v) w k n ≡ names_uid w u
names_linked v (what.Seg x) k n h = rw (h)
names_linked v _ k n h = refl

-- some descriptors are connected, and named
abbrev pub AreLinked : (ℕ → ℕ → Option ℕ) → What → List CutDescriptor → Type 0
AreLinked linked w [] = Unit {0}
AreLinked linked w (d ∷ ds) = ((linked d.process d.number ≡ Some d.uid) ×
    (names_uid w d.uid ≡ true)) × AreLinked linked w ds

-- ---- what was taken goes, or comes back

-- an owner whose job may have taken anything
abbrev pub IsSteady : Option Owner → Type 0
IsSteady None = Unit {0}
IsSteady (Some o) = (gs : List ℕ) (ds : List CutDescriptor) → FitsPhase o.phase gs ds

-- every processor has cleared, and these frames and descriptors are still to go
pub record GoesOn (v : Seen) (fs : List ℕ) (ds : List CutDescriptor) : Type 0 where
  pub frames : frames_of_owner v.owner ≡ fs
  pub cut : cut_of_owner v.owner ≡ ds
  pub none : NoneDue (shown v)
  pub still : is_pending v.owner ≡ false
  pub quiet : says v.owner ≡ None
  pub steady : IsSteady v.owner

-- so they are where the owner is the same, and no clear is due
pub goes_with : {v now : Seen} {fs : List ℕ} {ds : List CutDescriptor} → now.owner ≡ v.owner → NoneDue (shown now)
    → GoesOn v fs ds → GoesOn now fs ds
goes_with same none on = record {
  frames = cc;
  cut = cc;
  none = none;
  still = cc;
  quiet = cc;
  steady = subst IsSteady (sym same) on.steady;
}

-- pages and descriptors that go, or are back, leave all but the book, the frames' pages, the words and the owner
abbrev pub LeavesRest : Seen → Seen → Type 0
LeavesRest v now = now ≡ record v { entries = now.entries; bound = now.bound; words = now.words; owner = now.owner }

-- what an owner has that goes on with less to go
record GoesLess (o now : Option Owner) (fs : List ℕ) (ds : List CutDescriptor) : Type 0 where
  pending : is_pending now ≡ is_pending o
  says : says now ≡ says o
  steady : IsSteady o → IsSteady now
  frames : frames_of_owner now ≡ fs
  cut : cut_of_owner now ≡ ds

frame_goes : (o : Option Owner) → GoesLess o (without_first_frame o) (rest_of (frames_of_owner o)) (cut_of_owner o)
frame_goes None = record { pending = refl; says = refl; steady = λ h. h; frames = refl; cut = refl }
frame_goes (Some o) = record { pending = refl; says = refl; steady = λ h. h; frames = refl; cut = refl }

cut_goes : (o : Option Owner) → GoesLess o (without_first_cut o) (frames_of_owner o) (rest_of (cut_of_owner o))
cut_goes None = record { pending = refl; says = refl; steady = λ h. h; frames = refl; cut = refl }
cut_goes (Some o) = record { pending = refl; says = refl; steady = λ h. h; frames = refl; cut = refl }

shaped_steady : (o : Option Owner) → IsSteady o → IsShaped o
shaped_steady None h = tt
shaped_steady (Some o) h = h o.frames o.cut

left_by : {A B : Type 0} {list : Option Owner → List A} {other : Option Owner → List B} {o q : Option Owner} {x : A}
    (xs : List A) → list o ≡ x ∷ xs → list q ≡ xs → other q ≡ other o → says q ≡ None → IsShaped q
    → LeavesFirst list other o q x
left_by xs first left same quiet shaped =
    record { rest = xs; first = first; left = left; same = same; says = quiet; shaped = shaped }

-- it goes on without its first frame
left_first : (o : Option Owner) (f : ℕ) (fs : List ℕ) → frames_of_owner o ≡ f ∷ fs → says o ≡ None → IsSteady o
    → HasLeft o (without_first_frame o) f
left_first o f fs frames quiet steady = left_by fs frames (cc ((frame_goes o).frames)) (frame_goes o).cut
    ((frame_goes o).says ∙ quiet) (shaped_steady (without_first_frame o) ((frame_goes o).steady steady))

-- and without its first descriptor
left_first_cut : (o : Option Owner) (d : CutDescriptor) (ds : List CutDescriptor) → cut_of_owner o ≡ d ∷ ds
    → says o ≡ None → IsSteady o → HasLeftCut o (without_first_cut o) d
left_first_cut o d ds cut quiet steady = left_by ds cut (cc ((cut_goes o).cut))
    (cut_goes o).frames ((cut_goes o).says ∙ quiet) (shaped_steady (without_first_cut o) ((cut_goes o).steady steady))

-- a frame that is going has a page whose word says so
pub going_word : {v : Seen} (f : ℕ) → KeepsBook v → is_going_frame ((shown v).frame f) ≡ true
    → v.words (page_at v f).0 (page_at v f).1 ≡ ptw.Leaving f
going_word {v} f k going = by (v.bound f) refl going
  where
    word : (page : ℕ × ℕ) (w : Ptw) → names w ≡ Some f → is_going_frame (bound_use page w) ≡ true → w ≡ ptw.Leaving f
    word page (ptw.Leaving g) n h = cc
    word page _ n h = cc

    read : (y : Option (ℕ × ℕ)) → is_going_frame (read_use y) ≡ false
    read None = refl
    read (Some page) = refl

    by : (x : Option (ℕ × ℕ)) → v.bound f ≡ x → is_going_frame (frame_use v.words x (v.reads f)) ≡ true
        → v.words (page_or_zero x).0 (page_or_zero x).1 ≡ ptw.Leaving f
    by None e h = cc (read (v.reads f))
    by (Some page) e h = word page (v.words page.0 page.1) (k.tied.named f page.0 page.1 e) h

pub record HasGone (v : Seen) (fs : List ℕ) (ds : List CutDescriptor) : Type 0 where
  pub book : KeepsBook v
  pub on : GoesOn v fs ds

module _ {v : Seen} (f : ℕ) (fs : List ℕ) {ds : List CutDescriptor} (k : KeepsBook v) (on : GoesOn v (f ∷ fs) ds) where
  first_going : is_going_frame ((shown v).frame f) ≡ true
  first_going = cc (k.going_owned.frames f, has_head f fs)

  pub first_finish : CanFinish v f (page_at v f).0 (page_at v f).1 (without_first_frame v.owner)
  first_finish = assumption (
    going_word f k first_going,
    (frame_goes v.owner).pending ∙ on.still,
    left_first v.owner f fs on.frames on.quiet on.steady,
  )

-- the owner goes on without its first frame, whatever became of that
pub back_on : (v : Seen) (f : ℕ) (fs : List ℕ) (ds : List CutDescriptor) → GoesOn v (f ∷ fs) ds
    → GoesOn (back v f (page_at v f).0 (page_at v f).1 (without_first_frame v.owner)) fs ds
back_on v f fs ds on = assumption (
  (frame_goes v.owner).frames ∙ ap rest_of on.frames,
  (frame_goes v.owner).cut ∙ on.cut,
  (frame_goes v.owner).pending ∙ on.still,
  (frame_goes v.owner).says ∙ on.quiet,
  (frame_goes v.owner).steady on.steady,
)

pub gones_keep : (v : Seen) (fs : List ℕ) {ds : List CutDescriptor} → KeepsBook v → GoesOn v fs ds
    → HasGone (gones v fs) [] ds
gones_keep v [] k on = assumption
gones_keep v (f ∷ fs) {ds} k on = gones_keep (gone v f (page_at v f).0 (page_at v f).1 ptw.Null
    (without_first_frame v.owner)) fs (gone_keeps v f (page_at v f).0 (page_at v f).1 (without_first_frame v.owner) k
    (first_finish f fs k on) ptw.Null refl) (goes_with refl on.none (back_on v f fs ds on))

pub first_finish_seg : {v : Seen} {fs : List ℕ} (d : CutDescriptor) (ds : List CutDescriptor) → GoesOn v fs (d ∷ ds)
    → CanFinishSeg v d (without_first_cut v.owner)
first_finish_seg {v} d ds on = assumption (
  (cut_goes v.owner).pending ∙ on.still,
  left_first_cut v.owner d ds on.cut on.quiet on.steady,
)

pub uncut_on : {v : Seen} (now : Seen) {fs : List ℕ} (d : CutDescriptor) (ds : List CutDescriptor)
    → GoesOn v fs (d ∷ ds) → NoneDue (shown now) → now.owner ≡ without_first_cut v.owner → GoesOn now fs ds
uncut_on {v} now d ds on none same = record {
  frames = cc ((cut_goes v.owner).frames);
  cut = cc ((cut_goes v.owner).cut);
  none = none;
  still = cc ((cut_goes v.owner).pending);
  quiet = cc ((cut_goes v.owner).says);
  steady = subst IsSteady (sym same) ((cut_goes v.owner).steady on.steady);
}

-- one descriptor after the other, whatever is done to each, where the book is kept by it
segs_keep : (step : Seen → CutDescriptor → Option Owner → Seen)
    → ((v : Seen) (d : CutDescriptor) (o : Option Owner) → (step v d o).owner ≡ o)
    → ((v : Seen) (d : CutDescriptor) (o : Option Owner) → NoneDue (shown v) → NoneDue (shown (step v d o)))
    → ((v : Seen) (d : CutDescriptor) (o : Option Owner) → KeepsBook v → CanFinishSeg v d o → KeepsBook (step v d o))
    → (v : Seen) (fs : List ℕ) (ds : List CutDescriptor) → KeepsBook v → GoesOn v fs ds
    → HasGone (each_seg step v ds) fs []
segs_keep step owner none keeps v fs [] k on = assumption
segs_keep step owner none keeps v fs (d ∷ ds) k on =
    let now = step v d (without_first_cut v.owner) in
    segs_keep step owner none keeps now fs ds (keeps v d (without_first_cut v.owner) k (first_finish_seg d ds on))
    (uncut_on now d ds on (none v d (without_first_cut v.owner) on.none) (owner v d (without_first_cut v.owner)))

pub gone_segs_keep : (v : Seen) (fs : List ℕ) (ds : List CutDescriptor) → KeepsBook v → GoesOn v fs ds
    → HasGone (gone_segs v ds) fs []
gone_segs_keep = segs_keep gone_seg (λ v d o. refl) (λ v d o none. none) gone_seg_keeps

-- all that a job has taken is gone or back, and every processor has cleared
pub record IsDone (v : Seen) : Type 0 where
  pub book : KeepsBook v
  pub frames : frames_of_owner v.owner ≡ []
  pub cut : cut_of_owner v.owner ≡ []
  pub none : NoneDue (shown v)
  pub still : is_pending v.owner ≡ false

pub gone_done : (v : Seen) → HasGone v [] [] → IsDone v
gone_done v gone = assumption

pub idle_done : {v : Seen} → KeepsBook v → IsIdle v.owner → is_pending v.owner ≡ false → IsDone v
idle_done {v} k idle still = assumption (none_due (shown v) v.owner k.going_owned idle.waits, still)
