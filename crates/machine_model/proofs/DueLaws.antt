-- What goes is the owner's alone where its signal is given, a processor clears, and what went is gone or back.
use Rattle.machine_model.proofs.Basics.{◌≡◌, ◌≢◌, ℕ, Bool, true, false, cond, ◌||◌, eqb, List, ◌∷◌, Option, Some, None, inl, inr, refl, sym, ap, subst, ◌∙◌, eqb_tells, What, FrameUse, DescriptorUse, SomethingGoes, Custody, Seat, has, is_going_frame, is_going_descriptor, cleared, NoneDue, with_descriptor, answered_clear, IsOwned, IsShaped, AreDistinct, AreApart, has_cut, says, waits_for, is_cut_at, frames_of_owner, cut_of_owner, CutDescriptor, Owner, next_with_frame as with_frame, next_signalled as signalled, by_place, by_places, cut_at_tells}

-- nothing is due where the owner waits for nothing
pub none_due : (c : Custody) (o : Option Owner) → IsOwned c o → waits_for o ≡ None → NoneDue c
none_due c o k still d = by (c.seat d).due refl
  where
    by : (x : Option What) → (c.seat d).due ≡ x → x ≡ None
    by None e = refl
    by (Some w) e = cc (k.due d w e)

-- what a processor is to drop changes nothing of what goes
goes_same : (c e : Custody) → e.frame ≡ c.frame → e.descriptor ≡ c.descriptor → SomethingGoes c → SomethingGoes e
goes_same c e f d (inl g) = inl (record {
  at = g.at;
  going = cc;
})
goes_same c e f d (inr g) = inr (record {
  process = g.process;
  number = g.number;
  going = cc;
})

-- an owner that has said what it was to say, and waits for it
pub record HasSaid (o q : Option Owner) (w : What) : Type 0 where
  pub frames : frames_of_owner q ≡ frames_of_owner o
  pub cut : cut_of_owner q ≡ cut_of_owner o
  pub waits : waits_for q ≡ Some w
  pub says : says q ≡ None
  pub shaped : IsShaped q

-- the signal is given
pub owned_signal : {c : Custody} {o q : Option Owner} (d : ℕ) {w : What} → IsOwned c o → NoneDue c → SomethingGoes c
    → HasSaid o q w → IsOwned (signalled c d w) q
owned_signal {c} d {w} k none goes said = record {
  frames = λ f. cc (k.frames f);
  cuts = λ j n. cc (k.cuts j n);
  once = subst AreDistinct (sym said.frames) k.once;
  apart = subst AreApart (sym said.cut) k.apart;
  due = λ e v h. cc (due_is e v (eqb e d) (c.seat e).online h);
  alive = λ e v h. goes_same c (signalled c d w) refl refl goes;
  says = λ v h. cc;
  shaped = said.shaped;
}
  where
    due_is : (e : ℕ) (v : What) (b online : Bool)
        → (cond b (cleared c w (c.seat e)) (cond online (record (c.seat e) { due = Some w }) (c.seat e))).due ≡ Some v
        → w ≡ v
    due_is e v false true h = cc
    due_is e v _ _ h = cc (none e)

-- a processor clears
pub owned_clear : {c : Custody} {o : Option Owner} (d : ℕ) (w : What) → IsOwned c o → IsOwned (answered_clear c d w) o
owned_clear {c} d w k = record {
  frames = k.frames;
  cuts = k.cuts;
  once = k.once;
  apart = k.apart;
  due = λ e v h. k.due e v (was e v h);
  alive = λ e v h. goes_same c (answered_clear c d w) refl refl (k.alive e v (was e v h));
  says = λ v h. (let both = k.says v h in (
    goes_same c (answered_clear c d w) refl refl both.0,
    record {
      frames = both.1.frames;
      descriptors = both.1.descriptors;
    },
  ));
  shaped = k.shaped;
}
  where
    was : (e : ℕ) (v : What) → ((answered_clear c d w).seat e).due ≡ Some v → (c.seat e).due ≡ Some v
    was e v = by_place (λ (x : Seat). x.due ≡ Some v → (c.seat e).due ≡ Some v) c.seat d
        (record (cleared c w (c.seat d)) { due = None }) e (λ i h. cc) (λ n h. h)

-- ---- gone, or back

-- the owner goes on without the first of one of its lists, and with all of the other
pub record LeavesFirst {A B : Type 0} (list : Option Owner → List A) (other : Option Owner → List B)
    (o q : Option Owner) (x : A) : Type 0 where
  pub rest : List A
  pub first : list o ≡ x ∷ rest
  pub left : list q ≡ rest
  pub same : other q ≡ other o
  pub says : says q ≡ None
  pub shaped : IsShaped q

-- without the first frame that it took, and without the first descriptor that it cut
abbrev pub HasLeft : Option Owner → Option Owner → ℕ → Type 0
HasLeft o q f = LeavesFirst frames_of_owner cut_of_owner o q f

abbrev pub HasLeftCut : Option Owner → Option Owner → CutDescriptor → Type 0
HasLeftCut o q d = LeavesFirst cut_of_owner frames_of_owner o q d

head_not : (fs : List ℕ) (f g : ℕ) → g ≢ f → has (f ∷ fs) g ≡ has fs g
head_not fs f g h = elim (eqb_tells f g) [ inl e ↦ absurd (h (sym e.1)) | inr n ↦ ap (λ (b : Bool). b || has fs g) n.0 ]

-- the first frame is gone or back
pub owned_left : {c : Custody} {o q : Option Owner} {f : ℕ} (x : FrameUse) → IsOwned c o → NoneDue c → HasLeft o q f
    → is_going_frame x ≡ false → IsOwned (with_frame c f x) q
owned_left {c} {o} {q} {f} x k none left still = record {
  frames = λ g. by_place (λ (y : FrameUse). is_going_frame y ≡ has (frames_of_owner q) g) c.frame f x g
      (λ e. cc (still, e, left.left, once.0)) (λ n. cc (k.frames g, left.first, head_not left.rest f g n, left.left));
  cuts = λ j n. cc (k.cuts j n);
  once = subst AreDistinct (sym left.left) once.1;
  apart = subst AreApart (sym left.same) k.apart;
  due = λ e w h. cc (none e);
  alive = λ e w h. cc (none e);
  says = λ w h. cc;
  shaped = left.shaped;
}
  where
    once : (has left.rest f ≡ false) × AreDistinct left.rest
    once = subst AreDistinct left.first k.once

head_cut_not : (ds : List CutDescriptor) (d : CutDescriptor) (k n : ℕ) → (k ≡ d.process → n ≡ d.number → ⊥)
    → has_cut (d ∷ ds) k n ≡ has_cut ds k n
head_cut_not ds d k n h = by (is_cut_at k n d) refl
  where
    by : (b : Bool) → is_cut_at k n d ≡ b → (b || has_cut ds k n) ≡ has_cut ds k n
    by false e = refl
    by true e = let both = cut_at_tells k n d e in absurd (h both.0 both.1)

pub owned_left_cut : {c : Custody} {o : Option Owner} (q : Option Owner) (d : CutDescriptor) (x : DescriptorUse)
    → IsOwned c o → NoneDue c → HasLeftCut o q d → is_going_descriptor x ≡ false
    → IsOwned (with_descriptor c d.process d.number x) q
owned_left_cut {c} q d x k none left still = record {
  frames = λ g. cc (k.frames g);
  cuts = λ i j. by_places (λ (y : DescriptorUse). is_going_descriptor y
      ≡ has_cut (cut_of_owner q) i j) c.descriptor d.process d.number x i j
      (λ a b. still ∙ sym (ap (λ (ds : List CutDescriptor). has_cut ds i j) left.left ∙ rw (a, b) apart.0))
      (λ m. cc (k.cuts i j, left.first, head_cut_not left.rest d i j m, left.left));
  once = subst AreDistinct (sym left.same) k.once;
  apart = subst AreApart (sym left.left) apart.1;
  due = λ e w h. cc (none e);
  alive = λ e w h. cc (none e);
  says = λ w h. cc;
  shaped = left.shaped;
}
  where
    apart : (has_cut left.rest d.process d.number ≡ false) × AreApart left.rest
    apart = subst AreApart left.first k.apart
