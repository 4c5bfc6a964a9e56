-- What goes is the owner's alone, entry by entry.
use Rattle.machine_model.proofs.Prelude.{◌≡◌, ◌≢◌, ℕ, Bool, true, false, ◌||◌, eqb, List, [], ◌∷◌, ◌++◌, Option, Some, None, ◌⊎◌, inl, inr, refl, sym, ap, ◌∙◌, eqb_tells, list_any-append, What, FrameUse, DescriptorUse, SomethingGoes, NamesAllGoing, Custody, Seat, has, leads_to, is_going_frame, is_current_frame, is_going_descriptor, is_current_descriptor, names_frame, names_descriptor, with_descriptor, with_seat, Aim, IsOwned, IsShaped, IsAimed, AreDistinct, AreApart, has_cut, says, waits_for, is_cut_at, frames_of_owner, cut_of_owner, CutDescriptor, Owner, going_cut, going_taken, names_descriptor_same, names_same, not_both, What as what, FrameUse as frame, DescriptorUse as descriptor, custody_bound_page as bound_page, custody_taken as taken, custody_cut as cut, next_with_frame as with_frame, Phase as phase, false_from_ne_true, ◌+◌, ◌≤◌, cond, leb, map, filter, length, drop, arith, nat_tests, HeldPage, HeldSeg, filled, filled_in, at_put, at_put_two, AreHeldPages, AreHeldSegs, AreOfProcess, HoldsRight, AreUnderWay, Processor, or_parts, cond_both}
use Rattle.machine_model.proofs.Places.{by_place, by_places, put_here, put_two_here}
use Rattle.machine_model.proofs.TieLaws.{none_some}

-- ---- What processors hold agrees with frames and descriptors, where an entry is filled in or dropped, and where a
-- frame or a descriptor that nobody holds is used otherwise.

-- ---- a fill

module _ {A : Type 0} where
  map_push : (g : A → ℕ) (xs : List A) (x : A) → map g (xs ++ x ∷ []) ≡ map g xs ++ g x ∷ []
  map_push g [] x = refl
  map_push g (y ∷ ys) x = cc (map_push g ys x)

  map_rest : (g : A → ℕ) (xs : List A) → map g (drop 1 xs) ≡ drop 1 (map g xs)
  map_rest g [] = refl
  map_rest g (x ∷ xs) = refl

  map_length : (g : A → ℕ) (xs : List A) → length (map g xs) ≡ length xs
  map_length g [] = refl
  map_length g (x ∷ xs) = cc (map_length g xs)

  -- what custody sees of a fill into at most 16 places
  pub map_filled : (g : A → ℕ) (xs : List A) (x : A) → length xs ≤ 16 → map g (filled xs x) ≡ filled_in (map g xs) (g x)
  map_filled g xs x few = elim (eqb_tells (length xs) 16) [
    | inl e ↦ ap (λ (b : Bool). map g (cond b (drop 1 xs) xs ++ x ∷ [])) e.0
        ∙ (cc (map_push g (drop 1 xs) x, map_rest g xs, full e.1))
    | inr n ↦ ap (λ (b : Bool). map g (cond b (drop 1 xs) xs ++ x ∷ [])) n.0 ∙ (cc (map_push g xs x, room n.1))
  ]
    where
      full : length xs ≡ 16 → leb 16 (length (map g xs)) ≡ true
      full e = grind (arith, map_length g xs, nat_tests)

      room : length xs ≢ 16 → leb 16 (length (map g xs)) ≡ false
      room n = grind (arith, map_length g xs, nat_tests)

  length_push : (xs : List A) (x : A) → length (xs ++ x ∷ []) ≡ length xs + 1
  length_push [] x = refl
  length_push (y ∷ ys) x = omega (arith, length_push ys x)

  length_rest : (xs : List A) → length xs ≡ 16 → length (drop 1 xs) ≡ 15
  length_rest [] e = omega arith
  length_rest (x ∷ xs) e = omega arith

  pub filled_few : (xs : List A) (x : A) → length xs ≤ 16 → length (filled xs x) ≤ 16
  filled_few xs x few = elim (eqb_tells (length xs) 16) [
    | inl e ↦ let rest = length_rest xs e.1 in
        rw e.0 (omega (arith, (length_push (drop 1 xs) x)))
    | inr n ↦ let no = n.1 in
        rw n.0 (omega (arith, (length_push xs x)))
  ]

pages_push : (bound : ℕ → Option (ℕ × ℕ)) (es : List HeldPage) (e : HeldPage) → AreHeldPages bound es
    → bound e.frame ≡ Some (e.uid, e.page) → AreHeldPages bound (es ++ e ∷ [])
pages_push bound [] e held is = (is, tt)
pages_push bound (x ∷ xs) e held is = (held.0, pages_push bound xs e held.1 is)

pages_rest : (bound : ℕ → Option (ℕ × ℕ)) (es : List HeldPage) → AreHeldPages bound es → AreHeldPages bound (drop 1 es)
pages_rest bound [] held = tt
pages_rest bound (x ∷ xs) held = held.1

pub pages_filled : (bound : ℕ → Option (ℕ × ℕ)) (es : List HeldPage) (e : HeldPage) → AreHeldPages bound es
    → bound e.frame ≡ Some (e.uid, e.page) → AreHeldPages bound (filled es e)
pages_filled bound es e held is = pages_push bound _ e (cond_both (eqb (length es) 16) (drop 1 es) es
    (AreHeldPages bound) (λ i. pages_rest bound es held) (λ i. held)) is

segs_push : (descriptor : ℕ → ℕ → DescriptorUse) (k : ℕ) (es : List HeldSeg) (e : HeldSeg) → AreHeldSegs descriptor k es
    → leads_to (descriptor k e.number) ≡ Some e.uid → AreHeldSegs descriptor k (es ++ e ∷ [])
segs_push descriptor k [] e held is = (is, tt)
segs_push descriptor k (x ∷ xs) e held is = (held.0, segs_push descriptor k xs e held.1 is)

segs_rest : (descriptor : ℕ → ℕ → DescriptorUse) (k : ℕ) (es : List HeldSeg) → AreHeldSegs descriptor k es
    → AreHeldSegs descriptor k (drop 1 es)
segs_rest descriptor k [] held = tt
segs_rest descriptor k (x ∷ xs) held = held.1

pub segs_filled : (descriptor : ℕ → ℕ → DescriptorUse) (k : ℕ) (es : List HeldSeg) (e : HeldSeg)
    → AreHeldSegs descriptor k es
    → leads_to (descriptor k e.number) ≡ Some e.uid → AreHeldSegs descriptor k (filled es e)
segs_filled descriptor k es e held is = segs_push descriptor k _ e (cond_both (eqb (length es) 16) (drop 1 es) es
    (AreHeldSegs descriptor k) (λ i. segs_rest descriptor k es held) (λ i. held)) is

-- ---- what is dropped

pub pages_kept : (bound : ℕ → Option (ℕ × ℕ)) (p : HeldPage → Bool) (es : List HeldPage) → AreHeldPages bound es
    → AreHeldPages bound (filter p es)
pages_kept bound p [] held = tt
pages_kept bound p (e ∷ es) held = by (pages_kept bound p es held.1) (p e)
  where
    by : AreHeldPages bound (filter p es) → (b : Bool) → AreHeldPages bound (cond b (e ∷ filter p es) (filter p es))
    by rest true = (held.0, rest)
    by rest false = rest

pub segs_kept : (descriptor : ℕ → ℕ → DescriptorUse) (k : ℕ) (p : HeldSeg → Bool) (es : List HeldSeg)
    → AreHeldSegs descriptor k es → AreHeldSegs descriptor k (filter p es)
segs_kept descriptor k p [] held = tt
segs_kept descriptor k p (e ∷ es) held = by (segs_kept descriptor k p es held.1) (p e)
  where
    by : AreHeldSegs descriptor k (filter p es) → (b : Bool)
        → AreHeldSegs descriptor k (cond b (e ∷ filter p es) (filter p es))
    by rest true = (held.0, rest)
    by rest false = rest

-- what custody sees of one entry more that is kept or not
pub kept_step : {A : Type 0} (g : A → ℕ) (p : A → Bool) (q : ℕ → Bool) (x : A) (xs : List A)
    → map g (filter p xs) ≡ filter q (map g xs) → (a b : Bool)
    → b ≡ a → map g (cond a (x ∷ filter p xs) (filter p xs)) ≡ cond b (g x ∷ filter q (map g xs)) (filter q (map g xs))
kept_step g p q x xs rest false false e = rest
kept_step g p q x xs rest _ _ e = cc

-- ---- a frame or a descriptor that nobody holds

pub pages_elsewhere : (bound : ℕ → Option (ℕ × ℕ)) (f : ℕ) (x : Option (ℕ × ℕ)) (es : List HeldPage)
    → has (map (λ e. e.frame) es) f ≡ false → AreHeldPages bound es → AreHeldPages (at_put bound f x) es
pages_elsewhere bound f x [] none held = tt
pages_elsewhere bound f x (e ∷ es) none held =
    let parts = or_parts (eqb e.frame f) (has (map (λ e. e.frame) es) f) none in (
      by_place (λ (y : Option (ℕ × ℕ)). y ≡ Some (e.uid, e.page)) bound f x e.frame
          (λ i. absurd (grind (arith, nat_tests))) (λ n. held.0),
      pages_elsewhere bound f x es parts.1 held.1,
    )

pub segs_elsewhere : (descriptor : ℕ → ℕ → DescriptorUse) (k n : ℕ) (x : DescriptorUse) (j : ℕ) (es : List HeldSeg)
    → (j ≡ k → has (map (λ e. e.number) es) n ≡ false) → AreHeldSegs descriptor j es
    → AreHeldSegs (at_put_two descriptor k n x) j es
segs_elsewhere descriptor k n x j [] none held = tt
segs_elsewhere descriptor k n x j (e ∷ es) none held = (
  by_places (λ (y : DescriptorUse). leads_to y ≡ Some e.uid) descriptor k n x j e.number
      (λ a b. absurd (let no = (or_parts (eqb e.number n) (has (map (λ e. e.number) es) n) (none a)).0 in
      grind (arith, nat_tests))) (λ m. held.0),
  segs_elsewhere descriptor k n x j es (λ i.
      (or_parts (eqb e.number n) (has (map (λ e. e.number) es) n) (none i)).1) held.1,
)

-- a processor that holds the same for the same process
pub right_like : {bound : ℕ → Option (ℕ × ℕ)} {descriptor : ℕ → ℕ → DescriptorUse} (p q : Processor)
    → HoldsRight bound descriptor p → q.cpu.assoc ≡ p.cpu.assoc → q.cpu.process ≡ p.cpu.process
    → ((w : What) → q.cpu.due ≡ Some w → q.cpu.online ≡ true) → HoldsRight bound descriptor q
right_like {bound} {descriptor} p q was assoc process warned = record {
  pages = rw assoc was.pages;
  segs = rw (process, assoc) was.segs;
  few_pages = rw assoc was.few_pages;
  few_segs = rw assoc was.few_segs;
  warned = warned;
}

-- the same descriptors as far as what they lead to
segs_alike : (old new : ℕ → ℕ → DescriptorUse) (k : ℕ) (es : List HeldSeg)
    → ((n : ℕ) → leads_to (new k n) ≡ leads_to (old k n)) → AreHeldSegs old k es → AreHeldSegs new k es
segs_alike old new k [] same held = tt
segs_alike old new k (e ∷ es) same held = (same e.number ∙ held.0, segs_alike old new k es same held.1)

pub right_alike : {bound : ℕ → Option (ℕ × ℕ)} {old : ℕ → ℕ → DescriptorUse} (new : ℕ → ℕ → DescriptorUse)
    {p : Processor} → ((k n : ℕ) → leads_to (new k n) ≡ leads_to (old k n)) → HoldsRight bound old p
    → HoldsRight bound new p
right_alike {bound} {old} new {p} same right = assumption (by p.cpu.process right.segs)
  where
    by : (o : Option ℕ) → AreOfProcess old o p.cpu.assoc.segs → AreOfProcess new o p.cpu.assoc.segs
    by None h = h
    by (Some k) h = segs_alike old new k p.cpu.assoc.segs (same k) h

pub right_frame : (bound : ℕ → Option (ℕ × ℕ)) (descriptor : ℕ → ℕ → DescriptorUse) (f : ℕ) (x : Option (ℕ × ℕ))
    (p : Processor) → has (map (λ e. e.frame) p.cpu.assoc.pages) f ≡ false → HoldsRight bound descriptor p
    → HoldsRight (at_put bound f x) descriptor p
right_frame bound descriptor f x p none right = assumption (pages_elsewhere bound f x p.cpu.assoc.pages none
    right.pages)

pub right_descriptor : {bound : ℕ → Option (ℕ × ℕ)} {descriptor : ℕ → ℕ → DescriptorUse} (k n : ℕ) (x : DescriptorUse)
    {p : Processor} → (p.cpu.process ≡ Some k → has (map (λ e. e.number) p.cpu.assoc.segs) n ≡ false)
    → HoldsRight bound descriptor p → HoldsRight bound (at_put_two descriptor k n x) p
right_descriptor {bound} {descriptor} k n x {p} none right = assumption (by p.cpu.process refl right.segs)
  where
    by : (o : Option ℕ) → p.cpu.process ≡ o → AreOfProcess descriptor o p.cpu.assoc.segs
        → AreOfProcess (at_put_two descriptor k n x) o p.cpu.assoc.segs
    by None e h = h
    by (Some j) e h = segs_elsewhere descriptor k n x j p.cpu.assoc.segs (λ i. none (cc)) h

-- transfers are under way as before
pub under_way_alike : {reads : ℕ → Option (ℕ × ℕ)} {old : ℕ → Processor} (new : ℕ → Processor)
    → ((d : ℕ) → (new d).cpu.transfer ≡ (old d).cpu.transfer) → AreUnderWay reads old → AreUnderWay reads new
under_way_alike new same k = record {
  reading = λ d t h. k.reading d t (sym (same d) ∙ h);
  reader = λ f u p h. (let r = k.reader f u p h in (r.0, same r.0 ∙ r.1));
  alone = λ d e t v h i. k.alone d e t v (sym (same d) ∙ h) (sym (same e) ∙ i);
}

-- ---- what goes stays as it is

-- Each frame and each descriptor is used as before, or was not going and isn't; each processor is to drop what it was.
pub record IsLike (c e : Custody) : Type 0 where
  pub frames : (f : ℕ) → (e.frame f ≡ c.frame f)
      ⊎ ((is_going_frame (e.frame f) ≡ false) × (is_going_frame (c.frame f) ≡ false))
  pub descriptors : (k n : ℕ) → (e.descriptor k n ≡ c.descriptor k n)
      ⊎ ((is_going_descriptor (e.descriptor k n) ≡ false) × (is_going_descriptor (c.descriptor k n) ≡ false))
  pub due : (d : ℕ) → (e.seat d).due ≡ (c.seat d).due

module _ {c e : Custody} (like : IsLike c e) where
  frame_like : (f : ℕ) → is_going_frame (e.frame f) ≡ is_going_frame (c.frame f)
  frame_like f = elim (like.frames f) [ inl i ↦ ap is_going_frame i | inr i ↦ i.0 ∙ sym i.1 ]

  descriptor_like : (k n : ℕ) → is_going_descriptor (e.descriptor k n) ≡ is_going_descriptor (c.descriptor k n)
  descriptor_like k n = elim (like.descriptors k n) [ inl i ↦ ap is_going_descriptor i | inr i ↦ i.0 ∙ sym i.1 ]

  going_like : SomethingGoes c → SomethingGoes e
  going_like (inl g) = inl (record { at = g.at; going = frame_like g.at ∙ g.going })
  going_like (inr g) = inr (record {
    process = g.process;
    number = g.number;
    going = descriptor_like g.process g.number ∙ g.going;
  })

  names_frame_like : (w : What) (f : ℕ) → e.frame f ≡ c.frame f → names_frame e w f ≡ names_frame c w f
  names_frame_like (what.Seg u) f h = cc
  names_frame_like _ f h = refl

  names_descriptor_like : (w : What) (k n : ℕ) → e.descriptor k n ≡ c.descriptor k n
      → names_descriptor e w k n ≡ names_descriptor c w k n
  names_descriptor_like (what.Seg u) k n h = cc
  names_descriptor_like _ k n h = refl

  pub all_like : {w : What} → NamesAllGoing c w → NamesAllGoing e w
  all_like {w} all = record {
    frames = λ f h. elim (like.frames f) [
      | inl i ↦
          names_frame_like w f i ∙ all.frames f (sym (frame_like f) ∙ h)
      | inr i ↦ absurd (not_both h i.0)
    ];
    descriptors = λ k n h. elim (like.descriptors k n) [
      | inl i ↦ names_descriptor_like w k n i ∙ all.descriptors k n (sym (descriptor_like k n) ∙ h)
      | inr i ↦ absurd (not_both h i.0)
    ];
  }

  pub owned_like : {o : Option Owner} → IsOwned c o → IsOwned e o
  owned_like k = record {
    frames = λ f. frame_like f ∙ k.frames f;
    cuts = λ p n. descriptor_like p n ∙ k.cuts p n;
    once = k.once;
    apart = k.apart;
    due = λ d w h. k.due d w (sym (like.due d) ∙ h);
    alive = λ d w h. going_like (k.alive d w (sym (like.due d) ∙ h));
    says = λ w h. (let both = k.says w h in (going_like both.0, all_like both.1));
    shaped = k.shaped;
  }

-- one frame that wasn't going is used otherwise, and isn't going
pub like_frame : (c : Custody) (f : ℕ) (x : FrameUse) → is_going_frame (c.frame f) ≡ false → is_going_frame x ≡ false
    → IsLike c (with_frame c f x)
like_frame c f x was now = record {
  frames = λ g. by_place (λ (y : FrameUse). (y ≡ c.frame g)
      ⊎ ((is_going_frame y ≡ false) × (is_going_frame (c.frame g) ≡ false))) c.frame f x g
      (λ e. inr (now, rw e was)) (λ n. inl refl);
  descriptors = λ k n. inl refl;
  due = λ d. refl;
}

pub like_descriptor : (c : Custody) (k n : ℕ) (x : DescriptorUse) → is_going_descriptor (c.descriptor k n) ≡ false
    → is_going_descriptor x ≡ false → IsLike c (with_descriptor c k n x)
like_descriptor c k n x was now = record {
  frames = λ g. inl refl;
  descriptors = λ i j. by_places (λ (y : DescriptorUse). (y ≡ c.descriptor i j) ⊎ ((is_going_descriptor y ≡ false)
      × (is_going_descriptor (c.descriptor i j) ≡ false))) c.descriptor k n x i j
      (λ a b. inr (now, rw (a, b) was)) (λ m. inl refl);
  due = λ d. refl;
}

-- one processor is otherwise, and is to drop the same; so is the ready list, and what is active
pub like_seat : (c : Custody) (d : ℕ) (s : Seat) (ready : List ℕ) → s.due ≡ (c.seat d).due
    → IsLike c (record (with_seat c d s) { ready = ready })
like_seat c d s ready same = record {
  frames = λ g. inl refl;
  descriptors = λ k n. inl refl;
  due = λ e. by_place (λ (x : Seat). x.due ≡ (c.seat e).due) c.seat d s e (λ i. cc) (λ n. refl);
}

pub like_active : (c : Custody) (active : ℕ → Bool) → IsLike c (record c { active = active })
like_active c active = record { frames = λ g. inl refl; descriptors = λ k n. inl refl; due = λ d. refl }

-- ---- the owner alone changes

-- an owner, or none, that has taken nothing and waits for nothing
pub record IsIdle (o : Option Owner) : Type 0 where
  pub frames : frames_of_owner o ≡ []
  pub cut : cut_of_owner o ≡ []
  pub waits : waits_for o ≡ None
  pub says : says o ≡ None
  pub shaped : IsShaped o

pub nobody : IsIdle None
nobody = assumption

pub owned_idle : {c : Custody} {o q : Option Owner} → IsOwned c o → IsIdle o → IsIdle q → IsOwned c q
owned_idle k was now = record {
  frames = λ f. cc (k.frames f);
  cuts = λ p n. cc (k.cuts p n);
  once = rw now.frames tt;
  apart = rw now.cut tt;
  due = λ d w h. cc (k.due d w h);
  alive = λ d w h. cc (k.due d w h);
  says = λ w h. cc;
  shaped = now.shaped;
}

-- ---- something is taken

or_true : (b : Bool) → (b || (true || false)) ≡ true
or_true true = refl
or_true false = refl

or_false : (b : Bool) → (b || (false || false)) ≡ b
or_false true = refl
or_false false = refl

-- a list with one more
pub has_push : (fs : List ℕ) (f g : ℕ) → has (fs ++ f ∷ []) g ≡ (has fs g || (eqb f g || false))
has_push fs f g = list_any-append (λ y. eqb y g) fs (f ∷ [])

pub push_same : (fs : List ℕ) (f : ℕ) → has (fs ++ f ∷ []) f ≡ true
push_same fs f = elim (eqb_tells f f) [
  | inl e ↦ has_push fs f f ∙ ap (λ (b : Bool). has fs f || (b || false)) e.0 ∙ or_true (has fs f)
  | inr n ↦ absurd (n.1 refl)
]

pub push_other : (fs : List ℕ) (f g : ℕ) → g ≢ f → has (fs ++ f ∷ []) g ≡ has fs g
push_other fs f g h = elim (eqb_tells f g) [
  | inl e ↦ absurd (h (sym e.1))
  | inr n ↦ has_push fs f g ∙ ap (λ (b : Bool). has fs g || (b || false)) n.0 ∙ or_false (has fs g)
]

pub distinct_push : (fs : List ℕ) (f : ℕ) → AreDistinct fs → has fs f ≡ false → AreDistinct (fs ++ f ∷ [])
distinct_push [] f once new = (refl, tt)
distinct_push (g ∷ gs) f once new = elim (eqb_tells g f) [
  | inl e ↦ absurd (not_both (cc) new)
  | inr n ↦ (
    push_other gs f g n.1 ∙ once.0,
    distinct_push gs f once.1 (cc),
  )
]

bound_taken : (x : FrameUse) → bound_page (taken x) ≡ bound_page x
bound_taken frame.Free = refl
bound_taken _ = refl

pub current_is_not_going : (x : FrameUse) → is_current_frame x ≡ true → is_going_frame x ≡ false
current_is_not_going (frame.Going u p) h = cc
current_is_not_going _ h = refl

names_taken : (c : Custody) (f : ℕ) (w : What) (g : ℕ)
    → names_frame (with_frame c f (taken (c.frame f))) w g ≡ names_frame c w g
names_taken c f (what.Seg u) g = cc (by_place (λ (y : FrameUse). bound_page y ≡ bound_page (c.frame g)) c.frame f
    (taken (c.frame f)) g (λ e. cc (bound_taken (c.frame f))) (λ n. refl))
names_taken c f _ g = refl

-- an owner that waited for nothing has taken more: it is to signal something that names all that goes then
owned_by : {c made : Custody} {o : Option Owner} (cpu : ℕ) (aim : Aim) {w : What} (fs : List ℕ)
    (ds : List CutDescriptor) → IsOwned c o → waits_for o ≡ None → made.seat ≡ c.seat
    → ((f : ℕ) → is_going_frame (made.frame f) ≡ has fs f)
    → ((k n : ℕ) → is_going_descriptor (made.descriptor k n) ≡ has_cut ds k n) → AreDistinct fs → AreApart ds
    → SomethingGoes made → NamesAllGoing made w → IsAimed aim w fs ds
    → IsOwned made (Some (record { cpu = cpu; phase = phase.Taken aim w; frames = fs; cut = ds }))
owned_by {c} {made} cpu aim {w} fs ds k still seats frames cuts once apart goes all aimed = record {
  frames = frames;
  cuts = cuts;
  once = once;
  apart = apart;
  due = λ d v h. absurd (none_due d v h);
  alive = λ d v h. absurd (none_due d v h);
  says = λ v h. (let same : w ≡ v = cc in rw (← same) (goes, all));
  shaped = aimed;
}
  where
    none_due : (d : ℕ) (v : What) → (made.seat d).due ≡ Some v → ⊥
    none_due d v h = none_some (sym still ∙ k.due d v ((λ i. (sym seats i d).due) ∙ h))

-- a page is taken: the owner is to signal something that names it, and all that went before
pub owned_take : {c : Custody} {o : Option Owner} (cpu f : ℕ) (aim : Aim) {w : What} → IsOwned c o
    → is_current_frame (c.frame f) ≡ true → waits_for o ≡ None → NamesAllGoing c w → names_frame c w f ≡ true
    → IsAimed aim w (frames_of_owner o ++ f ∷ []) (cut_of_owner o)
    → IsOwned (with_frame c f (taken (c.frame f)))
    (Some (record { cpu = cpu; phase = phase.Taken aim w; frames = frames_of_owner o ++ f ∷ []; cut = cut_of_owner o }))
owned_take {c} {o} cpu f aim {w} k current still others this aimed =
    owned_by cpu aim (fs ++ f ∷ []) (cut_of_owner o) k still refl
    (λ g. by_place (λ (x : FrameUse). is_going_frame x ≡ has (fs ++ f ∷ []) g) c.frame f (taken (c.frame f)) g
    (λ e. cc (going_taken (c.frame f) current, push_same fs f)) (λ n. k.frames g ∙ sym (push_other fs f g n))) k.cuts
    (distinct_push fs f k.once (sym (k.frames f) ∙ current_is_not_going (c.frame f) current)) k.apart goes all aimed
  where
    fs : List ℕ
    fs = frames_of_owner o

    made : Custody
    made = with_frame c f (taken (c.frame f))

    goes : SomethingGoes made
    goes = inl (record {
      at = f;
      going =
          (cc (put_here c.frame f (taken (c.frame f)), going_taken (c.frame f) current));
    })

    named : (g : ℕ) → is_going_frame (made.frame g) ≡ true → names_frame c w g ≡ true
    named g = by_place (λ (x : FrameUse). is_going_frame x ≡ true → names_frame c w g ≡ true) c.frame f
        (taken (c.frame f)) g (λ e h. cc) (λ n h. others.frames g h)

    all : NamesAllGoing made w
    all = record {
      frames = λ g h. names_taken c f w g ∙ named g h;
      descriptors = λ j n h. names_descriptor_same c made w j n refl ∙ others.descriptors j n h;
    }

-- ---- descriptors

cut_push : (ds : List CutDescriptor) (d : CutDescriptor) (k n : ℕ)
    → has_cut (ds ++ d ∷ []) k n ≡ (has_cut ds k n || (is_cut_at k n d || false))
cut_push ds d k n = list_any-append (is_cut_at k n) ds (d ∷ [])

pub cut_at_same : (d : CutDescriptor) → is_cut_at d.process d.number d ≡ true
cut_at_same d = elim (eqb_tells d.process d.process) [
  | inl e ↦ elim (eqb_tells d.number d.number) [ inl i ↦ rw (e.0, i.0) refl | inr n ↦ absurd (n.1 refl) ]
  | inr n ↦ absurd (n.1 refl)
]

pub cut_at_tells : (k n : ℕ) (d : CutDescriptor) → is_cut_at k n d ≡ true → (k ≡ d.process) × (n ≡ d.number)
cut_at_tells k n d h = elim (eqb_tells d.process k) [
  | inl e ↦ elim (eqb_tells d.number n)
      [ inl i ↦ (sym e.1, sym i.1) | inr m ↦ absurd (not_both h (rw (e.0, m.0) refl)) ]
  | inr m ↦ absurd (not_both h (rw m.0 refl))
]

pub cut_at_other : (k n : ℕ) (d : CutDescriptor) → (k ≡ d.process → n ≡ d.number → ⊥) → is_cut_at k n d ≡ false
cut_at_other k n d h = false_from_ne_true (is_cut_at k n d) (λ e. (let both = cut_at_tells k n d e in h both.0 both.1))

cut_push_same : (ds : List CutDescriptor) (d : CutDescriptor) → has_cut (ds ++ d ∷ []) d.process d.number ≡ true
cut_push_same ds d = cc (cut_push ds d d.process d.number, cut_at_same d, or_true (has_cut ds d.process d.number))

cut_push_other : (ds : List CutDescriptor) (d : CutDescriptor) (k n : ℕ) → (k ≡ d.process → n ≡ d.number → ⊥)
    → has_cut (ds ++ d ∷ []) k n ≡ has_cut ds k n
cut_push_other ds d k n h = cc (cut_push ds d k n, cut_at_other k n d h, or_false (has_cut ds k n))

apart_push : (ds : List CutDescriptor) (d : CutDescriptor) → AreApart ds → has_cut ds d.process d.number ≡ false
    → AreApart (ds ++ d ∷ [])
apart_push [] d apart new = (refl, tt)
apart_push (x ∷ xs) d apart new = (
  cut_push_other xs d x.process x.number not_it ∙ apart.0,
  apart_push xs d apart.1 both.1,
)
  where
    by : (b : Bool) → is_cut_at d.process d.number x ≡ b → (b || has_cut xs d.process d.number) ≡ false
        → (is_cut_at d.process d.number x ≡ false) × (has_cut xs d.process d.number ≡ false)
    by true e h = cc
    by false e h = (e, h)

    both : (is_cut_at d.process d.number x ≡ false) × (has_cut xs d.process d.number ≡ false)
    both = by (is_cut_at d.process d.number x) refl new

    not_it : x.process ≡ d.process → x.number ≡ d.number → ⊥
    not_it a b = not_both (cc (cut_at_same x)) both.0

pub leads_cut : (x : DescriptorUse) → leads_to (cut x) ≡ leads_to x
leads_cut descriptor.Free = refl
leads_cut _ = refl

pub current_descriptor_is_not_going : (x : DescriptorUse) → is_current_descriptor x ≡ true
    → is_going_descriptor x ≡ false
current_descriptor_is_not_going (descriptor.Going u) h = cc
current_descriptor_is_not_going _ h = refl

names_cut : (c : Custody) (k n : ℕ) (w : What) (i j : ℕ)
    → names_descriptor (with_descriptor c k n (cut (c.descriptor k n))) w i j ≡ names_descriptor c w i j
names_cut c k n (what.Seg u) i j = rw (by_places (λ (y : DescriptorUse). leads_to y ≡ leads_to (c.descriptor i j))
    c.descriptor k n (cut (c.descriptor k n)) i j (λ a b. leads_cut (c.descriptor k n) ∙ rw (a, b) refl) (λ m. refl))
names_cut c k n _ i j = refl

-- a descriptor is cut
pub owned_cut : {c : Custody} {o : Option Owner} (cpu : ℕ) (d : CutDescriptor) (aim : Aim) {w : What} → IsOwned c o
    → is_current_descriptor (c.descriptor d.process d.number) ≡ true → waits_for o ≡ None → NamesAllGoing c w
    → names_descriptor c w d.process d.number ≡ true → IsAimed aim w (frames_of_owner o) (cut_of_owner o ++ d ∷ [])
    → IsOwned (with_descriptor c d.process d.number (cut (c.descriptor d.process d.number)))
    (Some (record { cpu = cpu; phase = phase.Taken aim w; frames = frames_of_owner o; cut = cut_of_owner o ++ d ∷ [] }))
owned_cut {c} {o} cpu d aim {w} k current still others this aimed =
    owned_by cpu aim (frames_of_owner o) (ds ++ d ∷ []) k still refl k.frames
    (λ i j. by_places (λ (x : DescriptorUse). is_going_descriptor x ≡ has_cut (ds ++ d ∷ []) i j) c.descriptor
    d.process d.number (cut (c.descriptor d.process d.number)) i j
    (λ a b. going_cut (c.descriptor d.process d.number) current ∙ sym (rw (a, b) (cut_push_same ds d)))
    (λ m. k.cuts i j ∙ sym (cut_push_other ds d i j m))) k.once
    (apart_push ds d k.apart (sym (k.cuts d.process d.number)
    ∙ current_descriptor_is_not_going (c.descriptor d.process d.number) current)) goes all aimed
  where
    ds : List CutDescriptor
    ds = cut_of_owner o

    made : Custody
    made = with_descriptor c d.process d.number (cut (c.descriptor d.process d.number))

    here : is_going_descriptor (made.descriptor d.process d.number) ≡ true
    here = cc (
      put_two_here c.descriptor d.process d.number (cut (c.descriptor d.process d.number)),
      going_cut (c.descriptor d.process d.number) current,
    )

    goes : SomethingGoes made
    goes = inr (record { process = d.process; number = d.number; going = here })

    named : (i j : ℕ) → is_going_descriptor (made.descriptor i j) ≡ true → names_descriptor c w i j ≡ true
    named i j = by_places (λ (x : DescriptorUse). is_going_descriptor x ≡ true
        → names_descriptor c w i j ≡ true) c.descriptor d.process d.number
        (cut (c.descriptor d.process d.number)) i j (λ a b h. rw (a, b) this) (λ m h. others.descriptors i j h)

    all : NamesAllGoing made w
    all = record {
      frames = λ g h. names_same c made w g refl ∙ others.frames g h;
      descriptors = λ i j h. names_cut c d.process d.number w i j ∙ named i j h;
    }
