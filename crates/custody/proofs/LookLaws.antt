-- What counts tell of each element of a list, as a scan of it would.
use Rattle.std.proofs.lemmas.Grind.{common_steps}
use Rattle.custody.proofs.Prelude.{◌≡◌, ◌≢◌, ℕ, suc, zero, ◌+◌, Bool, true, false, not, cond, eqb, ltb, ◌&&◌, List, [], ◌∷◌, Option, Some, None, get_or, set, refl, sym, ap, ◌∙◌, inl, inr, arith, sum_by, list_any, Decides, is_some, nat_tests, eqb_tells, sum_by-cons, get_or-set_other, page_of, bound_page, uid_of_page, is_uid, is_going_frame, is_going_descriptor, leads_to, FrameUse, DescriptorUse, Counted, count_at, key_bit, AreActive, active_at, is_in_pool, pool_key, superior_of, ActiveUse, UseCounted, AreFrames, AreDescriptors, frame_at, descriptor_at, frame_mark, descriptor_mark, uid_key, going_key, kind_key, page_key, page_number, started_key, not_both}
use Rattle.std.proofs.lemmas.Bool.{cases_Bool}
use Rattle.std.specs.Prelude.{count_by}
use Rattle.custody_model.specs.declared.FrameUse.TheVariants as frame
use Rattle.custody_model.specs.declared.DescriptorUse.TheVariants as descriptor
use Rattle.custody.proofs.ScanLaws.{bool_decides, else_decides, find, found, scan_decides, uid_decides}

-- ---- counts and scans

count-cons : {X : Type 0} (p : X → Bool) (x : X) (xs : List X)
    → count_by p (x ∷ xs) ≡ cond {A = ℕ} (p x) 1 0 + count_by p xs
count-cons p = sum_by-cons (λ x. cond (p x) 1 0)

-- nothing is counted where a scan finds nothing
none_counted : {X : Type 0} (p : X → Bool) (xs : List X) → eqb (count_by p xs) 0 ≡ not (list_any p xs)
none_counted p [] = refl
none_counted p (x ∷ xs) =
    let all = count-cons p x xs in
    elim (cases_Bool (p x)) [
      | inl is ↦
          (let one : cond {A = ℕ} (p x) 1 0 ≡ 1 = rw is refl in
          let some : eqb (count_by p (x ∷ xs)) 0 ≡ false = grind (arith, nat_tests) in
          rw (some, is) refl)
      | inr isnt ↦
          (let none : cond {A = ℕ} (p x) 1 0 ≡ 0 = rw isnt refl in
          let same : count_by p (x ∷ xs) ≡ count_by p xs = omega (arith, all) in
          rw (same, isnt) (none_counted p xs))
    ]

some_counted : {X : Type 0} (p : X → Bool) (xs : List X) → ltb 0 (count_by p xs) ≡ list_any p xs
some_counted p xs = grind (arith, nat_tests, common_steps, none_counted p xs)

-- as much is counted of two where nothing is that the second has more
sum_both : {X : Type 0} (f g : X → ℕ) (xs : List X) → sum_by (λ x. f x + g x) xs ≡ sum_by f xs + sum_by g xs
sum_both f g [] = refl
sum_both f g (x ∷ xs) = grind (arith, nat_tests, common_steps, sum_both f g xs, sum_by-cons f x xs, sum_by-cons g x xs)

none_more : {X : Type 0} (f g : X → ℕ) (p : X → Bool) → ((x : X) → g x ≡ f x + cond {A = ℕ} (p x) 1 0) → (xs : List X)
    → eqb (sum_by f xs) (sum_by g xs) ≡ not (list_any p xs)
none_more f g p more xs =
    let all : sum_by g xs ≡ sum_by f xs + count_by p xs =
    (λ i. sum_by (λ x. more x i) xs) ∙ sum_both f (λ x. cond (p x) 1 0) xs in
    let same : eqb (sum_by f xs) (sum_by g xs) ≡ eqb (count_by p xs) 0 = grind (arith, nat_tests) in
    same ∙ none_counted p xs

-- ---- what a test of counts decides

pub none_decides : {X : Type 0} (p : X → Bool) (P : X → Type 0) (d : X) → p d ≡ false
    → ((x : X) → Decides (not (p x)) (P x)) → (xs : List X) {n : ℕ} → n ≡ count_by p xs
    → Decides (eqb n 0) ((i : ℕ) → P (get_or xs i d))
none_decides p P d off each xs is = rw (is, none_counted p xs) (scan_decides p P d off each xs (list_any p xs) refl)

-- what is counted under one key
bit_is : (o : Option ℕ) (u : ℕ) → key_bit o u ≡ cond {A = ℕ} (is_uid u o) 1 0
bit_is None u = refl
bit_is (Some v) u = refl

key_decides : {X : Type 0} (key : X → Option ℕ) (d : X) → key d ≡ None → (xs : List X) {n : ℕ} (u : ℕ)
    → n ≡ sum_by (λ x. key_bit (key x) u) xs → Decides (eqb n 0) ((i : ℕ) → key (get_or xs i d) ≢ Some u)
key_decides key d none xs u is = none_decides (λ x. is_uid u (key x)) (λ x. key x ≢ Some u) d (rw none refl)
    (λ x. uid_decides u (key x)) xs (is ∙ (λ i. sum_by (λ x. bit_is (key x) u i) xs))

-- nothing is counted but at one place
without_one : {X : Type 0} (p : X → Bool) (d : X) → p d ≡ false → (xs : List X) (i : ℕ)
    → count_by p (set xs i d) + cond {A = ℕ} (p (get_or xs i d)) 1 0 ≡ count_by p xs
without_one p d off [] i = rw off refl
without_one p d off (x ∷ xs) zero = rw (count-cons p d xs, count-cons p x xs, off) (omega arith)
without_one p d off (x ∷ xs) (suc i) =
    let ih = without_one p d off xs i in rw (count-cons p x (set xs i d), count-cons p x xs) (omega (arith, ih))

set_back : {X : Type 0} (xs : List X) (i : ℕ) (d : X) → get_or (set xs i d) i d ≡ d
set_back [] i d = refl
set_back (x ∷ xs) zero d = refl
set_back (x ∷ xs) (suc i) d = set_back xs i d

only_decides : {X : Type 0} (p : X → Bool) (d : X) → p d ≡ false → (xs : List X) {n m : ℕ} (at : ℕ)
    → n ≡ count_by p xs → m ≡ cond {A = ℕ} (p (get_or xs at d)) 1 0
    → Decides (eqb n m) ((i : ℕ) → p (get_or xs i d) ≡ true → eqb i at ≡ true)
only_decides p d off xs {n} {m} at is here =
    let all = without_one p d off xs at in
    let same : eqb n m ≡ eqb (count_by p (set xs at d)) 0 = grind (arith, nat_tests) in
    let only = scan_decides p (λ x. p x ≡ false) d off (λ x. bool_decides (p x)) (set xs at d) _ refl in
    rw (same, none_counted p (set xs at d)) (
      λ t i goes. elim (eqb_tells i at) [
        | inl s ↦ s.0
        | inr s ↦ absurd (not_both goes (rw (get_or-set_other xs at i d d s.1) at (only.0 t i)))
      ],
      λ h. only.1 (λ i. elim (eqb_tells i at) [
        | inl s ↦ rw (s.1, set_back xs at d) off
        | inr s ↦ rw (get_or-set_other xs at i d d s.1) (elim (cases_Bool (p (get_or xs i d))) [
          | inl goes ↦ absurd (not_both (h i goes) s.0)
          | inr stays ↦ stays
        ])
      ]),
    )

-- ---- frames

frame_uid : (x : FrameUse) → uid_key (frame_mark x) ≡ uid_of_page (page_of x)
frame_uid frame.Free = refl
frame_uid (frame.Started v q) = refl
frame_uid (frame.Current v q) = refl
frame_uid (frame.Going v q) = refl

frame_kind : (x : FrameUse) → key_bit (kind_key (frame_mark x)) 1 ≡ cond {A = ℕ} (is_going_frame x) 1 0
frame_kind frame.Free = refl
frame_kind (frame.Started v q) = refl
frame_kind (frame.Current v q) = refl
frame_kind (frame.Going v q) = refl

either_bit : (b : Bool) → 1 ≡ cond {A = ℕ} b 1 0 + cond {A = ℕ} (not b) 1 0
either_bit true = refl
either_bit false = refl

frame_else : (u : ℕ) (x : FrameUse) → key_bit (kind_key (frame_mark x)) 1 ≡ key_bit (going_key (frame_mark x)) u
    + cond {A = ℕ} (is_going_frame x && not (is_uid u (uid_of_page (bound_page x)))) 1 0
frame_else u frame.Free = refl
frame_else u (frame.Started v q) = refl
frame_else u (frame.Current v q) = refl
frame_else u (frame.Going v q) = either_bit (eqb v u)

abbrev number_of : Option (ℕ × ℕ) → Option ℕ
number_of None = None
number_of (Some x) = Some (page_number x.0 x.1)

frame_page : (x : FrameUse) → page_key x ≡ number_of (page_of x)
frame_page frame.Free = refl
frame_page (frame.Started v q) = refl
frame_page (frame.Current v q) = refl
frame_page (frame.Going v q) = refl

started_is : (u : ℕ) (x : FrameUse) → Decides (not (is_uid u (started_key x))) ((q : ℕ) → x ≢ frame.Started u q)
started_is u o = grind (arith, nat_tests, common_steps, eqb_tells)

module _ {uses now : List FrameUse} {c : UseCounted} {p s : Counted} (is : uses ≡ now) (t : AreFrames uses c p s) where
  -- a page under whose number nothing is counted is in no frame
  pub page_nowhere : {n : ℕ} (u q k : ℕ) → k ≡ page_number u q → n ≡ count_at p k → n ≡ 0
      → Decides true ((f : ℕ) → page_of (frame_at now f) ≢ Some (u, q))
  page_nowhere {n} u q k number e z =
      grind (arith, nat_tests, common_steps, key_decides page_key frame.Free refl uses k (e ∙ t.pages k), frame_page)

  pub frames_of_decide : {n : ℕ} (u : ℕ) → n ≡ count_at c.uids u
      → Decides (eqb n 0) ((f : ℕ) → uid_of_page (page_of (frame_at now f)) ≢ Some u)
  frames_of_decide u e = rw (← is) (key_decides (λ x. uid_of_page (page_of x)) frame.Free refl uses u
      (e ∙ t.uids u ∙ (λ i. sum_by (λ x. key_bit (frame_uid x i) u) uses)))

  pub started_decides : {n : ℕ} (u : ℕ) → n ≡ count_at s u
      → Decides (eqb n 0) ((f q : ℕ) → frame_at now f ≢ frame.Started u q)
  started_decides u e = rw (← is) (none_decides (λ x. is_uid u (started_key x))
      (λ x. (q : ℕ) → x ≢ frame.Started u q) frame.Free refl (started_is u) uses
      (e ∙ t.started u ∙ (λ i. sum_by (λ x. bit_is (started_key x) u i) uses)))

  all_going : {n : ℕ} → n ≡ count_at c.kinds 1 → n ≡ count_by is_going_frame uses
  all_going e = e ∙ t.kinds 1 ∙ (λ i. sum_by (λ x. frame_kind x i) uses)

  pub frames_go_decide : {n : ℕ} → n ≡ count_at c.kinds 1
      → Decides (ltb 0 n) ((f : ℕ) × (is_going_frame (frame_at now f) ≡ true))
  frames_go_decide e = rw (← is, all_going e, some_counted is_going_frame uses)
      (found is_going_frame frame.Free uses, λ h. find is_going_frame frame.Free uses h.0 refl h.1)

  pub frames_only_of_decide : {n m : ℕ} (u : ℕ) → n ≡ count_at c.going u → m ≡ count_at c.kinds 1
      → Decides (eqb n m) ((f : ℕ) → is_going_frame (frame_at now f) ≡ true
      → is_uid u (uid_of_page (bound_page (frame_at now f))) ≡ true)
  frames_only_of_decide u e g = rw (
    ← is,
    e ∙ t.going u,
    g ∙ t.kinds 1,
    none_more (λ x. key_bit (going_key (frame_mark x)) u) (λ x. key_bit (kind_key (frame_mark x)) 1)
        (λ x. is_going_frame x && not (is_uid u (uid_of_page (bound_page x)))) (frame_else u) uses,
  ) (scan_decides (λ x. is_going_frame x && not (is_uid u (uid_of_page (bound_page x))))
      (λ x. is_going_frame x ≡ true → is_uid u (uid_of_page (bound_page x)) ≡ true) frame.Free refl
      (λ x. else_decides (is_going_frame x) (is_uid u (uid_of_page (bound_page x)))) uses _ refl)

  pub frames_only_in_decide : {n m : ℕ} (at : ℕ) → n ≡ count_at c.kinds 1
      → m ≡ key_bit (kind_key (frame_mark (frame_at now at))) 1
      → Decides (eqb n m) ((f : ℕ) → is_going_frame (frame_at now f) ≡ true → eqb f at ≡ true)
  frames_only_in_decide at e g = rw (← is) (only_decides is_going_frame frame.Free refl uses at (all_going e)
      (rw (← is) at g ∙ frame_kind (frame_at uses at)))

-- ---- descriptors

row_uid : (x : DescriptorUse) → uid_key (descriptor_mark x) ≡ leads_to x
row_uid descriptor.Free = refl
row_uid (descriptor.Current v) = refl
row_uid (descriptor.Going v) = refl

row_kind : (x : DescriptorUse) → key_bit (kind_key (descriptor_mark x)) 1 ≡ cond {A = ℕ} (is_going_descriptor x) 1 0
row_kind descriptor.Free = refl
row_kind (descriptor.Current v) = refl
row_kind (descriptor.Going v) = refl

row_else : (u : ℕ) (x : DescriptorUse) → key_bit (kind_key (descriptor_mark x)) 1
    ≡ key_bit (going_key (descriptor_mark x)) u
    + cond {A = ℕ} (is_going_descriptor x && not (is_uid u (leads_to x))) 1 0
row_else u descriptor.Free = refl
row_else u (descriptor.Current v) = refl
row_else u (descriptor.Going v) = either_bit (eqb v u)

row_used : (x : DescriptorUse) → key_bit (kind_key (descriptor_mark x)) 0 + key_bit (kind_key (descriptor_mark x)) 1
    ≡ cond {A = ℕ} (is_some (leads_to x)) 1 0
row_used descriptor.Free = refl
row_used (descriptor.Current v) = refl
row_used (descriptor.Going v) = refl

free_is : (x : DescriptorUse) → Decides (not (is_some (leads_to x))) (x ≡ descriptor.Free)
free_is descriptor.Free = (λ t. refl, λ e. refl)
free_is _ = (λ t. cc, λ e. cc)

twice : (b : Bool) → not (not b) ≡ b
twice true = refl
twice false = refl

module _ {uses now : List DescriptorUse} {c : UseCounted} (is : uses ≡ now) (t : AreDescriptors uses c) where
  pub row_leads : {n : ℕ} (u : ℕ) → n ≡ count_at c.uids u → not (eqb n 0) ≡ list_any (λ x. is_uid u (leads_to x)) now
  row_leads u e = rw (
    ← is,
    e ∙ t.uids u ∙ (λ i. sum_by (λ x. (ap (λ o. key_bit o u) (row_uid x) ∙ bit_is (leads_to x) u) i) uses),
    none_counted (λ x. is_uid u (leads_to x)) uses,
  ) (twice _)

  pub row_goes : {n : ℕ} → n ≡ count_at c.kinds 1 → ltb 0 n ≡ list_any is_going_descriptor now
  row_goes e = rw (← is, e ∙ t.kinds 1 ∙ (λ i. sum_by (λ x. row_kind x i) uses)) (some_counted is_going_descriptor uses)

  pub row_elsewhere : {n m : ℕ} (u : ℕ) → n ≡ count_at c.going u → m ≡ count_at c.kinds 1
      → not (eqb n m) ≡ list_any (λ x. is_going_descriptor x && not (is_uid u (leads_to x))) now
  row_elsewhere u e g = rw (
    ← is,
    e ∙ t.going u,
    g ∙ t.kinds 1,
    none_more (λ x. key_bit (going_key (descriptor_mark x)) u) (λ x. key_bit (kind_key (descriptor_mark x)) 1)
        (λ x. is_going_descriptor x && not (is_uid u (leads_to x))) (row_else u) uses,
  ) (twice _)

  pub row_free_decides : {n m : ℕ} → n ≡ count_at c.kinds 0 → m ≡ count_at c.kinds 1
      → Decides (eqb (n + m) 0) ((i : ℕ) → descriptor_at now i ≡ descriptor.Free)
  row_free_decides e g = rw (← is) (none_decides (λ x. is_some (leads_to x)) (λ x. x ≡ descriptor.Free)
      descriptor.Free refl free_is uses (let both = sum_both (λ x. key_bit (kind_key (descriptor_mark x)) 0)
      (λ x. key_bit (kind_key (descriptor_mark x)) 1) uses in
      rw (e ∙ t.kinds 0, g ∙ t.kinds 1) (sym both) ∙ (λ i. sum_by (λ x. row_used x i) uses)))

-- ---- active segments

pool_bit : (q : ℕ) (x : Option ActiveUse) → key_bit (pool_key x) q ≡ cond {A = ℕ} (is_in_pool q x) 1 0
pool_bit q None = refl
pool_bit q (Some a) = refl

module _ {uses now : List (Option ActiveUse)} {p i : Counted} (is : uses ≡ now) (t : AreActive uses p i) where
  pub pool_count : {n : ℕ} (q : ℕ) → n ≡ count_at p q → n ≡ sum_by (λ x. cond (is_in_pool q x) 1 0) now
  pool_count q e = rw (← is) (e ∙ t.in_pools q ∙ (λ j. sum_by (λ x. pool_bit q x j) uses))

  pub below_decides : {n : ℕ} (u : ℕ) → n ≡ count_at i u
      → Decides (eqb n 0) ((v : ℕ) → superior_of (active_at now v) ≢ Some u)
  below_decides u e = rw (← is) (key_decides superior_of None refl uses u (e ∙ t.below u))
