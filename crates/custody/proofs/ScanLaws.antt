-- What a scan of a list decides of its elements, and of those past its end.
use Rattle.std.proofs.lemmas.Grind.{common_steps}
use Rattle.custody.proofs.Prelude.{arith, nat_tests, inl, inr, eqb_tells, ◌≡◌, ◌≢◌, ℕ, suc, zero, Bool, true, false, not, ◌&&◌, List, [], ◌∷◌, Option, Some, None, get_or, refl, sym, ap, ◌∙◌, list_any, Decides, is_some, leads_to, is_uid, is_going_descriptor, is_going_frame, HasNoDescriptor, NobodyHoldsPage, NobodyHoldsSeg, DescriptorUse, descriptor_at, Tables, AreNodes, IsAsActivated, DescriptorsAreNamed, IsUnused, active_at, superior_of, custody_of, row_at, ActiveUse, FrameUse, frame_at, GoesPage, GoesDescriptor, MayDeactivate, superior_in, Store, Node, node_in, IsSomeAnd, Seat, has, offline, What, not_both, not_true, or_parts}
use Rattle.std.proofs.lemmas.Bool.{cases_Bool}
use Rattle.laws.proofs.Bools.{or_true}
use Rattle.custody_model.specs.declared.DescriptorUse.TheVariants as descriptor
use Rattle.assoc_mem.specs.declared.What.TheVariants as what

scan_to : {X : Type 0} (p : X → Bool) (d : X) → p d ≡ false → (xs : List X) → list_any p xs ≡ false → (i : ℕ)
    → p (get_or xs i d) ≡ false
scan_to p d n [] e i = n
scan_to p d n (x ∷ xs) e zero = (or_parts (p x) (list_any p xs) e).0
scan_to p d n (x ∷ xs) e (suc i) = scan_to p d n xs (or_parts (p x) (list_any p xs) e).1 i

scan_from : {X : Type 0} (p : X → Bool) (d : X) (xs : List X) → ((i : ℕ) → p (get_or xs i d) ≡ false) → list_any p xs
    ≡ false
scan_from p d [] h = refl
scan_from p d (x ∷ xs) h = rw (h 0, scan_from p d xs (λ i. h (suc i))) refl

pub scan_decides : {X : Type 0} (p : X → Bool) (P : X → Type 0) (d : X) → p d ≡ false
    → ((x : X) → Decides (not (p x)) (P x)) → (xs : List X) (r : Bool) → r ≡ list_any p xs
    → Decides (not r) ((i : ℕ) → P (get_or xs i d))
scan_decides p P d n each xs r is = (
  λ t i. (each (get_or xs i d)).0 (ap not (scan_to p d n xs (sym is ∙ not_true r t) i)),
  λ h. ap not (is ∙ scan_from p d xs (λ i. not_true (p (get_or xs i d)) ((each (get_or xs i d)).1 (h i)))),
)

pub found : {X : Type 0} (p : X → Bool) (d : X) (xs : List X) → list_any p xs ≡ true → (i : ℕ)
    × (p (get_or xs i d) ≡ true)
found p d [] e = cc
found p d (x ∷ xs) e = elim (cases_Bool (p x)) [
  | inl is ↦ (0, is)
  | inr isnt ↦ (let rest = found p d xs (rw isnt at e) in (suc rest.0, rest.1))
]

pub find : {X : Type 0} (p : X → Bool) (d : X) (xs : List X) (i : ℕ) → p d ≡ false → p (get_or xs i d) ≡ true
    → list_any p xs ≡ true
find p d [] i n e = absurd (not_both e n)
find p d (x ∷ xs) zero n e = rw e refl
find p d (x ∷ xs) (suc i) n e = rw (find p d xs i n e) (or_true (p x))

-- ---- what is decided of one element

pub uid_decides : (u : ℕ) (o : Option ℕ) → Decides (not (is_uid u o)) (o ≢ Some u)
uid_decides u o = grind (arith, nat_tests, common_steps, eqb_tells)

pub bool_decides : (b : Bool) → Decides (not b) (b ≡ false)
bool_decides b = (not_true b, λ f. ap not f)

pub else_decides : (a b : Bool) → Decides (not (a && not b)) (a ≡ true → b ≡ true)
else_decides true true = (λ t e. refl, λ h. refl)
else_decides true false = (λ t e. cc, λ h. h refl)
else_decides false b = (λ t e. cc, λ h. refl)

-- ---- all descriptors

rows_decide : (p : DescriptorUse → Bool) (P : DescriptorUse → Type 0) → p descriptor.Free ≡ false
    → ((x : DescriptorUse) → Decides (not (p x)) (P x)) → (rows : List (List DescriptorUse)) (r : Bool)
    → r ≡ list_any (λ row. list_any p row) rows → Decides (not r) ((k n : ℕ) → P (descriptor_at (row_at rows k) n))
rows_decide p P none each = scan_decides (λ row. list_any p row) (λ row. (n : ℕ) → P (descriptor_at row n)) [] refl
    (λ row. scan_decides p P descriptor.Free none each row (list_any p row) refl)

pub no_descriptor_decides : (t : Tables) (u : ℕ) (r : Bool) → r
    ≡ list_any (λ row. list_any (λ x. is_uid u (leads_to x)) row) t.descriptors
    → Decides (not r) (HasNoDescriptor (custody_of t) u)
no_descriptor_decides t u = rows_decide (λ x. is_uid u (leads_to x)) (λ x. leads_to x ≢ Some u) refl
    (λ x. uid_decides u (leads_to x)) t.descriptors

pub descriptors_page_decides : (t : Tables) (r : Bool) (g : ℕ)
    → r ≡ list_any (λ row. list_any is_going_descriptor row) t.descriptors
    → Decides (not r) (DescriptorsAreNamed (custody_of t) (what.Page g))
descriptors_page_decides t r g = rows_decide is_going_descriptor (λ x. is_going_descriptor x ≡ true → false ≡ true) refl
    (λ x. off (is_going_descriptor x)) t.descriptors r
  where
    off : (b : Bool) → Decides (not b) (b ≡ true → false ≡ true)
    off true = (λ t e. t, λ h. h refl)
    off false = (λ t e. e, λ h. refl)

pub descriptors_seg_decides : (t : Tables) (r : Bool) (u : ℕ)
    → r ≡ list_any (λ row. list_any (λ x. is_going_descriptor x && not (is_uid u (leads_to x))) row) t.descriptors
    → Decides (not r) (DescriptorsAreNamed (custody_of t) (what.Seg u))
descriptors_seg_decides t r u = rows_decide (λ x. is_going_descriptor x && not (is_uid u (leads_to x)))
    (λ x. is_going_descriptor x ≡ true → is_uid u (leads_to x) ≡ true) refl
    (λ x. else_decides (is_going_descriptor x) (is_uid u (leads_to x))) t.descriptors r

-- ---- processors

pub nobody_page_decides : (t : Tables) (f : ℕ) (r : Bool) → r ≡ list_any (λ s. has s.pages f) t.seats
    → Decides (not r) (NobodyHoldsPage (custody_of t) f)
nobody_page_decides t f = scan_decides (λ (s : Seat). has s.pages f) (λ (s : Seat). has s.pages f ≡ false) offline refl
    (λ s. bool_decides (has s.pages f)) t.seats

seg_decides : (k : ℕ) (o : Option ℕ) (b : Bool) → Decides (not (is_uid k o && b)) (o ≡ Some k → b ≡ false)
seg_decides k o b = grind (arith, nat_tests, common_steps, eqb_tells, not_true)

pub nobody_seg_decides : (t : Tables) (k n : ℕ) (r : Bool) → r
    ≡ list_any (λ s. is_uid k s.process && has s.segs n) t.seats → Decides (not r) (NobodyHoldsSeg (custody_of t) k n)
nobody_seg_decides t k n = scan_decides (λ (s : Seat). is_uid k s.process && has s.segs n)
    (λ (s : Seat). s.process ≡ Some k → has s.segs n ≡ false) offline refl
    (λ s. seg_decides k s.process (has s.segs n)) t.seats

pub none_due_decides : (t : Tables) (r : Bool) → r ≡ list_any (λ s. is_some s.due) t.seats
    → Decides (not r) ((d : ℕ) → ((custody_of t).seat d).due ≡ None)
none_due_decides t = scan_decides (λ (s : Seat). is_some s.due) (λ (s : Seat). s.due ≡ None) offline refl
    (λ s. due_decides s.due) t.seats
  where
    due_decides : (o : Option What) → Decides (not (is_some o)) (o ≡ None)
    due_decides None = (λ t. refl, λ e. refl)
    due_decides (Some w) = (λ t. cc, λ e. cc)

-- ---- what goes

pub page_goes_decides : {frames : List FrameUse} (t : Tables) (r : Bool) → frames ≡ t.frames
    → Decides r ((f : ℕ) × (is_going_frame (frame_at frames f) ≡ true)) → Decides r (GoesPage (custody_of t))
page_goes_decides t r is h =
    let d = rw is at h in
    (λ e. record { at = (d.0 e).0; going = (d.0 e).1 }, λ g. d.1 (g.at, g.going))

pub descriptor_goes_decides : (t : Tables) (r : Bool) → r
    ≡ list_any (λ row. list_any is_going_descriptor row) t.descriptors → Decides r (GoesDescriptor (custody_of t))
descriptor_goes_decides t r is = (
  λ e.
      let k = found (λ (row : List DescriptorUse). list_any is_going_descriptor row) [] t.descriptors (sym is ∙ e) in
      let n = found is_going_descriptor descriptor.Free (row_at t.descriptors k.0) k.1 in
      record { process = k.0; number = n.0; going = n.1 },
  λ g. is ∙ find (λ (row : List DescriptorUse). list_any is_going_descriptor row) [] t.descriptors g.process refl
      (find is_going_descriptor descriptor.Free (row_at t.descriptors g.process) g.number refl g.going),
)

-- ---- what lies in an active directory

superior_is : (x : Option ActiveUse) (o : Option Node) → ((a : ActiveUse) → x ≡ Some a → IsSomeAnd o (IsAsActivated a))
    → is_some x ≡ true → superior_in o ≡ superior_of x
superior_is None o h e = cc
superior_is (Some a) None h e = absurd (h a refl)
superior_is (Some a) (Some n) h e = (h a refl).superior

inactive_is : (x : Option ActiveUse) → is_some x ≡ false → superior_of x ≡ None
inactive_is None e = refl
inactive_is (Some a) e = cc

pub inferiors_decide : {uses : List (Option ActiveUse)} (t : Tables) (s : Store) (u : ℕ) (r : Bool) → uses ≡ t.active
    → AreNodes s.nodes t.active → Decides r ((v : ℕ) → superior_of (active_at uses v) ≢ Some u)
    → Decides r ((v : ℕ) → (custody_of t).active v ≡ true → superior_in (node_in s.nodes v) ≢ Some u)
inferiors_decide t s u r is nodes h =
    let d = rw is at h in (
      λ e v there q. d.0 e v (sym (superior_is (active_at t.active v) (node_in s.nodes v) (nodes.there v) there) ∙ q),
      λ all. d.1 (λ v q. elim (cases_Bool (is_some (active_at t.active v))) [
        | inl on ↦ all v on (superior_is (active_at t.active v) (node_in s.nodes v) (nodes.there v) on ∙ q)
        | inr off ↦ (let clash : None ≡ Some u = sym (inactive_is (active_at t.active v) off) ∙ q in cc)
      ]),
    )

pub deactivates : (s : Store) (t : Tables) (u : ℕ) (a r : Bool) → Decides a (IsUnused (custody_of t) u) → a ≡ true
    → Decides r ((v : ℕ) → (custody_of t).active v ≡ true → superior_in (node_in s.nodes v) ≢ Some u)
    → Decides r (MayDeactivate s (custody_of t) u)
deactivates s t u a r d e h = grind (arith, nat_tests, common_steps)

pub stays_active : (s : Store) (t : Tables) (u : ℕ) (a : Bool) → Decides a (IsUnused (custody_of t) u) → a ≡ false
    → Decides false (MayDeactivate s (custody_of t) u)
stays_active s t u a d e = grind (arith, nat_tests, common_steps, not_both)
