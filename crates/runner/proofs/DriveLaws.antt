-- The drives of a script: how they are made, what of them stays, and how many of their calls fail.
use Rattle.runner.proofs.Prelude.{◌≡◌, ◌≢◌, ℕ, suc, ◌+◌, ◌-◌, ◌^◌, ◌<◌, ◌≤◌, ◌⊎◌, min, inl, inr, Bool, true, false, cond, length, map, List, [], ◌∷◌, ◌++◌, Option, Some, None, refl, sym, ap, subst, ◌∙◌, arith, Err, IfOk, Ok, Result, ◌||◌, ◌==◌, count_by, filter, nat_lt, replicate, slice_get, sum_by, length-replicate, length_push, list_any, cases_eq, or_parts, nat_tests, count_by-le-length, length-filter, sum_by-cons, get_or_from_slice_get, slice_get-map, slice_get_within, option_map, slice_get-last, slice_get-push, count_cons, map_length, none_some, Plan, Fail, HasFewFaults, named_calls, HaveFewFaults, FailLine, Entry, records_in, records_of, any_pages, any_places, disk_of, AnyDrive, is_fault, first_state, first_store, first_words, HaveCounted, IsBooted, Machine, AreTold, IsFresh, TellsFaults, faults_in, is_on, line_of, lines_in, places_in, plan_of}

-- ---- each of a list, at its place

-- what holds of each of a list, and of one more after them
pub each_more : {A : Type 0} (P : ℕ → A → Type 0) (xs : List A) (x : A)
    → ((i : ℕ) (y : A) → slice_get xs i ≡ Some y → P i y) → P (length xs) x
    → (i : ℕ) (y : A) → slice_get (xs ++ x ∷ []) i ≡ Some y → P i y
each_more P xs x each last i y at = here (cases_eq i (length xs))
  where
    here : (i ≡ length xs) ⊎ (i ≢ length xs) → P i y
    here (inl e) =
        let same : x ≡ y = cc (sym (slice_get-last xs x i e) ∙ at) in
        subst (λ (k : ℕ). P k y) (sym e) (subst (P (length xs)) same last)
    here (inr ne) = each i y (sym (slice_get-push xs x i ne) ∙ at)

-- two lists of one length whose elements agree, each at its place
pub maps_alike : {A B : Type 0} (f : A → ℕ) (g : B → ℕ) (xs : List A) (ys : List B) → length xs ≡ length ys
    → ((i : ℕ) (x : A) (y : B) → slice_get xs i ≡ Some x → slice_get ys i ≡ Some y → f x ≡ g y) → map f xs ≡ map g ys
maps_alike f g [] [] e each = refl
maps_alike f g [] (y ∷ ys) e each = absurd cc
maps_alike f g (x ∷ xs) [] e each = absurd cc
maps_alike f g (x ∷ xs) (y ∷ ys) e each = ap (λ (n : ℕ). n ∷ map f xs) (each 0 x y refl refl)
    ∙ ap (λ (ns : List ℕ). g y ∷ ns) (maps_alike f g xs ys (omega (arith, e)) (λ i a b. each (suc i) a b))

-- an element of a list whose map is as it was, and the one that stood at its place
pub record Stood {A B : Type 0} (f : A → B) (old : List A) (v : ℕ) (x : A) : Type 0 where
  pub was : A
  pub there : slice_get old v ≡ Some was
  pub same : f x ≡ f was

stood : {A B : Type 0} (f : A → B) (old : List A) (v : ℕ) (x : A) (before : Option A) → slice_get old v ≡ before
    → Some (f x) ≡ slice_get (map f old) v → Stood f old v x
stood f old v x None at e = absurd (none_some (sym (ap (option_map f) at) ∙ (sym (slice_get-map f old v) ∙ sym e)))
stood f old v x (Some y) at e =
    let it : Some (f x) ≡ Some (f y) = e ∙ (slice_get-map f old v ∙ ap (option_map f) at) in
    record { was = y; there = at; same = cc }

pub stood_there : {A B : Type 0} (f : A → B) (old new : List A) (v : ℕ) (x : A) → map f new ≡ map f old
    → slice_get new v ≡ Some x → Stood f old v x
stood_there f old new v x same at = stood f old v x (slice_get old v) refl
    (sym (slice_get-map f new v ∙ ap (option_map f) at) ∙ ap (λ (ys : List _). slice_get ys v) same)

-- ---- the drives of a script

pub fresh_sizes : (p : Plan) (drives : List AnyDrive) → length drives ≡ length p.volumes
    → ((v : ℕ) (d : AnyDrive) → slice_get drives v ≡ Some d → length (any_pages d) ≡ records_of p v)
    → map (λ d. length (any_pages d)) drives ≡ map (λ v. v.records) p.volumes
fresh_sizes p drives many sizes = maps_alike (λ d. length (any_pages d)) (λ v. v.records) drives p.volumes many
    (λ i d v at line. sizes i d at ∙ ap records_in line)

-- drives whose plans and places are as they were
pub told_still : (p : Plan) (old new : List AnyDrive) → map plan_of new ≡ map plan_of old
    → map any_places new ≡ map any_places old → AreTold p old → AreTold p new
told_still p old new plans places told = record {
  count = sym (map_length plan_of new) ∙ (ap length plans ∙ (map_length plan_of old ∙ told.count));
  plans = λ v d at. let was = stood_there plan_of old new v d plans at in
      let same : (disk_of d).fails ≡ (disk_of was.was).fails = some_same was.same in
      same ∙ told.plans v was.was was.there;
  places = λ v d at. let was = stood_there any_places old new v d places at in
      was.same ∙ told.places v was.was was.there;
}
  where
    some_same : {A : Type 0} {x y : A} → Some x ≡ Some y → x ≡ y
    some_same e = cc

-- ---- how many of their calls fail

abbrev below : ℕ → Fail → Bool
below v f = nat_lt f.volume v

-- of the lines, those of volume v stand between those of the volumes before it and those before the next
volume_more : (v : ℕ) (fails : List Fail) → count_by (is_on v) fails + count_by (below v) fails
    ≡ count_by (below (suc v)) fails
volume_more v [] = refl
volume_more v (f ∷ fs) =
    let more = volume_more v fs in
    let on = count_cons (is_on v) f fs in
    let less = count_cons (below v) f fs in
    let next = count_cons (below (suc v)) f fs in
    let one = line_more f.volume v in
    omega (arith, more, on, less, next, one)
  where
    line_more : (w v : ℕ) → cond (w == v) 1 0 + cond (nat_lt w v) 1 0 ≡ cond (nat_lt w (suc v)) 1 0
    line_more w v = each (w == v) (nat_lt w v) (nat_lt w (suc v)) refl refl refl
      where
        each : (a b c : Bool) → (w == v) ≡ a → nat_lt w v ≡ b → nat_lt w (suc v) ≡ c
            → cond a 1 0 + cond b 1 0 ≡ cond c 1 0
        each true true c same less next = absurd (grind (arith, nat_tests))
        each true false true same less next = refl
        each true false false same less next = absurd (grind (arith, nat_tests))
        each false true true same less next = refl
        each false true false same less next = absurd (grind (arith, nat_tests))
        each false false true same less next = absurd (grind (arith, nat_tests))
        each false false false same less next = refl

-- drives that fail no more often than there are lines of their volumes
pub sum_few : (count : AnyDrive → ℕ) (fails : List Fail) (drives : List AnyDrive) (v : ℕ)
    → ((i : ℕ) (d : AnyDrive) → slice_get drives i ≡ Some d → count d ≤ count_by (is_on (v + i)) fails)
    → sum_by count drives + count_by (below v) fails ≤ length fails
sum_few count fails [] v each =
    let few = count_by-le-length (below v) fails in
    let none : sum_by count [] ≡ 0 = refl in
    omega (arith, few, none)
sum_few count fails (d ∷ ds) v each =
    let here : count d ≤ count_by (is_on v) fails = subst (λ (k : ℕ). count d ≤ count_by (is_on k) fails)
    (omega arith) (each 0 d refl) in
    let rest = sum_few count fails ds (suc v) (λ i e at. subst (λ (k : ℕ). count e ≤ count_by (is_on k) fails)
    (omega arith) (each (suc i) e at)) in
    let more = volume_more v fails in
    let sum = sum_by-cons count d ds in
    omega (arith, here, rest, more, sum)

-- where no line goes on, none of a volume's does
quiet : (fails : List Fail) (v : ℕ) → list_any (λ f. f.onward) fails ≡ false
    → list_any (λ (l : FailLine). l.onward) (lines_in fails v) ≡ false
quiet [] v h = refl
quiet (f ∷ fs) v h =
    let parts = or_parts f.onward (list_any (λ f. f.onward) fs) h in
    let rest = quiet fs v parts.1 in
    here (is_on v f) parts.0 rest
  where
    here : (on : Bool) → f.onward ≡ false → list_any (λ (l : FailLine). l.onward) (lines_in fs v) ≡ false
        → list_any (λ (l : FailLine). l.onward)
        (map line_of (cond on (f ∷ filter (is_on v) fs) (filter (is_on v) fs))) ≡ false
    here false first rest = rest
    here true first rest = ap (λ (b : Bool). b || list_any (λ (l : FailLine). l.onward) (lines_in fs v)) first ∙ rest

-- what the book tells, as the drives count it
module _ (p : Plan) (drives : List AnyDrive) (told : AreTold p drives)
    (few : HaveFewFaults plan_of faults_in drives) where
  drive_few : list_any (λ f. f.onward) p.fails ≡ false → (v : ℕ) (d : AnyDrive) → slice_get drives v ≡ Some d
      → faults_in d ≤ count_by (is_on v) p.fails
  drive_few still v d at =
      let lines = told.plans v d at in
      let its : faults_in d ≤ length (disk_of d).fails = subst
      (λ (x : AnyDrive). HasFewFaults (plan_of x) (faults_in x))
      (get_or_from_slice_get drives v d d at) (few v d (slice_get_within drives v d at))
      (ap (list_any (λ (l : FailLine). l.onward)) lines ∙ quiet p.fails v still) in
      let many : length (disk_of d).fails ≡ count_by (is_on v) p.fails = ap length lines
      ∙ (map_length line_of (filter (is_on v) p.fails) ∙ length-filter (is_on v) p.fails) in
      omega (arith, its, many)

  pub told_faults : (entries : List Entry) → count_by is_fault entries ≡ sum_by faults_in drives
      → TellsFaults p entries drives
  told_faults entries all = record {
    all = all;
    named = λ v d at. ap (λ (ls : List FailLine). named_calls ls false (disk_of d).reads
        + named_calls ls true (disk_of d).writes) (told.plans v d at);
    few = λ still.
        let sum = sum_few faults_in p.fails drives 0 (λ i d at. subst
        (λ (k : ℕ). faults_in d ≤ count_by (is_on k) p.fails) (omega arith) (drive_few still i d at)) in
        omega (arith, all, sum);
  }

-- ---- the drives as they are made

-- the drives of the first volumes, as they are made
abbrev pub AreFresh : Plan → List AnyDrive → Type 0
AreFresh p drives = (v : ℕ) (d : AnyDrive) → slice_get drives v ≡ Some d → IsFresh p v d

-- and of one more
pub fresh_more : (p : Plan) (v : ℕ) (drives now : List AnyDrive) (d : AnyDrive) → length drives ≡ v → AreFresh p drives
    → any_pages d ≡ replicate (records_of p v) (replicate 1024 0) → (disk_of d).fails ≡ lines_in p.fails v
    → any_places d ≡ places_in p.bulks v → faults_in d ≡ 0 → now ≡ drives ++ d ∷ []
    → (length now ≡ v + 1) × AreFresh p now
fresh_more p v drives now d many each pages plan places none is = rw is (
  length_push drives d ∙ ap (λ (n : ℕ). n + 1) many,
  each_more (IsFresh p) drives d each (rw many (record {
    size = ap length pages ∙ length-replicate (records_of p v) (replicate 1024 0);
    faults = none;
    plan = plan;
    places = places;
  })),
)

pub fresh_told : (p : Plan) (drives : List AnyDrive) → length drives ≡ length p.volumes → AreFresh p drives
    → AreTold p drives
fresh_told p drives many each = record {
  count = many;
  plans = λ v d at. (each v d at).plan;
  places = λ v d at. (each v d at).places;
}

-- no call of theirs has failed
pub fresh_faults : (p : Plan) (drives : List AnyDrive) → AreFresh p drives → sum_by faults_in drives ≡ 0
fresh_faults p drives each = by drives (λ v d at. (each v d at).faults)
  where
    by : (ds : List AnyDrive) → ((v : ℕ) (d : AnyDrive) → slice_get ds v ≡ Some d → faults_in d ≡ 0)
        → sum_by faults_in ds ≡ 0
    by [] none = refl
    by (d ∷ ds) none =
        let here = none 0 d refl in
        let rest = by ds (λ v e at. none (suc v) e at) in
        let all = sum_by-cons faults_in d ds in
        omega (arith, here, rest, all)

-- what is counted since the boot is what is told since then
pub all_counted : (entries : List Entry) (drives : List AnyDrive) → length entries < 2 ^ 63
    → min (sum_by faults_in drives) (2 ^ 63) ≡ min (0 + (count_by is_fault entries - 0)) (2 ^ 63)
    → count_by is_fault entries ≡ sum_by faults_in drives
all_counted entries drives few same = let most = count_by-le-length is_fault entries in
    omega (arith, few, same, most)

-- a machine that was booted over them has counted nothing, and tells of nothing
pub counted_boot : {E : Type 0} (r : Result Machine E) (drives : List AnyDrive) → sum_by faults_in drives ≡ 0
    → IfOk r (λ m. m.state.entries ≡ []) → IfOk r (λ m. m.drives ≡ drives) → IfOk r (λ m. HaveCounted faults_in 0 0 m)
counted_boot (Ok m) drives none entries same =
    let told : count_by is_fault m.state.entries ≡ 0 = ap (λ (es : List Entry). count_by is_fault es) entries in
    let sum : sum_by faults_in m.drives ≡ 0 = ap (λ (ds : List AnyDrive). sum_by faults_in ds) same ∙ none in
    record { grows = omega arith; drives = omega (arith, told, sum) }
counted_boot (Err e) drives none entries same = tt

-- a machine that was booted over these drives
pub booted_by : {E : Type 0} (p : Plan) (r : Result Machine E) (drives : List AnyDrive) → AreTold p drives
    → IfOk r (λ m. m.state.entries ≡ []) → IfOk r (λ m. m.drives ≡ drives)
    → IfOk r (λ m. m.state ≡ first_state p (first_store p (first_words p.frames) (map any_pages drives)) m.state.spare
    (sum_by faults_in drives)) → IfOk r (IsBooted p)
booted_by p (Ok m) drives told none same state = record {
  entries = none;
  state = subst (λ (ds : List AnyDrive). m.state ≡ first_state p (first_store p (first_words p.frames)
      (map any_pages ds)) m.state.spare (sum_by faults_in ds)) (sym same) state;
  drives = subst (AreTold p) (sym same) told;
}
booted_by p (Err e) drives told none same state = tt
