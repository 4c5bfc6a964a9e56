-- How counts over the lists of an outline change as one element changes.
use Rattle.machine_model.proofs.Prelude.{◌≡◌, ◌≤◌, ◌<◌, ℕ, ◌+◌, zero, suc, Bool, true, false, not, cond, ◌||◌, eqb, List, [], ◌∷◌, length, Option, Some, None, is_some, set, get_or, count_by, Contains, refl, sym, ap, ◌∙◌, arith, list_any, nat_tests, get_or-set_same, length-set, Contains-get_or, list_any_at, sum_by-set, sum_by-cons, count_by-le-length, Frame, is_free, entry_at, off_chain, IsOffChain, is_for, Runner, runner_at, no_runner, idle_links, off_links, readers, dues, has_free, eqb_self, Frame as frame, Active as Entry, measures_is_active as is_active, false_from_ne_true, ◌≢◌, ◌&&◌, ◌⊎◌, inl, inr, le_refl, none-some, Transfer, Want, Refer, Truncate, Length, Other, Outline, with_frame, is_of, is_here, reads_page, page_fits, wanted_fits, wanted_link, want_lack, lack, with_stored, is_wanted, is_spared, and_from, or_left, and_parts, jobs_page_or_zero as page_or_zero, outline_frame_in as frame_in, FinishingMayRelease as MayRelease, finishing_page_of as page_of, eq-eqb, or_true, not-true}

-- ---- any list

abbrev bit : Bool → ℕ
bit b = cond b 1 0

-- a count over a list with one element changed
pub count_set : {A : Type 0} (p : A → Bool) (xs : List A) (i : ℕ) (y d : A) → i < length xs
    → count_by p (set xs i y) + cond (p (get_or xs i d)) 1 0 ≡ count_by p xs + cond (p y) 1 0
count_set p xs i y d lt = sum_by-set (λ x. cond (p x) 1 0) xs i y d lt

pub count_cons : {A : Type 0} (p : A → Bool) (x : A) (xs : List A)
    → count_by p (x ∷ xs) ≡ cond (p x) 1 0 + count_by p xs
count_cons p x xs = sum_by-cons (λ y. cond (p y) 1 0) x xs

-- a test that passes wherever another does counts no less, and more where it passes besides
cond_le : (a b : Bool) → (a ≡ true → b ≡ true) → cond {A = ℕ} a 1 0 ≤ cond b 1 0
cond_le true b h = rw (h refl) (omega arith)
cond_le false b h = omega arith

pub count_le : {A : Type 0} (p q : A → Bool) (xs : List A)
    → ((k : ℕ) (d : A) → k < length xs → q (get_or xs k d) ≡ true → p (get_or xs k d) ≡ true)
    → count_by q xs ≤ count_by p xs
count_le p q [] h = omega arith
count_le p q (x ∷ xs) h =
    let rest = count_le p q xs (λ k d lt. h (suc k) d (omega arith)) in
    let one = cond_le (q x) (p x) (h zero x (omega arith)) in
    omega (arith, count_cons q x xs, count_cons p x xs)

pub count_falls : {A : Type 0} (p q : A → Bool) (xs : List A) (i : ℕ) (d : A) → i < length xs
    → ((k : ℕ) (d : A) → k < length xs → q (get_or xs k d) ≡ true → p (get_or xs k d) ≡ true)
    → p (get_or xs i d) ≡ true → q (get_or xs i d) ≡ false → count_by q xs < count_by p xs
count_falls p q [] i d lt h passes out = absurd (omega arith)
count_falls p q (x ∷ xs) zero d lt h passes out =
    let rest = count_le p q xs (λ k e l. h (suc k) e (omega arith)) in
    omega (arith, ap bit passes, ap bit out, count_cons q x xs, count_cons p x xs)
count_falls p q (x ∷ xs) (suc i) d lt h passes out =
    let rest = count_falls p q xs i d (omega arith) (λ k e l. h (suc k) e (omega arith)) passes out in
    omega (arith, count_cons q x xs, count_cons p x xs, cond_le (q x) (p x) (h zero x (omega arith)))

-- whether any element passes, where one that didn't was changed
pub any_set : {A : Type 0} (p : A → Bool) (xs : List A) (i : ℕ) (y d : A) → i < length xs → p (get_or xs i d) ≡ false
    → list_any p (set xs i y) ≡ (p y || list_any p xs)
any_set p [] i y d lt h = absurd (omega arith)
any_set p (x ∷ xs) zero y d lt h = by (p x) (p y) (list_any p xs) h
  where
    by : (a b c : Bool) → a ≡ false → (b || c) ≡ (b || (a || c))
    by true b c e = let no = e in absurd cc
    by false b c e = refl
any_set p (x ∷ xs) (suc i) y d lt h = cc (any_set p xs i y d (omega arith) h, swap (p x) (p y) (list_any p xs))
  where
    swap : (a b c : Bool) → (a || (b || c)) ≡ (b || (a || c))
    swap true true c = refl
    swap true false c = refl
    swap false b c = refl

-- ---- chains

abbrev with_active : List (Option Entry) → ℕ → ℕ → Option ℕ → List (Option Entry)
with_active entries place uid superior = set entries place (Some (record { uid = uid; superior = superior }))

-- a segment that becomes active is an idle link less
pub activation_falls : (entries : List (Option Entry)) (place uid : ℕ) (superior : Option ℕ) (chain : List ℕ)
    → Contains chain uid → is_active entries uid ≡ false → entry_at entries place ≡ None → place < length entries
    → idle_links (set entries place (Some (record { uid = uid; superior = superior }))) chain < idle_links entries chain
unfolding idle_links
activation_falls entries place uid superior chain there idle free lt =
    count_falls (λ v. not (is_active entries v)) (λ v. not (is_active (with_active entries place uid superior) v)) chain
    there.0 uid there.1 kept (rw (there.2) (ap not idle)) (rw (there.2) (ap not itself))
  where
    changed : (v : ℕ) → is_active (with_active entries place uid superior) v ≡ (eqb uid v || is_active entries v)
    changed v = any_set (is_for v) entries place (Some (record { uid = uid; superior = superior })) None lt (cc)

    itself : is_active (with_active entries place uid superior) uid ≡ true
    itself = cc (changed uid, eqb_self uid)

    kept : (k d : ℕ) → k < length chain → not (is_active (with_active entries place uid superior) (get_or chain k d))
        ≡ true → not (is_active entries (get_or chain k d)) ≡ true
    kept k d l h = by (eqb uid (get_or chain k d)) (is_active entries (get_or chain k d))
        (cc (changed (get_or chain k d)))
      where
        by : (a b : Bool) → not (a || b) ≡ true → not b ≡ true
        by true b e = let no = e in absurd cc
        by false b e = e

off_now : (chain : List ℕ) (o : Option Entry) → off_chain chain o ≡ true → (v : ℕ) → Contains chain v
    → is_for v o ≡ false
off_now chain None off v there = refl
off_now chain (Some e) off v there =
    false_from_ne_true (eqb e.uid v) (λ h. (let no = sym (ap not (other h)) ∙ off in absurd cc))
  where
    other : eqb e.uid v ≡ true → list_any (λ u. eqb u e.uid) chain ≡ true
    other h =
        let same : e.uid ≡ v = grind (arith, nat_tests) in
        list_any_at (λ u. eqb u e.uid) chain there.0 v there.1 (rw (there.2, same) (eqb_self v))

-- a segment off the chain that becomes inactive is one less of those, and leaves the links as they were
pub emptying_off : (entries : List (Option Entry)) (place : ℕ) (chain : List ℕ) → IsOffChain entries chain place
    → place < length entries → off_links (set entries place None) chain < off_links entries chain
unfolding off_links
emptying_off entries place chain off lt =
    omega (arith, count_set (off_chain chain) entries place None None lt, ap bit off)

pub emptying_idle : (entries : List (Option Entry)) (place : ℕ) (chain : List ℕ) → IsOffChain entries chain place
    → place < length entries → idle_links (set entries place None) chain ≤ idle_links entries chain
unfolding idle_links
emptying_idle entries place chain off lt =
    count_le (λ v. not (is_active entries v)) (λ v. not (is_active (set entries place None) v)) chain kept
  where
    kept : (k d : ℕ) → k < length chain → not (is_active (set entries place None) (get_or chain k d)) ≡ true
        → not (is_active entries (get_or chain k d)) ≡ true
    kept k d l h =
        let v : ℕ = get_or chain k d in
        cc (any_set (is_for v) entries place None None lt (off_now chain (get_or entries place None) off v
        (Contains-get_or chain k d l)))

-- ---- frames

pub freed_is_free : (frames : List Frame) (f : ℕ) → f < length frames → has_free (set frames f frame.Free) ≡ true
unfolding has_free
freed_is_free frames f lt =
    list_any_at is_free (set frames f frame.Free) f frame.Free (rw (length-set frames f frame.Free) lt)
    (ap is_free (get_or-set_same frames f frame.Free frame.Free lt))

-- ---- processors

-- two lists that agree on a test at each place
pub count_like : {A : Type 0} (p : A → Bool) (xs ys : List A) (d : A) → length ys ≡ length xs
    → ((i : ℕ) → p (get_or ys i d) ≡ p (get_or xs i d)) → count_by p ys ≡ count_by p xs
count_like p [] [] d long same = refl
count_like p (x ∷ xs) (y ∷ ys) d long same =
    let rest = count_like p xs ys d (omega arith) (λ i. same (suc i)) in
    omega (arith, ap bit (same zero), count_cons p x xs, count_cons p y ys)
count_like p _ _ d long same = let no = long in absurd (omega arith)

pub readers_set : (xs : List Runner) (c : ℕ) (x : Runner) → c < length xs
    → readers (set xs c x) + cond (is_some (runner_at xs c).reading) 1 0 ≡ readers xs + cond (is_some x.reading) 1 0
unfolding readers
readers_set xs c x lt = count_set (λ r. is_some r.reading) xs c x no_runner lt

pub dues_set : (xs : List Runner) (c : ℕ) (x : Runner) → c < length xs
    → dues (set xs c x) + cond (runner_at xs c).due 1 0 ≡ dues xs + cond x.due 1 0
unfolding dues
dues_set xs c x lt = count_set (λ r. r.due) xs c x no_runner lt

pub readers_like : (xs ys : List Runner) → length ys ≡ length xs
    → ((d : ℕ) → (runner_at ys d).reading ≡ (runner_at xs d).reading) → readers ys ≡ readers xs
unfolding readers
readers_like xs ys long same = count_like (λ r. is_some r.reading) xs ys no_runner long (λ i. cc (same i))

pub dues_few : (xs : List Runner) → dues xs ≤ length xs
unfolding dues
dues_few xs = count_by-le-length (λ r. r.due) xs

pub idle_few : (entries : List (Option Entry)) (chain : List ℕ) → idle_links entries chain ≤ length chain
unfolding idle_links
idle_few entries chain = count_by-le-length (λ v. not (is_active entries v)) chain

pub off_few : (entries : List (Option Entry)) (chain : List ℕ) → off_links entries chain ≤ length entries
unfolding off_links
off_few entries chain = count_by-le-length (off_chain chain) entries

-- ---- What the tables lack for a command, as frames, transfers and stored pages change.

-- ---- less lacks where more fits

if_le : (p q : Bool) → (p ≡ true → q ≡ true) → cond {A = ℕ} q 0 1 ≤ cond {A = ℕ} p 0 1
if_le true q h = rw (h refl) (le_refl _)
if_le false true h = omega arith
if_le false false h = omega arith

link_more : (w : Want) (a b : Bool) → (a ≡ true → b ≡ true) → wanted_link w a ≡ true → wanted_link w b ≡ true
link_more (Refer chain uid page makes) a b h is = h is
link_more _ a b h is = refl

pub lack_le : (s t : Outline) (w : Want) (a b : Bool) (r q : Option Transfer) → (a ≡ true → b ≡ true)
    → (wanted_fits s w r ≡ true → wanted_fits t w q ≡ true) → want_lack t w b q ≤ want_lack s w a r
lack_le s t w a b r q link fits =
    if_le (wanted_link w a && wanted_fits s w r) (wanted_link w b && wanted_fits t w q) (λ h.
    let both = and_parts (wanted_link w a) (wanted_fits s w r) h in
    and_from (wanted_link w b) (wanted_fits t w q) (link_more w a b link both.0) (fits both.1))

pub lack_few : (s : Outline) (x : Runner) → lack s x ≤ 1
lack_few s x = by (wanted_link x.want x.linked && wanted_fits s x.want x.reading)
  where
    by : (b : Bool) → cond {A = ℕ} b 0 1 ≤ 1
    by true = omega arith
    by false = omega arith

-- ---- a page that fits goes on to

-- where it was in a frame or read by this processor it is in a frame, and it stays unstored
pub fits_more : (s t : Outline) (r q : Option Transfer) (uid page : ℕ) (makes : Bool)
    → (is_here s.frames uid page ≡ true → is_here t.frames uid page ≡ true)
    → (reads_page r uid page ≡ true → (is_here t.frames uid page ≡ true) ⊎ (reads_page q uid page ≡ true))
    → (s.stored uid page ≡ false → t.stored uid page ≡ false)
    → page_fits s r uid page makes ≡ true → page_fits t q uid page makes ≡ true
fits_more s t r q uid page makes here reads stored h =
    by (is_here s.frames uid page) (reads_page r uid page) (s.stored uid page) refl refl refl h
  where
    by : (a b c : Bool) → is_here s.frames uid page ≡ a → reads_page r uid page ≡ b → s.stored uid page ≡ c
        → (a || (b || (not c && not makes))) ≡ true → page_fits t q uid page makes ≡ true
    by true b c i j k g = or_left _ _ (here i)
    by false true c i j k g = elim (reads j) [
      | inl e ↦ or_left _ _ e
      | inr e ↦ rw e (or_true (is_here t.frames uid page))
    ]
    by false false true i j k g = let no = g in absurd cc
    by false false false i j k g = rw (stored k) (last (is_here t.frames uid page) (reads_page q uid page) (not makes)
        g)
      where
        last : (x y z : Bool) → z ≡ true → (x || (y || z)) ≡ true
        last false false z e = e
        last _ _ z e = refl

-- the same for the page that a command wants
pub wanted_more : (s t : Outline) (w : Want) (r q : Option Transfer)
    → ((uid page : ℕ) (makes : Bool) → (is_here s.frames uid page ≡ true → is_here t.frames uid page ≡ true))
    → ((uid page : ℕ) → reads_page r uid page ≡ true → (is_here t.frames uid page ≡ true)
    ⊎ (reads_page q uid page ≡ true)) → ((uid page : ℕ) → s.stored uid page ≡ false → t.stored uid page ≡ false)
    → wanted_fits s w r ≡ true → wanted_fits t w q ≡ true
wanted_more s t (Refer chain uid page makes) r q here reads stored h =
    fits_more s t r q uid page makes (here uid page makes) (reads uid page) (stored uid page) h
wanted_more s t (Truncate chain uid (Some page)) r q here reads stored h =
    fits_more s t r q uid page false (here uid page false) (reads uid page) (stored uid page) h
wanted_more s t _ r q here reads stored h = refl

-- ---- frames

-- a frame that isn't of a page becomes another that isn't
pub here_same : (frames : List Frame) (f uid page : ℕ) (x : Frame) → f < length frames
    → is_of uid page (frame_in frames f) ≡ false → is_of uid page x ≡ false
    → is_here (set frames f x) uid page ≡ is_here frames uid page
unfolding is_here
here_same frames f uid page x lt was now = cc (any_set (is_of uid page) frames f x frame.Free lt was)

-- a frame that wasn't of a page becomes any other
pub here_more : (frames : List Frame) (f uid page : ℕ) (x : Frame) → f < length frames
    → is_of uid page (frame_in frames f) ≡ false → is_here frames uid page ≡ true
    → is_here (set frames f x) uid page ≡ true
unfolding is_here
here_more frames f uid page x lt was h = any_set (is_of uid page) frames f x frame.Free lt was
    ∙ rw h (or_true (is_of uid page x))

pub here_now : (frames : List Frame) (f uid page : ℕ) (x : Frame) → f < length frames
    → is_of uid page (frame_in frames f) ≡ false → is_of uid page x ≡ true → is_here (set frames f x) uid page ≡ true
unfolding is_here
here_now frames f uid page x lt was now =
    any_set (is_of uid page) frames f x frame.Free lt was ∙ or_left (is_of uid page x) _ now

-- ---- a page leaves its frame

pub spared_not : (w : Want) (x : Frame) → is_spared w x ≡ true → is_wanted w x ≡ false
spared_not (Refer chain uid page makes) frame.Free h = refl
spared_not (Truncate chain uid None) frame.Free h = refl
spared_not (Truncate chain uid (Some page)) frame.Free h = refl
spared_not (Length uid) frame.Free h = refl
spared_not Other frame.Free h = refl
spared_not w (frame.Started uid page) h = let no = h in absurd cc
spared_not w (frame.Bound uid page used modified) h =
    not-true (is_wanted w (frame.Bound uid page used modified)) h

not_page : (x : Frame) (uid page : ℕ) → is_of uid page x ≡ false → page_of x ≢ Some (uid, page)
not_page (frame.Bound u q used modified) uid page out h =
    let a = ap (λ (o : Option (ℕ × ℕ)). (page_or_zero o).0) h in
    let b : q ≡ page = ap (λ (o : Option (ℕ × ℕ)). (page_or_zero o).1) h in
    let is : (eqb u uid && eqb q page) ≡ true = and_from (eqb u uid) (eqb q page) (eq-eqb u uid a) (eq-eqb q page b) in
    absurd (cc (sym is ∙ out))
not_page _ uid page out h = absurd (none-some (uid, page) h)

pub freed_fits : {s : Outline} {f : ℕ} {stored : ℕ → ℕ → Bool} {full : ℕ → Bool} (w : Want) (r : Option Transfer)
    → f < length s.frames → is_spared w (frame_in s.frames f) ≡ true → MayRelease s f stored full
    → wanted_fits s w r ≡ true → wanted_fits (with_stored (with_frame s f frame.Free) stored full) w r ≡ true
freed_fits {s} {f} {stored} {full} (Refer chain uid page makes) r lt spared may h =
    page_same s f stored full uid page makes r lt (spared_not (Refer chain uid page makes) (frame_in s.frames f) spared)
    may ∙ h
  where
    page_same : (s : Outline) (f : ℕ) (stored : ℕ → ℕ → Bool) (full : ℕ → Bool) (uid page : ℕ) (makes : Bool)
        (r : Option Transfer)
        → f < length s.frames → is_of uid page (frame_in s.frames f) ≡ false → MayRelease s f stored full
        → page_fits (with_stored (with_frame s f frame.Free) stored full) r uid page makes
        ≡ page_fits s r uid page makes
    page_same s f stored full uid page makes r lt out may =
        let kept = may.others uid page (not_page (frame_in s.frames f) uid page out) in
        rw ((here_same s.frames f uid page frame.Free lt out refl), kept) refl
freed_fits {s} {f} (Truncate chain uid (Some page)) r lt spared may h =
    let out = spared_not (Truncate chain uid (Some page)) (frame_in s.frames f) spared in
    let kept = may.others uid page (not_page (frame_in s.frames f) uid page out) in
    rw ((here_same s.frames f uid page frame.Free lt out refl), kept) h
freed_fits _ r lt spared may h = refl
