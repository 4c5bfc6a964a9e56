-- What each entry makes of the tables is what it makes of custody.
use Rattle.std.proofs.lemmas.Grind.{common_steps}
use Rattle.custody.proofs.Prelude.{nat_tests, ◌≡◌, ◌<◌, ◌+◌, ◌-◌, ℕ, suc, zero, Bool, true, false, cond, eqb, ◌&&◌, List, [], ◌∷◌, Option, Some, None, get_or, length, set, refl, sym, ap, ◌∙◌, inl, inr, arith, is_some, Decides-eqb, eqb_tells, get_or-set_same, get_or-set_other, What, Seat, cleared, names_frame, names_descriptor, names_number, offline, told, with_active, with_descriptor, with_frame, with_seat, signalled, FrameUse, DescriptorUse, frame_at, descriptor_at, Tables, active_at, custody_of, row_at, seat_at, drop_at, dropped, names_held, names_lead, names_use, put_active, put_descriptor, put_frame, put_seat, put_use, warn_from, warn_others, warned, with_place, ActiveUse}
use Rattle.assoc_mem.specs.declared.What.TheVariants as what
use Rattle.custody_model.specs.declared.FrameUse.TheVariants as frame
use Rattle.custody.proofs.PutLaws.{grown_at, place_there}

-- ---- places that are there

-- what is not as it is past the end is there
pub there : {X : Type 0} (test : X → Bool) (d : X) → test d ≡ false → (xs : List X) (i : ℕ) → test (get_or xs i d)
    ≡ true → i < length xs
there test d e [] i h = cc
there test d e (x ∷ xs) zero h = omega arith
there test d e (x ∷ xs) (suc i) h = omega (arith, there test d e xs i h)

-- ---- one place of a table

put_cases : {X : Type 0} (xs : List X) (i j : ℕ) (x d : X) → i < length xs → get_or (set xs i x) j d
    ≡ cond (eqb j i) x (get_or xs j d)
put_cases xs i j x d l =
    grind (arith, nat_tests, common_steps, eqb_tells j i, get_or-set_same xs i x d l, get_or-set_other)

pub frame_put : (t : Tables) (f : ℕ) (x : FrameUse) → f < length t.frames → custody_of (put_frame t f x)
    ≡ with_frame (custody_of t) f x
frame_put t f x l = λ i. record (custody_of t) { frame = λ g. put_cases t.frames f g x frame.Free l i }

pub seat_put : (t : Tables) (d : ℕ) (s : Seat) → d < length t.seats → custody_of (put_seat t d s)
    ≡ with_seat (custody_of t) d s
seat_put t d s l = λ i. record (custody_of t) { seat = λ e. put_cases t.seats d e s offline l i }

row_put : (rows : List (List DescriptorUse)) (k n j m : ℕ) (x : DescriptorUse) → k < length rows
    → n < length (row_at rows k) → descriptor_at (row_at (set rows k (set (row_at rows k) n x)) j) m
    ≡ cond (eqb j k && eqb m n) x (descriptor_at (row_at rows j) m)
row_put rows k n j m x kl nl =
    grind (arith, nat_tests, common_steps, eqb_tells, get_or-set_same, put_cases, get_or-set_other)

pub descriptor_put : (t : Tables) (k n : ℕ) (x : DescriptorUse) → k < length t.descriptors
    → n < length (row_at t.descriptors k) → custody_of (put_descriptor t k n x) ≡ with_descriptor (custody_of t) k n x
descriptor_put t k n x kl nl = λ i. record (custody_of t)
    { descriptor = λ j m. row_put t.descriptors k n j m x kl nl i }

-- ---- active segments

pub active_put_at : (uses : List (Option ActiveUse)) (u v : ℕ) (a : Option ActiveUse)
    → active_at (put_active uses u a) v ≡ cond (eqb v u) a (active_at uses v)
active_put_at uses u v a = put_cases (with_place uses u) u v a None (place_there uses u)
    ∙ ap (λ (o : Option ActiveUse). cond (eqb v u) a o) (grown_at uses (u + 1 - length uses) v)

some_cond : (b : Bool) (a o : Option ActiveUse) → is_some (cond b a o) ≡ cond b (is_some a) (is_some o)
some_cond true a o = refl
some_cond false a o = refl

pub use_put : (t : Tables) (u : ℕ) (a : Option ActiveUse) → custody_of (put_use t u a)
    ≡ with_active (custody_of t) u (is_some a)
use_put t u a = grind (arith, nat_tests, common_steps, active_put_at, some_cond)

-- ---- what is dropped

frame_named : (t : Tables) (w : What) (f : ℕ) → names_use w f (frame_at t.frames f) ≡ names_frame (custody_of t) w f
frame_named t what.All f = refl
frame_named t (what.Page g) f = refl
frame_named t (what.Seg u) f = refl

descriptor_named : (t : Tables) (w : What) (k n : ℕ) → names_lead w (descriptor_at (row_at t.descriptors k) n)
    ≡ names_descriptor (custody_of t) w k n
descriptor_named t what.All k n = refl
descriptor_named t (what.Page g) k n = refl
descriptor_named t (what.Seg u) k n = refl

number_named : (t : Tables) (w : What) (o : Option ℕ) (n : ℕ) → names_held t.descriptors w o n
    ≡ names_number (custody_of t) w o n
number_named t w None n = refl
number_named t w (Some k) n = descriptor_named t w k n

pub dropped_is : (t : Tables) (w : What) (s : Seat) → dropped t.frames t.descriptors w s ≡ cleared (custody_of t) w s
dropped_is t w s = grind (arith, nat_tests, common_steps, number_named, frame_named)

-- ---- signals

pub warn_at : (d e i : ℕ) (w : What) (seats : List Seat) → seat_at (warn_from d w e seats) i
    ≡ cond (eqb (e + i) d) (seat_at seats i) (warned w (seat_at seats i))
warn_at d e i w [] = grind (arith, nat_tests, common_steps)
warn_at d e zero w (s ∷ ss) = let z : e + 0 ≡ e = omega arith in ap (λ (n : ℕ). cond (eqb n d) s (warned w s)) (sym z)
warn_at d e (suc i) w (s ∷ ss) = grind (arith, nat_tests, common_steps, warn_at d (e + 1) i w ss)

zero_plus : (n : ℕ) → 0 + n ≡ n
zero_plus n = omega arith

pub warn_length : (d e : ℕ) (w : What) (seats : List Seat) → length (warn_from d w e seats) ≡ length seats
warn_length d e w [] = refl
warn_length d e w (s ∷ ss) = ap suc (warn_length d (e + 1) w ss)

pub signal_is : (t : Tables) (d : ℕ) (w : What) → d < length t.seats → custody_of (drop_at (warn_others t d w) d w)
    ≡ signalled (custody_of t) d w
signal_is t d w l =
    let told_seats : List Seat = warn_from d w 0 t.seats in
    let in_range : d < length told_seats = rw (warn_length d 0 w t.seats) l in
    λ i. record (custody_of t) { seat = λ e. each in_range e i }
  where
    each : d < length (warn_from d w 0 t.seats) → (e : ℕ)
        → seat_at (set (warn_from d w 0 t.seats) d (dropped t.frames t.descriptors w
        (seat_at (warn_from d w 0 t.seats) d))) e ≡ told (custody_of t) d w e (seat_at t.seats e)
    each r e = put_cases (warn_from d w 0 t.seats) d e
        (dropped t.frames t.descriptors w (seat_at (warn_from d w 0 t.seats) d)) offline r ∙ by e
      where
        here : seat_at (warn_from d w 0 t.seats) d ≡ seat_at t.seats d
        here =
            warn_at d 0 d w t.seats ∙ ap (λ (n : ℕ). cond (eqb n d) (seat_at t.seats d) (warned w (seat_at t.seats d)))
            (zero_plus d)
            ∙ ap (λ (b : Bool). cond b (seat_at t.seats d) (warned w (seat_at t.seats d))) ((Decides-eqb d d).1 refl)

        by : (e : ℕ) → cond (eqb e d) (dropped t.frames t.descriptors w (seat_at (warn_from d w 0 t.seats) d))
            (seat_at (warn_from d w 0 t.seats) e) ≡ told (custody_of t) d w e (seat_at t.seats e)
        by e = elim (eqb_tells e d) [
          | inl h ↦ rw h.0 (rw h.1 (ap (λ (s : Seat). dropped t.frames t.descriptors w s) here
              ∙ dropped_is t w (seat_at t.seats d)))
          | inr h ↦ grind (arith, nat_tests, common_steps, warn_at, zero_plus)
        ]
