-- What an entry that is allowed makes of the tables is the custody after it; their sizes stay, and what is active is
use Rattle.std.proofs.lemmas.Grind.{common_steps}
-- in the tree.
use Rattle.custody.proofs.Prelude.{nat_tests, ◌≡◌, ◌<◌, ◌+◌, ◌⊎◌, ℕ, Bool, true, false, List, [], ◌++◌, Option, Some, None, length, refl, ap, ◌∙◌, inl, inr, arith, length-set, is_some, IsSomeAnd, eqb_tells, get_or-set_same, get_or-set_other, What, Plan, Entry, node_in, uid_of, after_entry, Store, known_uid, IsAllowed, next_command, Seat, offline, is_current_descriptor, is_current_frame, is_going_descriptor, is_going_frame, is_started, custody_next, is_try, released_by, with_seat, FrameUse, DescriptorUse, frame_at, descriptor_at, AreNodes, AreTablesOf, Tables, custody_of, row_at, seat_at, use_in, Advances, put_descriptor, put_frame, warn_from, Kept, Shows}
use Rattle.book.specs.declared.entries.Entry.TheVariants as entry
use Rattle.custody_model.specs.declared.FrameUse.TheVariants as frame
use Rattle.custody_model.specs.declared.DescriptorUse.TheVariants as descriptor
use Rattle.custody.proofs.AdvanceLaws.{active_put_at, descriptor_put, dropped_is, frame_put, seat_put, signal_is, there, use_put, warn_length}
use Rattle.custody.proofs.KeptNodes.{nodes_put, use_as}

-- what follows from each of six
pub any_of_six : {A B C D E F P : Type 0} → A ⊎ (B ⊎ (C ⊎ (D ⊎ (E ⊎ F)))) → (A → P) → (B → P) → (C → P) → (D → P)
    → (E → P) → (F → P) → P
any_of_six (inl x) a b c d e f = a x
any_of_six (inr (inl x)) a b c d e f = b x
any_of_six (inr (inr (inl x))) a b c d e f = c x
any_of_six (inr (inr (inr (inl x)))) a b c d e f = d x
any_of_six (inr (inr (inr (inr (inl x))))) a b c d e f = e x
any_of_six (inr (inr (inr (inr (inr x))))) a b c d e f = f x

-- ---- places that are there

some_and : {A : Type 0} (o : Option A) (P : A → Type 0) → IsSomeAnd o P → is_some o ≡ true
some_and None P h = absurd h
some_and (Some a) P h = refl

online_there : (t : Tables) (d : ℕ) → (seat_at t.seats d).online ≡ true → d < length t.seats
online_there t d h = there (λ (s : Seat). s.online) offline refl t.seats d h

runs_there : (t : Tables) (d : ℕ) → is_some (seat_at t.seats d).process ≡ true → d < length t.seats
runs_there t d h = there (λ (s : Seat). is_some s.process) offline refl t.seats d h

due_there : (t : Tables) (d : ℕ) (w : What) → (seat_at t.seats d).due ≡ Some w → d < length t.seats
due_there t d w h = there (λ (s : Seat). is_some s.due) offline refl t.seats d (ap (λ (o : Option What). is_some o) h)

frame_there : (test : FrameUse → Bool) → test frame.Free ≡ false → (t : Tables) (f : ℕ) → test (frame_at t.frames f)
    ≡ true → f < length t.frames
frame_there test e t f h = there test frame.Free e t.frames f h

frame_in : (p : Plan) (t : Tables) (f : ℕ) → AreTablesOf p t → f < p.frames → f < length t.frames
frame_in p t f of h = let z = of.frames in omega (arith, h, z)

seat_in : (p : Plan) (t : Tables) (d : ℕ) → AreTablesOf p t → d < p.processors → d < length t.seats
seat_in p t d of h = let z = of.processors in omega (arith, h, z)

-- a descriptor that passes a test which a free one doesn't pass is one of the tables
descriptor_there : (test : DescriptorUse → Bool) → test descriptor.Free ≡ false → (t : Tables) (k n : ℕ)
    → test (descriptor_at (row_at t.descriptors k) n) ≡ true → (k < length t.descriptors)
    × (n < length (row_at t.descriptors k))
descriptor_there test e t k n h =
    grind (arith, nat_tests, common_steps, there test descriptor.Free e (row_at t.descriptors k) n h)

known_there : (s : Store) (k n u : ℕ) → known_uid s k n ≡ Some u → k < length s.known
known_there s k n u h = there (λ (row : List (Option ℕ)). is_some (uid_of row n)) [] refl s.known k
    (ap (λ (o : Option ℕ). is_some o) h)

-- ---- the custody after an entry

pub custody_advanced : (p : Plan) (k : Kept) (s : Store) (t v : Tables) (e : Entry) → Shows p k s → AreTablesOf p t
    → IsAllowed p s (custody_of t) e → Advances p s t v e → custody_of v ≡ custody_next p s (custody_of t) e
unfolding custody_next
custody_advanced p kept s t v (entry.Do k i d f r) shows of may a =
    let command = next_command p s k in
    let l = runs_there t d (ap (λ (o : Option ℕ). is_some o) may.process) in
    let seat : Seat = record (seat_at t.seats d) {
      count = (seat_at t.seats d).count + 1;
      tried = is_try s k command r;
    } in
    ap custody_of a ∙ (λ i. record (seat_put t d seat l i) { ready = t.ready ++ released_by p k command })
custody_advanced p kept s t v (entry.Release u q) shows of may a = ap custody_of a
custody_advanced p kept s t v (entry.Fault k) shows of may a = ap custody_of a
custody_advanced p kept s t v (entry.Moved k u w) shows of may a = ap custody_of a
custody_advanced p kept s t v (entry.Online d) shows of may a = ap custody_of a
    ∙ seat_put t d _ (seat_in p t d of may.processor)
custody_advanced p kept s t v (entry.Load d k) shows of may a =
    grind (arith, nat_tests, common_steps, online_there t d may.online, seat_put)
custody_advanced p kept s t v (entry.Leave d) shows of may a =
    grind (arith, nat_tests, common_steps, runs_there t d (some_and (seat_at t.seats d).process _ may), seat_put)
custody_advanced p kept s t v (entry.Activate u) shows of may a =
    grind (arith, nat_tests, common_steps, use_put t u (use_in (node_in s.nodes u)))
custody_advanced p kept s t v (entry.Deactivate u) shows of may a = ap custody_of a ∙ use_put t u None
custody_advanced p kept s t v (entry.Start f u q) shows of may a = ap custody_of a
    ∙ frame_put t f _ (frame_in p t f of may.there)
custody_advanced p kept s t v (entry.Lose f) shows of may a = ap custody_of a
    ∙ frame_put t f _ (frame_there is_started refl t f may)
custody_advanced p kept s t v (entry.Here f u q) shows of (inl may) a =
    ap custody_of a ∙ frame_put t f _ (frame_there is_started refl t f
    (ap (λ (x : FrameUse). is_started x) may.started))
custody_advanced p kept s t v (entry.Here f u q) shows of (inr may) a = ap custody_of a
    ∙ frame_put t f _ (frame_in p t f of may.there)
custody_advanced p kept s t v (entry.Connect k n u) shows of may a =
    let known = known_there s k n u may.known in
    let kl : k < length t.descriptors =
    let x = shows.shown.knowers in
    let y = of.processes in omega (arith, known, x, y) in
    let nl : n < length (row_at t.descriptors k) =
    let below = a.1 may.known in
    let size = of.numbers k kl in omega (arith, below, size) in
    ap custody_of a.0 ∙ descriptor_put t k n _ kl nl
custody_advanced p kept s t v (entry.Take f) shows of may a = ap custody_of a
    ∙ frame_put t f _ (frame_there is_current_frame refl t f may)
custody_advanced p kept s t v (entry.Cut k n) shows of may a =
    let l = descriptor_there is_current_descriptor refl t k n may in ap custody_of a ∙ descriptor_put t k n _ l.0 l.1
custody_advanced p kept s t v (entry.Signal d w) shows of may a = ap custody_of a
    ∙ signal_is t d w (online_there t d may.online)
custody_advanced p kept s t v (entry.Clear d w) shows of may a = ap custody_of a ∙ seat_put t d _ (due_there t d w may)
    ∙ ap (λ (x : Seat). with_seat (custody_of t) d (record x { due = None })) (dropped_is t w (seat_at t.seats d))
custody_advanced p kept s t v (entry.FillSeg d n) shows of may a = ap custody_of a
    ∙ seat_put t d _ (runs_there t d (some_and (seat_at t.seats d).process _ may))
custody_advanced p kept s t v (entry.FillPage d f) shows of may a = ap custody_of a
    ∙ seat_put t d _ (seat_in p t d of may.processor)
custody_advanced p kept s t v (entry.GonePage f) shows of may a = ap custody_of a
    ∙ frame_put t f _ (frame_there is_going_frame refl t f may.going)
custody_advanced p kept s t v (entry.BackPage f) shows of may a = ap custody_of a
    ∙ frame_put t f _ (frame_there is_going_frame refl t f may.going)
custody_advanced p kept s t v (entry.GoneSeg k n) shows of may a =
    let l = descriptor_there is_going_descriptor refl t k n may.going in ap custody_of a
    ∙ descriptor_put t k n _ l.0 l.1
custody_advanced p kept s t v (entry.BackSeg k n) shows of may a =
    let l = descriptor_there is_going_descriptor refl t k n may.going in ap custody_of a
    ∙ descriptor_put t k n _ l.0 l.1

-- ---- the sizes of the tables

of_frame : (p : Plan) (t : Tables) (f : ℕ) (x : FrameUse) → AreTablesOf p t → AreTablesOf p (put_frame t f x)
of_frame p t f x of = let frames = length-set t.frames f x ∙ of.frames in assumption

of_descriptor : (p : Plan) (t : Tables) (k n : ℕ) (x : DescriptorUse) → AreTablesOf p t
    → AreTablesOf p (put_descriptor t k n x)
of_descriptor p t k n x of =
    grind (arith, nat_tests, common_steps, length-set, eqb_tells, get_or-set_same, get_or-set_other)

of_seats : (p : Plan) (t : Tables) (seats : List Seat) (ready : List ℕ) → length seats ≡ length t.seats
    → AreTablesOf p t → AreTablesOf p (record t { seats = seats; ready = ready })
of_seats p t seats ready e of = let processors = e ∙ of.processors in assumption

pub of_advanced : (p : Plan) (s : Store) (t v : Tables) (e : Entry) → AreTablesOf p t → Advances p s t v e
    → AreTablesOf p v
of_advanced p s t v (entry.Release u q) of a = rw a of
of_advanced p s t v (entry.Fault k) of a = rw a of
of_advanced p s t v (entry.Moved k u w) of a = rw a of
of_advanced p s t v (entry.Activate u) of a = rw a assumption
of_advanced p s t v (entry.Deactivate u) of a = rw a assumption
of_advanced p s t v (entry.Start f u q) of a = rw a (of_frame p t f _ of)
of_advanced p s t v (entry.Lose f) of a = rw a (of_frame p t f _ of)
of_advanced p s t v (entry.Here f u q) of a = rw a (of_frame p t f _ of)
of_advanced p s t v (entry.Take f) of a = rw a (of_frame p t f _ of)
of_advanced p s t v (entry.GonePage f) of a = rw a (of_frame p t f _ of)
of_advanced p s t v (entry.BackPage f) of a = rw a (of_frame p t f _ of)
of_advanced p s t v (entry.Connect k n u) of a = rw a.0 (of_descriptor p t k n _ of)
of_advanced p s t v (entry.Cut k n) of a = rw a (of_descriptor p t k n _ of)
of_advanced p s t v (entry.GoneSeg k n) of a = rw a (of_descriptor p t k n _ of)
of_advanced p s t v (entry.BackSeg k n) of a = rw a (of_descriptor p t k n _ of)
of_advanced p s t v (entry.Signal d w) of a =
    rw a (of_seats p t _ _ (length-set (warn_from d w 0 t.seats) d _ ∙ warn_length d 0 w t.seats) of)
of_advanced p s t v (entry.Do k i d f r) of a = rw a (of_seats p t _ _ (length-set t.seats d _) of)
of_advanced p s t v (entry.Online d) of a = rw a (of_seats p t _ _ (length-set t.seats d _) of)
of_advanced p s t v (entry.Load d k) of a = rw a (of_seats p t _ _ (length-set t.seats d _) of)
of_advanced p s t v (entry.Leave d) of a = rw a (of_seats p t _ _ (length-set t.seats d _) of)
of_advanced p s t v (entry.Clear d w) of a = rw a (of_seats p t _ _ (length-set t.seats d _) of)
of_advanced p s t v (entry.FillSeg d n) of a = rw a (of_seats p t _ _ (length-set t.seats d _) of)
of_advanced p s t v (entry.FillPage d f) of a = rw a (of_seats p t _ _ (length-set t.seats d _) of)

-- ---- the active segments in the tree

-- which active segments an entry leaves
pub active_advanced : (p : Plan) (s : Store) (t v : Tables) (e : Entry) → Advances p s t v e → AreNodes s.nodes t.active
    → AreNodes (after_entry p s e).nodes t.active → AreNodes (after_entry p s e).nodes v.active
unfolding after_entry
active_advanced p s t v o a old nodes = grind (arith, nat_tests, common_steps, nodes_put, active_put_at, use_as)
