-- What stays where pages of an active segment are stored no more.
use Rattle.storage_ops.proofs.Prelude.{◌≡◌, ◌≢◌, ℕ, ◌+◌, ◌/◌, ◌<◌, ◌≤◌, Bool, true, false, cond, eqb, ◌&&◌, ◌||◌, List, [], get_or, length, nat_le, nat_lt, set, Option, Some, None, refl, sym, ap, subst, ◌∙◌, arith, inl, inr, cases_eq, cases_lt, eq-eqb, eqb-true, ne_eqb, or_parts, nat_tests, get_or-set_other, get_or-set_same, get_or-map, Core, bound_page, frame_at, reads_of, started_page, with_frame, Frame, Free, Ptw, Here, Leaving, Null, Out, ptw_at, ActiveSegs, IsActive, table_at, uid_in_place, uid_in, dropped, Home, Plain, binding_at, bindings, IsNotStarted, IsTableOf, frame_of, has_record, is_out, place_of, table_of, word_of, worded, between, Storage, home_of, IsTakenPast, Unstores, is_here, unbound, shown_within, within_from, off_and_on, and_false, and-true, ◌∷◌, suc, zero, started_from}
use Rattle.storage_ops.proofs.Known.{set_told}
use Rattle.storage_ops.proofs.Paged.{active_place}

-- ---- the words of a segment's page table

-- a word that says that the page has a record is one of the table's
pub word_within : (table : List Ptw) (q : ℕ) → has_record (ptw_at table q) ≡ true → q < length table
word_within table q on =
    within_from table q Null (λ null. off_and_on (has_record (ptw_at table q)) (ap has_record null) on)

module _ (ast : ActiveSegs) (u q : ℕ) (w : Ptw) where
  pub worded_other : (r : ℕ) → r ≢ q → word_of (worded ast u q w) u r ≡ word_of ast u r
  worded_other r apart = set_told (λ (t : List Ptw). ptw_at t r ≡ word_of ast u r) ast.tables
      (place_of ast.entries u) (place_of ast.entries u) [] (get_or-set_other (table_of ast u) q r w Null apart) refl

  pub worded_here : IsActive ast.entries u → length ast.tables ≡ length ast.entries → q < length (table_of ast u)
      → word_of (worded ast u q w) u q ≡ w
  worded_here active places within =
      let at =
      shown_within uid_in ast.entries (place_of ast.entries u) None u refl (active_place ast.entries u active) in
      cc (
        get_or-set_same ast.tables (place_of ast.entries u) (set (table_of ast u) q w) [] (omega (arith, places)),
        get_or-set_same (table_of ast u) q w Null within,
      )

  pub worded_table : (place : ℕ) → IsActive ast.entries u → uid_in_place ast.entries place ≢ Some u
      → table_at (worded ast u q w).tables place ≡ table_at ast.tables place
  worded_table place active apart = get_or-set_other ast.tables (place_of ast.entries u) place
      (set (table_of ast u) q w) [] (λ same. apart (cc (active_place ast.entries u active)))

-- ---- what frames are bound to

freed_here : (frames : List Frame) (f : ℕ) → get_or (set frames f Free) f Free ≡ Free
freed_here [] f = refl
freed_here (x ∷ frames) zero = refl
freed_here (x ∷ frames) (suc f) = freed_here frames f

freed_at : (core : Core) (f g : ℕ) → binding_at (bindings (with_frame core f Free)) g
    ≡ cond (eqb g f) None (binding_at (bindings core) g)
freed_at core f g = get_or-map bound_page (set core.frames f Free) g Free ∙ elim (cases_eq g f) [
  | inl same ↦ rw (eq-eqb g f same, same, freed_here core.frames f) refl
  | inr apart ↦ rw (ne_eqb g f apart, get_or-set_other core.frames f g Free Free apart)
      (sym (get_or-map bound_page core.frames g Free))
]

-- a binding that isn't that of a page stays
pub binding_stays : (u q : ℕ) (o : Option (ℕ × ℕ)) → o ≢ Some (u, q) → unbound u (λ r. eqb r q) o ≡ o
binding_stays u q o h1 = grind (arith, eqb-true)

module _ (core : Core) (u q : ℕ) (table : List Ptw) (t : IsTableOf (bindings core) u table) where
  -- no frame is bound to a page whose word names none
  pub bound_none : frame_of (ptw_at table q) ≡ None → (g : ℕ)
      → binding_at (bindings core) g ≡ unbound u (λ r. eqb r q) (binding_at (bindings core) g)
  bound_none none g = sym (binding_stays u q (binding_at (bindings core) g) (λ is. cc (none, t.named g q is)))

  -- the one frame that is bound to a page is free now
  pub bound_free : (f : ℕ) → frame_of (ptw_at table q) ≡ Some f → (g : ℕ)
      → binding_at (bindings (with_frame core f Free)) g ≡ unbound u (λ r. eqb r q) (binding_at (bindings core) g)
  bound_free f at g = freed_at core f g ∙ elim (cases_eq g f) [
    | inl same ↦ rw (same, eq-eqb f f refl, t.back f q at, eq-eqb u u refl, eq-eqb q q refl) refl
    | inr apart ↦ rw (ne_eqb g f apart)
        (sym (binding_stays u q (binding_at (bindings core) g) (λ is. apart (cc (t.named g q is)))))
  ]

pub bound_dropped : (old now : Plain) (u q : ℕ) (home : Home) (table : List Ptw) (w : Ptw)
    → IsTableOf (bindings old.core) u table → w ≡ ptw_at table q → is_here w ≡ false
    → now ≡ dropped old home q w → (g : ℕ)
    → binding_at (bindings now.core) g ≡ unbound u (λ r. eqb r q) (binding_at (bindings old.core) g)
bound_dropped old now u q home table Null t is off effect g =
    rw effect (bound_none old.core u q table t (ap frame_of (sym is)) g)
bound_dropped old now u q home table (Out r) t is off effect g =
    rw effect (bound_none old.core u q table t (ap frame_of (sym is)) g)
bound_dropped old now u q home table (Leaving f) t is off effect g =
    rw effect (bound_free old.core u q table t f (ap frame_of (sym is)) g)
bound_dropped old now u q home table (Here f) t is off effect g = cc

-- ---- one after the other

fused_bound : (u : ℕ) (t r : ℕ → Bool) (o : Option (ℕ × ℕ))
    → unbound u r (unbound u t o) ≡ unbound u (λ q. t q || r q) o
fused_bound u t r o = grind arith

pub none_bound : (u : ℕ) (o : Option (ℕ × ℕ)) → o ≡ unbound u (λ q. false) o
none_bound u None = refl
none_bound u (Some x) = rw (and_false (eqb x.0 u))

-- a store as it was, where the pages that pass the test have no word and no frame
pub unstores_still : {D : Type 0} {t : Storage D} {u : ℕ} {test : ℕ → Bool}
    → ((q : ℕ) → test q ≡ true → word_of t.segs.ast u q ≡ Null) → ((f : ℕ) → binding_at (bindings t.segs.pages.core) f
    ≡ unbound u test (binding_at (bindings t.segs.pages.core) f)) → Unstores t t u test
unstores_still gone bound = assumption

pub unstores_none : {D : Type 0} (t : Storage D) (u : ℕ) → Unstores t t u (λ q. false)
unstores_none t u = unstores_still (λ q on. cc) (λ f. none_bound u (binding_at (bindings t.segs.pages.core) f))

pub unstores_both : {D : Type 0} {old mid new : Storage D} {u : ℕ} {t r : ℕ → Bool} → Unstores old mid u t
    → Unstores mid new u r → Unstores old new u (λ q. t q || r q)
unstores_both {old} {new} {u} {t} {r} x y = record {
  nodes = cc;
  entries = cc;
  next = cc;
  places = cc;
  sizes = cc;
  hands = cc;
  tables = λ place apart. y.tables place (λ is. apart (cc (x.places, is))) ∙ x.tables place apart;
  kept = λ q off. y.kept q (or_parts (t q) (r q) off).1 ∙ x.kept q (or_parts (t q) (r q) off).0;
  gone = λ q on. by q (t q) (r q) refl refl on;
  bound = λ f. cc (y.bound f, x.bound f, fused_bound u t r (binding_at (bindings old.segs.pages.core) f));
  reads = cc;
  links = cc;
  moving = cc;
  whos = cc;
  drives = cc;
}
  where
    by : (q : ℕ) (a b : Bool) → t q ≡ a → r q ≡ b → (a || b) ≡ true → word_of new.segs.ast u q ≡ Null
    by q a true e f on = y.gone q f
    by q true false e f on = y.kept q f ∙ x.gone q e
    by q false false e f on = cc

pub unstores_same : {D : Type 0} {old new : Storage D} {u : ℕ} {t r : ℕ → Bool} → ((q : ℕ) → t q ≡ r q)
    → Unstores old new u t → Unstores old new u r
unstores_same {old} {new} {u} same x = subst (λ (k : ℕ → Bool). Unstores old new u k) (λ i. λ q. same q i) x

-- the pages past the last one are in no frame, and their words are `Null` already
pub unstores_past : {D : Type 0} {old new : Storage D} {u : ℕ} (from page : ℕ) → Unstores old new u (between from page)
    → ((q : ℕ) → page ≤ q → word_of old.segs.ast u q ≡ Null)
    → ((q : ℕ) → page ≤ q → (f : ℕ) → binding_at (bindings old.segs.pages.core) f ≢ Some (u, q))
    → Unstores old new u (λ q. nat_le from q)
unstores_past {old} {new} {u} from page x null unframed = assumption (kept, gone, bound)
  where
    below : (q : ℕ) → q < page → nat_lt q page ≡ true
    below q lt = grind (arith, nat_tests)

    beyond : (q : ℕ) → page ≤ q → nat_lt q page ≡ false
    beyond q past = grind (arith, nat_tests)

    kept : (q : ℕ) → nat_le from q ≡ false → word_of new.segs.ast u q ≡ word_of old.segs.ast u q
    kept q off = x.kept q (cc)

    gone : (q : ℕ) → nat_le from q ≡ true → word_of new.segs.ast u q ≡ Null
    gone q on = elim (cases_lt q page) [
      | inl lt ↦ x.gone q (rw on (below q lt))
      | inr past ↦ x.kept q (rw on (beyond q past)) ∙ null q past
    ]

    by : (f : ℕ) (o : Option (ℕ × ℕ)) → binding_at (bindings old.segs.pages.core) f ≡ o
        → unbound u (between from page) o ≡ unbound u (λ q. nat_le from q) o
    by f None e = refl
    by f (Some y) e = elim (cases_lt y.1 page) [
      | inl lt ↦ rw (below y.1 lt, and-true (nat_le from y.1))
      | inr past ↦ apart (eqb y.0 u) refl past
    ]
      where
        apart : (z : Bool) → eqb y.0 u ≡ z → page ≤ y.1
            → cond {A = Option (ℕ × ℕ)} (z && (nat_le from y.1 && nat_lt y.1 page)) None (Some y)
            ≡ cond {A = Option (ℕ × ℕ)} (z && nat_le from y.1) None (Some y)
        apart true is past = absurd (unframed y.1 past f (e ∙ λ i. Some (eqb-true y.0 u is i, y.1)))
        apart false is past = refl

    bound : (f : ℕ) → binding_at (bindings new.segs.pages.core) f
        ≡ unbound u (λ q. nat_le from q) (binding_at (bindings old.segs.pages.core) f)
    bound f = x.bound f ∙ by f (binding_at (bindings old.segs.pages.core) f) refl

pub home_still : {D : Type 0} {old new : Storage D} {u : ℕ} {test : ℕ → Bool} (v : ℕ) → Unstores old new u test
    → home_of new.accounts v ≡ home_of old.accounts v
home_still v x = rw (x.nodes, x.entries)

pub active_still : {D : Type 0} {old new : Storage D} {u : ℕ} {test : ℕ → Bool} → Unstores old new u test
    → IsActive old.segs.ast.entries u → IsActive new.segs.ast.entries u
active_still x active = (active.0, cc)

pub unrecorded : (w : Ptw) → has_record w ≡ false → w ≡ Null
unrecorded Null e = refl
unrecorded _ e = cc

-- ---- what is being read

-- the same where the reads are as they were
pub idle_still : {old now : Core} {u q : ℕ} → reads_of now ≡ reads_of old → IsNotStarted old u q → IsNotStarted now u q
idle_still {old} {now} {u} {q} same idle = record {
  none = λ f is. idle.none f (started_from (frame_at old f) u q
      (cc (get_or-map started_page old.frames f Free, same, get_or-map started_page now.frames f Free, is)));
}

pub taken_past : {D : Type 0} {old new : Storage D} {u words : ℕ}
    → Unstores old new u (λ q. nat_le (words / 1024 + 1) q)
    → IsTakenPast old.segs u words → IsTakenPast new.segs u words
taken_past {old} {new} {u} {words} x h = record {
  active = active_still x h.active;
  past = record {
    taken = λ q le. elim (cases_lt q (words / 1024 + 1)) [
      | inl lt ↦ ap is_here (x.kept q (before q lt)) ∙ h.past.taken q le
      | inr past ↦ ap is_here (x.gone q (beyond q past))
    ];
    idle = λ q le. idle_still x.reads (h.past.idle q le);
  };
  cut = λ some. ap is_out (x.kept (words / 1024) (before (words / 1024) (omega arith))) ∙ h.cut some;
}
  where
    before : (q : ℕ) → q < words / 1024 + 1 → nat_le (words / 1024 + 1) q ≡ false
    before q lt = grind (arith, nat_tests)

    beyond : (q : ℕ) → words / 1024 + 1 ≤ q → nat_le (words / 1024 + 1) q ≡ true
    beyond q past = grind (arith, nat_tests)
