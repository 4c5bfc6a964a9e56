-- What custody sees of a machine where a segment becomes active, or is it no more.
use Rattle.machine_model.proofs.Basics.{◌≡◌, ◌≢◌, ◌<◌, ℕ, zero, suc, ◌+◌, Bool, true, false, not, ◌||◌, cond, eqb, List, [], ◌∷◌, ◌++◌, length, set, get_or, replicate, Option, Some, None, inl, inr, refl, sym, ap, ◌∙◌, arith, list_any, position_or_len, cases_Bool, or_parts, eqb-true, eqb_tells, leb_tells, get_or_past, get_or-set_same, get_or-set_other, length-set, position_or_len-set, Ptw, ActiveSegs, IsOneToOne, entry_at, table_at, uid_at, uid_in, Sdw, is_for, leads, leads_at, place_of, word_of, filed_word, made_active, table_for, at_put, activated, no_more_active, names, led_to, seen, descriptor_of, is_active, State, passed_there, Ptw as ptw, Active as Entry, active_deactivated as deactivated, Sdw as sdw, Entry as entry, true_from_ne_false, by_place, none_some, found, any_set, or_true}

-- ---- where something is found

module _ {X : Type 0} (p : X → Bool) where
  pub none_length : (xs : List X) → list_any p xs ≡ false → position_or_len p xs ≡ length xs
  none_length [] h = refl
  none_length (x ∷ xs) h = let parts = or_parts (p x) (list_any p xs) h in let ih = none_length xs parts.1 in
      ap (λ (b : Bool). cond (not b) (1 + position_or_len p xs) 0) parts.0 ∙ (omega arith)

  pub some_within : (xs : List X) → list_any p xs ≡ true → position_or_len p xs < length xs
  some_within [] h = cc
  some_within (x ∷ xs) h = by (p x) (some_within xs) h
    where
      by : (b : Bool) → (list_any p xs ≡ true → position_or_len p xs < length xs) → (b || list_any p xs) ≡ true
          → cond (not b) (1 + position_or_len p xs) 0 < length (x ∷ xs)
      by true rest e = omega arith
      by false rest e = omega (arith, rest e)

  pub within_some : (xs : List X) → position_or_len p xs < length xs → list_any p xs ≡ true
  within_some xs h = true_from_ne_false (list_any p xs) (λ e. omega (arith, none_length xs e))

  -- an element stands for one that passes where it does
  any_same : (xs : List X) (i : ℕ) (y d : X) → p y ≡ p (get_or xs i d) → list_any p (set xs i y) ≡ list_any p xs
  any_same [] i y d h = refl
  any_same (x ∷ xs) zero y d h = cc
  any_same (x ∷ xs) (suc i) y d h = cc (any_same xs i y d h)

  -- what passes is found
  pub any_at : (xs : List X) (i : ℕ) (d : X) → p (get_or xs i d) ≡ true → p d ≡ false → list_any p xs ≡ true
  any_at (x ∷ xs) (suc i) d h none = rw (any_at xs i d h none) (or_true (p x))
  any_at _ _ d h none = cc

-- ---- active segments

not_for : (u : ℕ) (o : Option Entry) → uid_in o ≢ Some u → is_for u o ≡ false
not_for u None h = refl
not_for u (Some e) h = elim (eqb_tells e.uid u) [ inl a ↦ absurd (h (cc)) | inr n ↦ n.0 ]

-- the place of an active segment has it
pub active_place : (ast : ActiveSegs) (u : ℕ) → is_active ast u ≡ true
    → (place_of ast.entries u < length ast.entries) × (uid_at ast.entries (place_of ast.entries u) ≡ Some u)
unfolding place_of
active_place ast u h = let within = some_within (is_for u) ast.entries h in
    let own = passed_there (λ (e : Entry). eqb e.uid u) (entry_at ast.entries (position_or_len (is_for u) ast.entries))
    (found (is_for u) ast.entries None within) in (within, cc (eqb-true own.0.uid u own.2))

-- a segment that isn't active has no words
pub inactive_blank : (ast : ActiveSegs) (u : ℕ) → length ast.tables ≡ length ast.entries → is_active ast u ≡ false
    → (q : ℕ) → word_of ast u q ≡ ptw.Null
unfolding place_of
inactive_blank ast u tables h q = rw (get_or_past ast.tables (position_or_len (is_for u) ast.entries) []
    (omega (arith, none_length (is_for u) ast.entries h)))

-- ---- a segment becomes active

names_filed : (o : Option ℕ) → names (filed_word o) ≡ None
names_filed None = refl
names_filed (Some r) = refl

names_pushed : (ws : List Ptw) (w : Ptw) → ((q : ℕ) → names (get_or ws q ptw.Null) ≡ None) → names w ≡ None → (q : ℕ)
    → names (get_or (ws ++ w ∷ []) q ptw.Null) ≡ None
names_pushed [] w before here zero = here
names_pushed [] w before here (suc q) = refl
names_pushed (x ∷ xs) w before here zero = before zero
names_pushed (x ∷ xs) w before here (suc q) = names_pushed xs w (λ r. before (suc r)) here q

-- no word of a page table by a file map names a frame
pub names_table : (places : List (Option ℕ)) (n q : ℕ) → names (get_or (table_for places n) q ptw.Null) ≡ None
unfolding table_for
names_table places zero q = refl
names_table places (suc n) q = names_pushed (table_for places n) (filed_word (get_or places n None))
    (names_table places n) (names_filed (get_or places n None)) q

module _ (ast : ActiveSegs) (u place : ℕ) (superior : Option ℕ) (table : List Ptw)
    (free : entry_at ast.entries place ≡ None)
    (within : place < length ast.entries) (tables : length ast.tables ≡ length ast.entries)
    (inactive : is_active ast u ≡ false) where
  abbrev now : ActiveSegs
  now = made_active ast place u superior table

  for_new : (v : ℕ) → v ≢ u → is_for v (Some (record { uid = u; superior = superior }))
      ≡ is_for v (entry_at ast.entries place)
  for_new v n = cc (not_for v (Some (record { uid = u; superior = superior })) (λ e. n (sym cc)))

  pub active_more : (v : ℕ) → is_active now v ≡ at_put (λ x. is_active ast x) u true v
  active_more v = by_place (λ (b : Bool). is_active now v ≡ b) (λ x. is_active ast x) u true v (λ e. cc (
    any_set (is_for v) ast.entries place (Some (record { uid = u; superior = superior })) None within (cc),
    own e,
  )) (λ n. any_same (is_for v) ast.entries place (Some (record { uid = u; superior = superior })) None (for_new v n))
    where
      own : v ≡ u → eqb u v ≡ true
      own e = elim (eqb_tells u v) [ inl a ↦ a.0 | inr n ↦ absurd (n.1 (sym e)) ]

  -- another segment has the words that it had
  pub words_more : (v q : ℕ) → v ≢ u → word_of now v q ≡ word_of ast v q
  unfolding place_of
  words_more v q n = cc (
    position_or_len-set (is_for v) ast.entries place (Some
        (record { uid = u; superior = superior })) None (for_new v n),
    get_or-set_other ast.tables place (position_or_len (is_for v) ast.entries) table [] other,
  )
    where
      other : position_or_len (is_for v) ast.entries ≢ place
      other e = elim (cases_Bool (list_any (is_for v) ast.entries)) [
        | inl is ↦ (let no : false ≡ true = sym (cc) ∙ (ap (λ (i : ℕ). is_for v (entry_at ast.entries i)) (sym e)
            ∙ found (is_for v) ast.entries None (some_within (is_for v) ast.entries is)) in cc)
        | inr isnt ↦ (omega (arith, none_length (is_for v) ast.entries isnt))
      ]

  -- its own words name no frame, where those of its table don't
  pub words_new : ((q : ℕ) → names (get_or table q ptw.Null) ≡ None) → (q : ℕ) → names (word_of now u q) ≡ None
  unfolding place_of
  words_new none q = elim (leb_tells (length (set ast.tables place table)) (position_or_len (is_for u) now.entries)) [
    | inl e ↦ ap (λ (t : List Ptw). names (get_or t q ptw.Null))
        (get_or_past (set ast.tables place table) (position_or_len (is_for u) now.entries) [] e.1)
    | inr m ↦ ap (λ (i : ℕ). names (get_or (get_or (set ast.tables place table) i []) q ptw.Null)) at
        ∙ (cc (get_or-set_same ast.tables place table [] (rw tables within), none q))
  ]
    where
      there : is_for u (entry_at now.entries (position_or_len (is_for u) now.entries)) ≡ true
      there = found (is_for u) now.entries None (some_within (is_for u) now.entries (active_more u ∙
          by_place (λ (b : Bool). b ≡ true) (λ x. is_active ast x) u true u (λ e. refl) (λ n. absurd (n refl))))

      at : position_or_len (is_for u) now.entries ≡ place
      at = elim (eqb_tells (position_or_len (is_for u) now.entries) place) [
        | inl e ↦ e.1
        | inr n ↦ absurd (elsewhere n.1)
      ]
        where
          no_other : (i : ℕ) → is_for u (entry_at ast.entries i) ≡ true → ⊥
          no_other i h = let no = sym (any_at (is_for u) ast.entries i None h refl) ∙ inactive in cc

          elsewhere : position_or_len (is_for u) now.entries ≢ place → ⊥
          elsewhere n = no_other (position_or_len (is_for u) now.entries) (ap (is_for u)
              (sym (get_or-set_other ast.entries place (position_or_len (is_for u) now.entries) _ None n)) ∙ there)

-- descriptors lead where they led: none led to the place
pub links_more : (s : State) (u place : ℕ) (superior : Option ℕ) (table : List Ptw)
    → entry_at s.store.ast.entries place ≡ None → ((k n aste : ℕ) → leads_at s.store.links.descriptors k n ≡ Some aste
    → (x : ℕ) × (uid_at s.store.ast.entries aste ≡ Some x)) → (k n : ℕ)
    → led_to (made_active s.store.ast place u superior table).entries (descriptor_of s.store.links k n)
    ≡ (seen s).linked k n
links_more s u place superior table free live k n = by (descriptor_of s.store.links k n) refl
  where
    by : (x : Sdw) → descriptor_of s.store.links k n ≡ x
        → led_to (made_active s.store.ast place u superior table).entries x ≡ led_to s.store.ast.entries x
    by sdw.Fault e = refl
    by (sdw.Present aste m pages) e = ap uid_in (get_or-set_other s.store.ast.entries place aste _ None other)
      where
        other : aste ≢ place
        other same = let there = live k n aste (ap leads e) in
            let no : None ≡ Some there.0 = sym (ap uid_in free) ∙ (cc) in none_some no

-- what custody sees of a segment that becomes active
pub activate_seen : (s : State) (u place : ℕ) (superior : Option ℕ) (table : List Ptw)
    → entry_at s.store.ast.entries place ≡ None
    → place < length s.store.ast.entries → length s.store.ast.tables ≡ length s.store.ast.entries
    → is_active s.store.ast u ≡ false → ((k n aste : ℕ) → leads_at s.store.links.descriptors k n ≡ Some aste
    → (x : ℕ) × (uid_at s.store.ast.entries aste ≡ Some x)) → seen (record s {
      store = record s.store { ast = made_active s.store.ast place u superior table };
      entries = s.entries ++ entry.Activate u ∷ [];
    }) ≡ activated (seen s) u (λ v q. word_of (made_active s.store.ast place u superior table) v q)
activate_seen s u place superior table free within tables inactive live = λ i. record (seen s) {
  active = λ v. active_more s.store.ast u place superior table free within tables inactive v i;
  words = λ v q. word_of (made_active s.store.ast place u superior table) v q;
  linked = λ k n. links_more s u place superior table free live k n i;
  entries = s.entries ++ entry.Activate u ∷ [];
}

-- ---- a segment is active no more

module _ (ast : ActiveSegs) (u : ℕ) (active : is_active ast u ≡ true) (once : IsOneToOne ast.entries)
    (tables : length ast.tables ≡ length ast.entries) where
  abbrev less : ActiveSegs
  less = deactivated ast (place_of ast.entries u)

  its_place : (place_of ast.entries u < length ast.entries) × (uid_at ast.entries (place_of ast.entries u) ≡ Some u)
  its_place = active_place ast u active

  not_its : (v : ℕ) → v ≢ u → is_for v (entry_at ast.entries (place_of ast.entries u)) ≡ false
  not_its v n = not_for v (entry_at ast.entries (place_of ast.entries u))
      (λ e. n (let same = sym e ∙ its_place.1 in cc))

  pub active_less : (v : ℕ) → is_active less v ≡ at_put (λ x. is_active ast x) u false v
  active_less v = by_place (λ (b : Bool). is_active less v ≡ b) (λ x. is_active ast x) u false v
      (λ e. rw e (gone (is_active less u) refl))
      (λ n. any_same (is_for v) ast.entries (place_of ast.entries u) None None (sym (not_its v n)))
    where
      gone : (b : Bool) → is_active less u ≡ b → b ≡ false
      gone false e = refl
      gone true e = absurd (elsewhere (place_of less.entries u) (active_place less u e).1)
        where
          elsewhere : (i : ℕ) → uid_at less.entries i ≡ Some u → ⊥
          elsewhere i h = elim (eqb_tells i (place_of ast.entries u)) [
            | inl a ↦ none_some (sym (ap uid_in
                (get_or-set_same ast.entries (place_of ast.entries u) None None its_place.0))
                ∙ (ap (uid_at less.entries) (sym a.1) ∙ h))
            | inr n ↦ n.1 (once i (place_of ast.entries u) u
                (cc (get_or-set_other ast.entries (place_of ast.entries u) i None None n.1)) its_place.1)
          ]

  pub words_less : (v q : ℕ) → v ≢ u → word_of less v q ≡ word_of ast v q
  unfolding place_of
  words_less v q n = cc (
    position_or_len-set (is_for v) ast.entries (place_of ast.entries u) None None (sym (not_its v n)),
    get_or-set_other ast.tables (place_of ast.entries u) (position_or_len (is_for v) ast.entries) (replicate (length
        (table_at ast.tables (place_of ast.entries u))) ptw.Null) [] other,
  )
    where
      other : position_or_len (is_for v) ast.entries ≢ place_of ast.entries u
      other e = elim (cases_Bool (list_any (is_for v) ast.entries)) [
        | inl is ↦ (let no : false ≡ true = sym (not_its v n)
            ∙ (cc (found (is_for v) ast.entries None (some_within (is_for v) ast.entries is))) in cc)
        | inr isnt ↦ (omega (arith, none_length (is_for v) ast.entries isnt, e, its_place.0))
      ]

  pub blank_less : (q : ℕ) → word_of less u q ≡ ptw.Null
  blank_less q = inactive_blank less u (length-set ast.tables (place_of ast.entries u) _
      ∙ (cc (length-set ast.entries (place_of ast.entries u) None)))
      (active_less u ∙ by_place (λ (b : Bool). b ≡ false) (λ x. is_active ast x) u false u (λ e. refl)
      (λ n. absurd (n refl))) q

pub deactivate_seen : (s : State) (u : ℕ) → is_active s.store.ast u ≡ true → IsOneToOne s.store.ast.entries
    → length s.store.ast.tables ≡ length s.store.ast.entries → ((k n : ℕ) → (seen s).linked k n ≢ Some u)
    → seen (record s {
      store = record s.store { ast = deactivated s.store.ast (place_of s.store.ast.entries u) };
      entries = s.entries ++ entry.Deactivate u ∷ [];
    }) ≡ no_more_active (seen s) u (λ v q. word_of (deactivated s.store.ast (place_of s.store.ast.entries u)) v q)
deactivate_seen s u active once tables none = λ i. record (seen s) {
  active = λ v. active_less s.store.ast u active once tables v i;
  words = λ v q. word_of (deactivated s.store.ast (place_of s.store.ast.entries u)) v q;
  linked = λ k n. links k n i;
  entries = s.entries ++ entry.Deactivate u ∷ [];
}
  where
    links : (k n : ℕ) → led_to (deactivated s.store.ast (place_of s.store.ast.entries u)).entries
        (descriptor_of s.store.links k n) ≡ (seen s).linked k n
    links k n = by (descriptor_of s.store.links k n) refl
      where
        by : (x : Sdw) → descriptor_of s.store.links k n ≡ x
            → led_to (deactivated s.store.ast (place_of s.store.ast.entries u)).entries x ≡ led_to s.store.ast.entries x
        by sdw.Fault e = refl
        by (sdw.Present aste m pages) e = rw (get_or-set_other s.store.ast.entries (place_of s.store.ast.entries u) aste
            None None (λ same. none k n (cc ((active_place s.store.ast u active).1))))
