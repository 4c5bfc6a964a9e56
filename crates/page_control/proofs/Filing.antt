-- The records that file maps name stay in use and named once, whatever a call does to them.
pub use Rattle.page_control.proofs.Prelude.{AreFiled, Bool, Entry, Home, IsLeastFree, IsNamed, List, None, Option, Some, [], ap, cases_eq, entry_at, false, flag_within, flags_in, get_or, in_use, inl, inr, length, list_within, map_at, none_put, not_none, off_and_on, put, put_here, put_other, record_at, records_in, set, sym, true, uid_at, vtoc_in, with_record, within_from, ℕ, ◌<◌, ◌∙◌, ◌≡◌, ◌⊎◌}
pub use Rattle.page_control.proofs.Places.{at_or_other, frame_same, home_within, map_refiled, refile, same_record, some_put, volume_within}

-- the records that file maps name are in use, and each is named once
pub record AreUsed (records : List (List Bool)) (vtocs : List (List (Option Entry))) : Type 0 where
  pub used : (v e p r : ℕ) → record_at (vtoc_in vtocs v) e p ≡ Some r → in_use (flags_in records v) r ≡ true
  pub once : (v e p g q r : ℕ) → record_at (vtoc_in vtocs v) e p ≡ Some r → record_at (vtoc_in vtocs v) g q ≡ Some r
      → (e ≡ g) × (p ≡ q)

pub used_of : {records : List (List Bool)} {vtocs : List (List (Option Entry))} → AreFiled records vtocs
    → AreUsed records vtocs
used_of filed = assumption

-- the record of any page after a file map names another for page p at a home: that one, or the record as before
pub refiled_cases : (vtocs : List (List (Option Entry))) (uid p : ℕ) (place : Option ℕ) (home : Home)
    → uid_at vtocs home ≡ Some uid → (v e q : ℕ) → ((v ≡ home.volume) × (e ≡ home.entry) × (q ≡ p))
    ⊎ (record_at (vtoc_in (refile vtocs home p place) v) e q ≡ record_at (vtoc_in vtocs v) e q)
refiled_cases vtocs uid p place home h v e q =
    let entry : Option Entry = entry_at (vtoc_in vtocs home.volume) home.entry in
    let otherwise : (v ≡ home.volume → e ≡ home.entry → ⊥) → record_at (vtoc_in (refile vtocs home p place) v) e q
    ≡ record_at (vtoc_in vtocs v) e q = λ n. ap (λ (x : Option Entry). get_or (records_in x) q None)
    (put_other vtocs home.volume home.entry (with_record entry p place) None v e (volume_within vtocs uid home h) n) in
    elim (cases_eq v home.volume) [
      | inl i ↦ elim (cases_eq e home.entry) [
        | inl j ↦ elim (cases_eq q p) [
          | inl k ↦ inl (i, j, k)
          | inr n ↦ inr (rw (i, j) (cc (
            put_here vtocs home.volume home.entry (with_record entry p place) None
                (volume_within vtocs uid home h) (home_within vtocs uid home h),
            same_record entry place n,
          )))
        ]
        | inr n ↦ inr (otherwise (λ _ k. n k))
      ]
      | inr n ↦ inr (otherwise (λ k _. n k))
    ]

-- page p at a home is stored no more, and its record r is given back
pub used_unstored : (records : List (List Bool)) (vtocs : List (List (Option Entry))) (uid p r : ℕ) (home : Home)
    → AreUsed records vtocs → uid_at vtocs home ≡ Some uid → record_at (vtoc_in vtocs home.volume) home.entry p ≡ Some r
    → AreUsed (put records home.volume r false) (refile vtocs home p None)
used_unstored records vtocs uid p r home filed h there =
    let gone : record_at (vtoc_in (refile vtocs home p None) home.volume) home.entry p ≡ None =
    rw (map_refiled vtocs uid p None home h) (none_put (map_at vtocs home) p) in
    let was : (v e q s : ℕ) → record_at (vtoc_in (refile vtocs home p None) v) e q ≡ Some s
    → (record_at (vtoc_in vtocs v) e q ≡ Some s) × ((v ≡ home.volume) × (e ≡ home.entry) × (q ≡ p) → ⊥) = λ v e q s is.
    let off : (v ≡ home.volume) × (e ≡ home.entry) × (q ≡ p) → ⊥ =
    λ at. not_none (record_at (vtoc_in (refile vtocs home p None) v) e q) s (rw (at.0, at.1, at.2) gone) is in
    elim (refiled_cases vtocs uid p None home h v e q) [
      | inl at ↦ absurd (off at)
      | inr same ↦ (cc, off)
    ] in
    let on : in_use (flags_in records home.volume) r ≡ true = filed.used home.volume home.entry p r there in
    let vl : home.volume < length records = within_from records home.volume [] (λ e. off_and_on _ (cc) on) in
    record {
      used = λ v e q s is.
          let old : record_at (vtoc_in vtocs v) e q ≡ Some s = (was v e q s is).0 in
          let other : v ≡ home.volume → s ≡ r → ⊥ = λ i j. (let here = rw (i, j) at old in
          let one : (e ≡ home.entry) × (q ≡ p) = filed.once home.volume e q home.entry p r here there in
          (was v e q s is).1 (i, one.0, one.1)) in
          put_other records home.volume r false false v s vl other ∙ filed.used v e q s old;
      once = λ v e q g o s is those. filed.once v e q g o s (was v e q s is).0 (was v g o s those).0;
    }

-- page p at a home gets the free record r
pub used_stored : (records : List (List Bool)) (vtocs : List (List (Option Entry))) (uid p r : ℕ) (home : Home) →
    AreUsed records vtocs → uid_at vtocs home ≡ Some uid → in_use (flags_in records home.volume) r ≡ false → home.volume
    < length records → r < length (flags_in records home.volume) → AreUsed (put records home.volume r true) (refile
    vtocs home p (Some r))
used_stored records vtocs uid p r home filed h free vl rl =
    let now : List (List (Option Entry)) = refile vtocs home p (Some r) in
    let its : (s : ℕ) → record_at (vtoc_in now home.volume) home.entry p ≡ Some s → s ≡ r =
    λ s is. some_put (map_at vtocs home) p r s (rw (map_refiled vtocs uid p (Some r) home h) at is) in
    let was : (v e q s : ℕ) → record_at (vtoc_in now v) e q ≡ Some s
    → (((v ≡ home.volume) × (e ≡ home.entry) × (q ≡ p)) × (s ≡ r)) ⊎ (record_at (vtoc_in vtocs v) e q ≡ Some s) =
    λ v e q s is. elim (refiled_cases vtocs uid p (Some r) home h v e q) [
      | inl at ↦ inl (at, its s (rw (at.0, at.1, at.2) at is))
      | inr same ↦ inr (cc)
    ] in
    let fresh : (v e q s : ℕ) → v ≡ home.volume → s ≡ r → record_at (vtoc_in vtocs v) e q ≡ Some s → ⊥ =
    λ v e q s i j is. off_and_on _ free (filed.used home.volume e q r (rw (i, j) at is)) in
    record {
      used = λ v e q s is. elim (was v e q s is) [
        | inl new ↦ rw (new.0.0, new.1) (put_here records home.volume r true false vl rl)
        | inr old ↦ put_other records home.volume r true false v s vl (λ i j. fresh v e q s i j old)
            ∙ filed.used v e q s old
      ];
      once = λ v e q g o s is those. elim (was v e q s is) [
        | inl new ↦ elim (was v g o s those) [
          | inl too ↦ (cc, cc)
          | inr old ↦ absurd (fresh v g o s new.0.0 new.1 old)
        ]
        | inr old ↦ elim (was v g o s those) [
          | inl too ↦ absurd (fresh v e q s too.0.0 too.1 old)
          | inr older ↦ filed.once v e q g o s old older
        ]
      ];
    }

-- where each record that a file map names was named there before
pub used_fewer : {records : List (List Bool)} {vtocs : List (List (Option Entry))} {now : List (List (Option Entry))}
    → AreUsed records vtocs → ((v e q s : ℕ) → record_at (vtoc_in now v) e q ≡ Some s
    → record_at (vtoc_in vtocs v) e q ≡ Some s) → AreUsed records now
used_fewer filed was = record {
  used = λ v e q s is. filed.used v e q s (was v e q s is);
  once = λ v e q g o s is those. filed.once v e q g o s (was v e q s is) (was v g o s those);
}
