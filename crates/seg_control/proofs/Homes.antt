-- What is kept after a home is taken, or given up.
use Rattle.seg_control.proofs.Calls.{ActiveSegs, AreFiled, ArePaged, Entry, HasNoFrame, HasTable, Home, IfSome, IsActive, IsBlank, IsHomeOf, IsInactive, IsKept, IsTied, KeepsTies, Links, List, None, Option, Plain, Ptw, Some, [], after_asked, ap, arith, bindings, cases_eq, erased, inl, inr, kept_paged, least_free_entry, none-some, refl, same_Some, subst, sym, table_at, uid_at, uid_homed, uid_of_home, vtoc_of, ℕ, ◌∙◌, ◌≡◌, ◌≢◌, ◌⊎◌}

pub home_cases : (a b : Home) → (a ≡ b) ⊎ (a ≢ b)
home_cases a b = elim (cases_eq a.volume b.volume) [
  | inl v ↦ elim (cases_eq a.entry b.entry) [
    | inl e ↦ inl (λ i. record { volume = v i; entry = e i })
    | inr ne ↦ inr (λ same. ne (cc))
  ]
  | inr ne ↦ inr (λ same. ne (cc))
]

-- frames and page tables stay, and homes change
paged_homes : {old now : Plain} {entries : List (Option Entry)} {ptws : List (List Ptw)} → ArePaged old entries ptws
    → now.core ≡ old.core → AreFiled now.records now.vtocs → ((place uid : ℕ) (home : Home) → uid_at entries place
    ≡ Some uid → IsHomeOf now.vtocs uid home → IsTied now uid home (table_at ptws place)) → ((uid : ℕ) (home : Home)
    → IsInactive entries uid → IsHomeOf now.vtocs uid home → HasTable now uid home) → ArePaged now entries ptws
paged_homes k core filed active rest = record {
  tables = rw core k.tables;
  ties = active;
  rest = rest;
  blank = k.blank;
  bound = rw core k.bound;
  started = rw core k.started;
  once = rw core k.once;
  filed = filed;
}

-- ---- a home is given up

pub kept_erased : {old : Plain} {now : Plain} {ast : ActiveSegs} {links : Links} {home : Home} → IsKept old ast links
    → IsHomeOf old.vtocs (uid_of_home old home) home → now ≡ erased old home → uid_homed now.vtocs home ≡ None
    → ((other : Home) → other ≢ home → uid_homed now.vtocs other ≡ uid_homed old.vtocs other)
    → AreFiled now.records now.vtocs → ((uid : ℕ) (other : Home) (words : List Ptw) → other ≢ home
    → IsTied old uid other words → IsTied now uid other words) → IsKept now ast links
kept_erased {old} {now} {ast} {home} k only effect gone uids filed ties = kept_paged k (paged_homes k.paged (cc) filed
    (λ q u h e is. ties u h (table_at ast.tables q) (other u h is) (k.paged.ties q u h e (back u h is)))
    (λ u h off is. (let was = k.paged.rest u h off (back u h is) in record
    { table = was.table; tie = ties u h was.table (other u h is) was.tie })))
  where
    other : (u : ℕ) (h : Home) → IsHomeOf now.vtocs u h → h ≢ home
    other u h is same = none-some u (cc)

    back : (u : ℕ) (h : Home) → IsHomeOf now.vtocs u h → IsHomeOf old.vtocs u h
    back u h is = record {
      used = cc (uids h (other u h is));
      only = λ o e. elim (home_cases o home) [
        | inl same ↦
            (let v : ℕ = uid_of_home old home in
            let uid : u ≡ v = same_Some _ _ (cc) in
            let that : h ≡ home = only.only h (sym (uids h (other u h is)) ∙ is.used ∙ ap (λ (n : ℕ). Some n) uid) in
            absurd (other u h is that))
        | inr ne ↦ is.only o (uids o ne ∙ e)
      ];
    }

-- ---- a home is taken

pub kept_homed : (result : Option ℕ) {old now : Plain} {ast : ActiveSegs} {links : Links} (volume : ℕ) {uid : ℕ}
    → IsKept old ast links → IsInactive ast.entries uid → result ≡ least_free_entry (vtoc_of old volume)
    → now ≡ after_asked old volume uid result → IfSome result (λ e. uid_homed now.vtocs (record {
      volume = volume;
      entry = e;
    }) ≡ Some uid) → ((u : ℕ) (h : Home) → uid_homed old.vtocs h ≡ Some u → uid_homed now.vtocs h ≡ Some u)
    → ((other : Home) → IfSome result (λ e. other ≢ record { volume = volume; entry = e }) → uid_homed now.vtocs other
    ≡ uid_homed old.vtocs other) → IfSome result (λ e. (words : List Ptw) → IsBlank words → HasNoFrame (bindings
    old.core) uid → AreFiled old.records old.vtocs → IsTied now uid (record { volume = volume; entry = e }) words)
    → KeepsTies old now → (AreFiled old.records old.vtocs → AreFiled now.records now.vtocs) → IsKept now ast links
kept_homed None {ast} {links} volume k idle least effect home homes uids tie ties filed =
    subst (λ (s : Plain). IsKept s ast links) (sym effect) k
kept_homed (Some e) {old} {now} {ast} volume {uid} k idle least effect home homes uids tie ties filed =
    kept_paged k (paged_homes k.paged (cc) (filed k.paged.filed) (λ q u h at is. elim (home_cases h it) [
      | inl same ↦ absurd (not_active q u h at is same)
      | inr ne ↦ ties.ties u h (table_at ast.tables q) (k.paged.ties q u h at (back u h is ne))
    ]) (λ u h off is. elim (home_cases h it) [
      | inl same ↦
          (let uid_is : uid ≡ u = same_Some _ _ (cc) in
          let none : HasNoFrame (bindings old.core) uid = record {
            none = λ f p at. (let active : IsActive ast.entries uid = k.paged.bound f uid p at in
                off.nowhere active.0 (cc));
          } in
          let blank : IsBlank [] = record { pages = omega arith; null = λ p. refl } in
          let made : IsTied now uid it [] = tie [] blank none k.paged.filed in
          record { table = []; tie = rw (← uid_is, same) made })
      | inr ne ↦ (let was = k.paged.rest u h off (back u h is ne) in record
          { table = was.table; tie = ties.ties u h was.table was.tie })
    ]))
  where
    it : Home
    it = record { volume = volume; entry = e }

    back : (u : ℕ) (h : Home) → IsHomeOf now.vtocs u h → h ≢ it → IsHomeOf old.vtocs u h
    back u h is ne = record { used = cc (uids h ne); only = λ o at. is.only o (homes u o at) }

    not_active : (q u : ℕ) (h : Home) → uid_at ast.entries q ≡ Some u → IsHomeOf now.vtocs u h → h ≡ it → ⊥
    not_active q u h at is same =
        let uid_is : uid ≡ u = same_Some _ _ (cc) in
        idle.nowhere q (at ∙ ap (λ (n : ℕ). Some n) (sym uid_is))
