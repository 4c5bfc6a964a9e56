-- The volume that has room in the tables is the one that has it in the flat store that is shown.
use Rattle.storage_ops.proofs.Prelude.{◌≡◌, ◌⊎◌, ◌<◌, ◌≤◌, ℕ, zero, suc, Bool, true, false, List, [], Some, None, refl, sym, ap, ◌∙◌, arith, inl, inr, length, map, count_by, cases_Bool, cases_eq, get_or_past, length-map, count_by-le-length, Plan, entries_on, taken_on, volume_in, count_of, has_room, room_for, Store, records_of, first_is, first_none, room_is, room_none, is_full, plain, HasParts, Vols, first_roomy, is_roomy, move_target, room_of, IsStore, Shows, Storage}

-- no volume has more records in use than it has
pub few_used : (flags : List Bool) → count_by (λ flag. flag) flags ≤ length flags
few_used flags = count_by-le-length (λ flag. flag) flags

-- the least number below n that passes a test
record IsLeast (test : ℕ → Bool) (n : ℕ) : Type 0 where
  least : ℕ
  within : least < n
  passes : test least ≡ true
  first : (v : ℕ) → v < least → test v ≡ false

-- there is one, or none passes
least : (test : ℕ → Bool) (n : ℕ) → IsLeast test n ⊎ ((v : ℕ) → v < n → test v ≡ false)
least test zero = inr (λ v lt. absurd (omega arith))
least test (suc n) = elim (least test n) [
  | inl found ↦
      (let lt = found.within in
      inl (record { least = found.least; within = omega arith; passes = found.passes; first = found.first }))
  | inr none ↦ elim (cases_Bool (test n)) [
    | inl is ↦ inl (record { least = n; within = omega arith; passes = is; first = none })
    | inr isnt ↦ inr (λ v lt. elim (cases_eq v n) [
      | inl same ↦ ap test same ∙ isnt
      | inr ne ↦ none v (omega arith)
    ])
  ]
]

-- a search that ends at the first volume with room
pub first_here : {D : Type 0} (vols : Vols D) (own pages : ℕ) {w : ℕ} → w < length vols.drives
    → is_roomy vols own pages w ≡ true → ((v : ℕ) → v < w → is_roomy vols own pages v ≡ false)
    → Some w ≡ first_roomy vols own pages
first_here vols own pages {w} within has first =
    sym (first_is (is_roomy vols own pages) (length vols.drives) w within has first)

-- and one that comes to the end
pub first_nowhere : {D : Type 0} (vols : Vols D) (own pages : ℕ)
    → ((v : ℕ) → v < length vols.drives → is_roomy vols own pages v ≡ false) → None ≡ first_roomy vols own pages
first_nowhere vols own pages none = sym (first_none (is_roomy vols own pages) (length vols.drives) none)

-- a segment that needn't move, and whose volume is full, has room nowhere
pub none_roomy : {D : Type 0} (t : Storage D) (uid : ℕ)
    → is_full t.segs.pages.volumes.records (volume_in t.accounts.nodes uid) ≡ true → move_target t uid ≡ None
    → room_of t uid ≡ None
none_roomy t uid full none = cc

module _ {D : Type 0} (drive : D → List (List ℕ)) (p : Plan) (s : Store) (t : Storage D) (shows : Shows drive p s t)
    (kept : IsStore (plain drive t.segs.pages) t.segs.ast t.segs.links t.accounts t.whos) where
  -- past the last volume the script has no records
  past : HasParts (map drive t.segs.pages.volumes.drives) t.segs.pages.volumes.records t.segs.pages.volumes.vtocs
      → (v : ℕ) → length t.segs.pages.volumes.drives ≤ v → records_of p v ≡ 0
  past parts v out = cc (
    shows.script.records v,
    get_or_past t.segs.pages.volumes.records v [] (omega (arith, many, out)),
  )
    where
      many : length t.segs.pages.volumes.records ≡ length t.segs.pages.volumes.drives
      many = cc (
        length-map t.segs.pages.volumes.records length,
        length-map (map drive t.segs.pages.volumes.drives) length,
        length-map t.segs.pages.volumes.drives drive,
      )

  -- what the tables of a volume say is what the flat store says
  same_room : (uid v : ℕ) → is_roomy t.segs.pages.volumes (volume_in t.accounts.nodes uid) (count_of t.accounts uid) v
      ≡ has_room p s uid v
  same_room uid v =
      let home = ap (λ ns. volume_in ns uid) shows.tree.nodes in
      let taken = kept.taken.records s.stored v shows.tree.counts
      ∙ ap (λ ns. taken_on ns s.stored v) (sym shows.tree.nodes) in
      rw (
        home,
        shows.tree.counts uid,
        taken,
        (kept.taken.entries v ∙ ap (λ ns. entries_on ns v) (sym shows.tree.nodes)),
        shows.script.records v,
        shows.script.entries v,
      ) refl

  -- the volume that the tables find is the flat store's
  pub room_shown : (uid : ℕ)
      → HasParts (map drive t.segs.pages.volumes.drives) t.segs.pages.volumes.records t.segs.pages.volumes.vtocs
      → room_of t uid ≡ room_for p s uid
  room_shown uid parts = elim (least test (length t.segs.pages.volumes.drives)) [
    | inl found ↦ first_is test (length t.segs.pages.volumes.drives) found.least found.within found.passes found.first
        ∙ room_is p s uid found.least (cc (same_room uid found.least))
        (λ v lt. sym (same_room uid v) ∙ found.first v lt)
    | inr none ↦ first_none test (length t.segs.pages.volumes.drives) none
        ∙ room_none p s uid (length t.segs.pages.volumes.drives) (λ v lt. sym (same_room uid v) ∙ none v lt)
        (past parts)
  ]
    where
      test : ℕ → Bool
      test = is_roomy t.segs.pages.volumes (volume_in t.accounts.nodes uid) (count_of t.accounts uid)
