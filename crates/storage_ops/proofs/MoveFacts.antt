-- What the calls of a move ask and leave, by what is true of a store.
use Rattle.storage_ops.proofs.Prelude.{◌≡◌, ℕ, ◌-◌, ◌<◌, Bool, true, List, [], ◌∷◌, Option, Some, None, length, map, refl, sym, ◌∙◌, arith, nat_lt, eq-eqb, nat_tests, length-set, least_free, HasParts, Vols, records_at, used_at, vtoc_at, IsActive, count_of, plain, entries, size, Mover, CanBegin, begun, flags_taken, with_taken, Control, IsKept, move_committed, pair_of, is_roomy, IsStore, Storage, home_of, is_there, room_parts}
use Rattle.seg_mover.specs.Homes.{map_at}
use Rattle.storage_ops.proofs.Known.{size_set}
use Rattle.storage_ops.proofs.Paged.{active_there}
use Rattle.storage_ops.proofs.Tables.{all_drives, homed_volume}
use Rattle.seg_mover.proofs.Records.{length_given}

-- ---- a move may begin

module _ {D : Type 0} (drive : D → List (List ℕ)) (t : Storage D) (u : ℕ)
    (kept : IsKept (plain drive t.segs.pages) t.segs.ast t.segs.links)
    (store : IsStore (plain drive t.segs.pages) t.segs.ast t.segs.links t.accounts t.whos)
    (active : IsActive t.segs.ast.entries u) where
  there : is_there t.accounts.nodes u ≡ true
  there = active_there kept store active

  pub may_begin : HasParts (map drive t.segs.pages.volumes.drives) t.segs.pages.volumes.records
      t.segs.pages.volumes.vtocs → {to : ℕ} → to < length t.segs.pages.volumes.drives
      → is_roomy t.segs.pages.volumes (home_of t.accounts u).volume (count_of t.accounts u) to ≡ true
      → CanBegin t.segs.pages.volumes u (pair_of (home_of t.accounts u)) to
  may_begin parts {to} within roomy = (
      let has = room_parts _ _ _ roomy in
      let used = store.housed.homes u there in
      let on = homed_volume t.segs.pages.volumes.vtocs (home_of t.accounts u) used in
      let all = all_drives drive t.segs.pages.volumes parts in
      let named = store.counted.counts u there in
      let enough = lt_of (count_of t.accounts u) (length (records_at t.segs.pages.volumes to)
      - used_at t.segs.pages.volumes to) has.1 in
      record {
        source = omega arith;
        target = within;
        other = λ same. (let clash = sym (eq-eqb to (home_of t.accounts u).volume (sym same)) ∙ has.0 in cc);
        used = used;
        entry = lt_of _ _ has.2;
        room = omega arith;
        short = store.taken.short to;
      })
    where
      lt_of : (n m : ℕ) → nat_lt n m ≡ true → n < m
      lt_of n m e = grind (arith, nat_tests)

-- ---- a move leaves the sizes of the volumes

taken_length : (flags : List Bool) (places : List (Option ℕ)) → length (flags_taken flags places) ≡ length flags
taken_length flags [] = refl
taken_length flags (None ∷ places) = taken_length flags places
taken_length flags (Some r ∷ places) =
    taken_length (with_taken flags (least_free flags)) places ∙ one (least_free flags)
  where
    one : (o : Option ℕ) → length (with_taken flags o) ≡ length flags
    one None = refl
    one (Some q) = length-set flags q true

module _ {D : Type 0} (c : Control D) (m : Mover) where
  abbrev vols : Vols D
  vols = begun c.pages.volumes m.uid m.from m.to.0

  pub committed_sizes : (v : ℕ) → size (move_committed c m).pages.volumes.records v ≡ size c.pages.volumes.records v
  committed_sizes v = size_set vols.records m.from.0 _ (length_given (records_at vols m.from.0) (map_at vols m.from)) v
      ∙ size_set c.pages.volumes.records m.to.0 _
      (taken_length (records_at c.pages.volumes m.to.0) (map_at c.pages.volumes m.from)) v

  pub committed_entries : (v : ℕ) → entries (move_committed c m).pages.volumes.vtocs v ≡ entries c.pages.volumes.vtocs v
  committed_entries v = size_set vols.vtocs m.from.0 _ (length-set (vtoc_at vols m.from.0) m.from.1 None) v
      ∙ size_set c.pages.volumes.vtocs m.to.0 _ (length-set (vtoc_at c.pages.volumes m.to.0) _ _) v
