-- What is seen of a move that is under way.
pub use Rattle.seg_control.proofs.Prelude.{ActiveSegs, AreFiled, AreKept, Bool, CanBegin, HasParts, IfSome, IsActive, IsHomeOf, IsKept, IsKeptAtRest, IsMoving, IsOnItsWay, IsUnderWay, IsUnread, KeepsTables, Links, List, Mover, None, Option, Paging, Some, Vols, [], ap, arith, at_rest, begun, get_or, get_or-map, home_at, in_move, length, length-map, length-set, length_given, map, map-set, mover_for, mover_map as map_at, mover_map, plain, records_at, refl, set, set-get_or, subst, sym, undone, volumes_of, with_volumes, ℕ, ◌∙◌, ◌≡◌}
pub use Rattle.seg_control.proofs.Resting.{aside_of, each_set, if_moves, kept_moving, kept_paged, kept_still, kept_table, move_adds, paged_same, tie_more}

-- ---- drives, and their pages in place of them

pub can_plain : {D : Type 0} (pages : D → List (List ℕ)) (s : Paging D) {uid : ℕ} {from : ℕ × ℕ} {to : ℕ}
    → CanBegin s.volumes uid from to → CanBegin (volumes_of (plain pages s)) uid from to
can_plain pages s can = (let long = length-map s.volumes.drives pages in
    assumption (rw (← long) at can.source, rw (← long) at can.target, can))

pub can_begin : {D : Type 0} (pages : D → List (List ℕ)) (s : Paging D) {uid : ℕ} {from : ℕ × ℕ} {to : ℕ}
    → CanBegin (volumes_of (plain pages s)) uid from to → CanBegin s.volumes uid from to
can_begin pages s can = (let long = length-map s.volumes.drives pages in
    assumption (rw long at can.source, rw long at can.target, can))

pub moving_plain : {D : Type 0} (pages : D → List (List ℕ)) (s : Paging D) {m : Mover} → IsMoving s.volumes m
    → IsMoving (volumes_of (plain pages s)) m
moving_plain pages s moving = (let long = length-map s.volumes.drives pages in
    assumption (rw (← long) at moving.source, rw (← long) at moving.target, moving))

pub is_moving : {D : Type 0} (pages : D → List (List ℕ)) (s : Paging D) {m : Mover}
    → IsMoving (volumes_of (plain pages s)) m → IsMoving s.volumes m
is_moving pages s moving = (let long = length-map s.volumes.drives pages in
    assumption (rw long at moving.source, rw long at moving.target, moving))

-- ---- the volumes as they are

pub now_is : {D : Type 0} {pages : D → List (List ℕ)} {s : Paging D} {ast : ActiveSegs} {links : Links}
    {moving : Option Mover} → IsKeptAtRest pages s ast links moving
    → s ≡ record (at_rest s moving) { volumes = in_move (at_rest s moving).volumes moving }
now_is {moving = None} k = refl
now_is {s} {moving = Some m} k = λ i. record s {
  volumes = record s.volumes {
    records = ap (λ (vols : Vols (List (List ℕ))). vols.records) k.way.begun i;
    vtocs = ap (λ (vols : Vols (List (List ℕ))). vols.vtocs) k.way.begun i;
  };
}

sizes_same : (all : List (List Bool)) (v : ℕ) (flags : List Bool) → length flags ≡ length (get_or all v [])
    → map length (set all v flags) ≡ map length all
sizes_same all v flags same =
    cc (map-set length all v flags, get_or-map length all v [], set-get_or (map length all) v 0)

-- at rest too there are as many flags as pages, and a VTOC for each volume
pub parts_rest : {D : Type 0} {pages : D → List (List ℕ)} {s : Paging D} {ast : ActiveSegs} {links : Links}
    {moving : Option Mover} → IsKeptAtRest pages s ast links moving
    → HasParts (map pages s.volumes.drives) s.volumes.records s.volumes.vtocs
    → HasParts (map pages s.volumes.drives) (at_rest s moving).volumes.records (at_rest s moving).volumes.vtocs
parts_rest {moving = None} k parts = parts
parts_rest {s} {moving = Some m} k parts = record {
  few = parts.few;
  sizes = sizes_same s.volumes.records m.to.0 _
      (length_given (get_or s.volumes.records m.to.0 []) (map_at s.volumes m.to)) ∙ parts.sizes;
  tables = length-set s.volumes.vtocs m.to.0 _ ∙ parts.tables;
}

pub under_way : {D : Type 0} {pages : D → List (List ℕ)} {s : Paging D} {ast : ActiveSegs} {links : Links}
    {moving : Option Mover} → IsKeptAtRest pages s ast links moving
    → IfSome moving (IsUnderWay (record { pages = at_rest s moving; ast = ast; links = links; moving = moving }))
under_way {pages} {s} {moving} k =
    if_moves moving (λ m is w. assumption (can_begin pages (at_rest s moving) w.can, w)) k.way
