-- A segment begins to move.
pub use Rattle.seg_control.proofs.Under.{ActiveSegs, AreFiled, AreKept, CanBegin, IsActive, IsHomeOf, IsKept, IsKeptAtRest, IsMoving, IsOnItsWay, IsUnread, KeepsTables, Links, List, Mover, Paging, Some, Vols, ap, arith, at_rest, begun, can_plain, home_at, kept_still, mover_for, mover_map as map_at, moving_plain, plain, records_at, refl, subst, sym, undone, with_volumes, ℕ, ◌≡◌}

-- the records that the old home names are in use, each once
pub kept_from : {D : Type 0} (vols : Vols D) (from : ℕ × ℕ) → AreFiled vols.records vols.vtocs
    → AreKept (records_at vols from.0) (map_at vols from)
kept_from vols from filed = record {
  used = λ p r named. filed.used from.0 from.1 p r named;
  once = λ p q r one two. (filed.once from.0 from.1 p from.1 q r one two).1;
}

-- What a move was begun with, and what that left.
pub record Begins {D : Type 0} (pages : D → List (List ℕ)) (old now : Paging D) (ast : ActiveSegs) (links : Links)
    (uid : ℕ) (from : ℕ × ℕ) (to : ℕ) (m : Mover) : Type 0 where
  pub kept : IsKept (plain pages old) ast links
  pub active : IsActive ast.entries uid
  pub home : IsHomeOf old.volumes.vtocs uid (home_at from)
  pub can : CanBegin old.volumes uid from to
  pub unread : IsUnread old.core uid
  pub effect : now ≡ with_volumes old (begun old.volumes uid from to)
  pub mover : m ≡ mover_for old.volumes uid from to
  pub moving : IsMoving now.volumes m
  pub back : KeepsTables old.volumes (undone now.volumes m)

module _ {D : Type 0} {pages : D → List (List ℕ)} {old now : Paging D} {ast : ActiveSegs} {links : Links} {uid : ℕ}
    {from : ℕ × ℕ} {to : ℕ} {m : Mover} (b : Begins pages old now ast links uid from to m) where
  -- at rest all is as before
  rest_is : at_rest now (Some m) ≡ old
  rest_is = λ i. record {
    core = ap (λ (s : Paging D). s.core) b.effect i;
    frames = ap (λ (s : Paging D). s.frames) b.effect i;
    volumes = record {
      drives = ap (λ (s : Paging D). s.volumes.drives) b.effect i;
      records = b.back.records i;
      vtocs = b.back.vtocs i;
    };
  }

  -- for the mover as it begins
  way_begun : IsMoving now.volumes (mover_for old.volumes uid from to)
      → IsOnItsWay (plain pages old) (plain pages now) ast (mover_for old.volumes uid from to)
  way_begun moving = record {
    active = b.active;
    home = b.home;
    can = can_plain pages old b.can;
    begun = rw b.effect;
    moving = moving_plain pages now moving;
    unread = rw b.effect b.unread;
    copied = record { words = λ p r lt out. absurd (omega arith) };
  }

  pub kept_begun : IsKeptAtRest pages now ast links (Some m)
  kept_begun = record {
    kept = subst (λ (s : Paging D). IsKept (plain pages s) ast links) (sym rest_is) b.kept;
    way = subst (λ (s : Paging D). IsOnItsWay (plain pages s) (plain pages now) ast m) (sym rest_is)
        (rw b.mover (way_begun (rw b.mover at b.moving)));
  }
