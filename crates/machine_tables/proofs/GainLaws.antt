-- The accounts' lists once a node is added, or is taken out.
use Rattle.machine_tables.proofs.Prelude.{◌≡◌, ℕ, true, false, not, ◌||◌, cond, eqb, List, [], ◌∷◌, length, refl, ap, subst, ◌∙◌, arith, insert, eq-eqb, ne_eqb, length-insert, AccountMaps, HasColumns, count_of, Node, AreBelow, has_segment, has, look, with_beside, IsRising, IsGap, has_insert, look_insert, rising_insert, gap_of, insert_beside}
use Rattle.machine_tables.proofs.ColumnLaws.{columns_same, rising_same}

-- ---- a uid more

module _ (ks vs : List ℕ) (u : ℕ) (up : IsRising ks) (off : has ks u ≡ false) (long : length vs ≡ length ks) where
  gap : (i : ℕ) × IsGap ks u i
  gap = gap_of ks u up off

  keys_are : insert ks gap.0 u ≡ with_beside ks ks u u
  keys_are = insert_beside ks ks u gap.0 u refl gap.1

  values_are : insert vs gap.0 0 ≡ with_beside ks vs u 0
  values_are = insert_beside ks vs u gap.0 0 long gap.1

  pub rising_beside : IsRising (with_beside ks ks u u)
  rising_beside = subst IsRising keys_are (rising_insert ks u gap.0 up gap.1)

  pub has_beside : (v : ℕ) → has (with_beside ks ks u u) v ≡ (eqb u v || has ks v)
  has_beside v = cc (keys_are, has_insert ks gap.0 u v)

  pub look_beside : (v : ℕ) → look (with_beside ks ks u u) (with_beside ks vs u 0) v ≡ look ks vs v
  look_beside v = cc (keys_are, values_are, look_insert ks vs gap.0 u v long off)

  pub length_beside : length (with_beside ks vs u 0) ≡ length (with_beside ks ks u u)
  length_beside = grind (arith, keys_are, length-insert, values_are)

below_absent : (u : ℕ) (ns : List Node) → AreBelow u ns → has_segment ns u ≡ false
below_absent u [] below = refl
below_absent u (n ∷ ns) below =
    let less = below.0 in
    let far : eqb n.uid u ≡ false = ne_eqb n.uid u (λ q. omega arith) in
    rw far (below_absent u ns below.1)

module _ (old new : AccountMaps) (n : Node) (before : HasColumns old) (after : HasColumns new)
    (below : AreBelow n.uid old.nodes) (nodes : new.nodes ≡ n ∷ old.nodes)
    (counts : (s : ℕ) → count_of new s ≡ count_of old s) where
  fresh : has old.segments n.uid ≡ false
  fresh = before.segments n.uid ∙ below_absent n.uid old.nodes below

  -- what segments there are
  there_now : (u : ℕ) → has new.segments u ≡ cond (eqb n.uid u) (not n.directory) (has old.segments u)
  there_now u = cc (after.segments u, before.segments u)

  -- a directory has no count
  pub directory_gained : n.directory ≡ true → (new.segments ≡ old.segments) × (new.counts ≡ old.counts)
  directory_gained dir = (
    segments,
    columns_same old.segments new.counts old.counts before.rising (after.counted ∙ ap length segments) before.counted
        (λ u there. cc (segments, counts u)),
  )
    where
      same : (u : ℕ) → has new.segments u ≡ has old.segments u
      same u = grind (arith, there_now, eq-eqb, fresh, ne_eqb)

      segments : new.segments ≡ old.segments
      segments = rising_same new.segments old.segments after.rising before.rising same

  -- a segment has one, which is 0
  pub segment_gained : n.directory ≡ false → (new.segments ≡ with_beside old.segments old.segments n.uid n.uid)
      × (new.counts ≡ with_beside old.segments old.counts n.uid 0)
  segment_gained seg = (
    segments,
    columns_same (with_beside old.segments old.segments n.uid n.uid) new.counts
        (with_beside old.segments old.counts n.uid 0) rising (after.counted ∙ ap length segments)
        (length_beside old.segments old.counts n.uid before.rising fresh before.counted) (λ u there. cc (
          segments,
          counts u,
          look_beside old.segments old.counts n.uid before.rising fresh before.counted u,
        )),
  )
    where
      rising : IsRising (with_beside old.segments old.segments n.uid n.uid)
      rising = rising_beside old.segments old.counts n.uid before.rising fresh before.counted

      same : (u : ℕ) → has new.segments u ≡ has (with_beside old.segments old.segments n.uid n.uid) u
      same u = grind (arith, there_now, has_beside, fresh)

      segments : new.segments ≡ with_beside old.segments old.segments n.uid n.uid
      segments = rising_same new.segments (with_beside old.segments old.segments n.uid n.uid) after.rising rising same
