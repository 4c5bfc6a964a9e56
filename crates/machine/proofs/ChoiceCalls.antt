-- What the choice of a processor's action asks follows from the promise.
use Rattle.machine.proofs.Prelude.{◌≡◌, ◌<◌, ◌≤◌, ℕ, true, false, is_some, length, List, Option, Some, None, refl, subst, ◌∙◌, arith, find, HeldSeg, is_number, Mover, Node, node_in, pool_of, IsActive, table_at, uid_at, place_of, pages_of, directory_found, room_of, IsLongEnough, AreHeldSegs, AreOfProcess, IsEntitled, seen, Keeps, MovesIn, mover_in, mover_of, Phase, cpu_at, is_active, next_command, process_at, shown, Owner, State, active_place, descriptor_active, entitled_all, leads_all, seg_found, active_there, AreLong, MayChoose, Parts, IsSound, some_same, Phase as phase}
use Rattle.machine.proofs.AloneLaws.{process_known, run_there}

module _ {D : Type 0} (t : Parts D) (c : ℕ) (sound : IsSound t) (there : c < length t.state.processors) where
  abbrev s : State
  s = t.state

  abbrev keeps : Keeps s
  keeps = sound.keeps.machine.keeps

  abbrev segs : List HeldSeg
  segs = (cpu_at s.processors c).assoc.segs

  -- what a processor holds of a segment
  module _ (k : ℕ) (its : (cpu_at s.processors c).process ≡ Some k) (n : ℕ) (h : HeldSeg)
      (held : find (is_number n) segs ≡ Some h) where
    right : IsEntitled s.store.accounts.nodes s.store.whos s.store.links.known k h
    right = seg_found (IsEntitled s.store.accounts.nodes s.store.whos s.store.links.known k) segs n h held
        (entitled_all s k segs (sound.keeps.entitled.each c k its))

    its_segs : AreHeldSegs (shown (seen s)).descriptor k segs
    its_segs = subst (λ (x : Option ℕ). AreOfProcess (shown (seen s)).descriptor x segs) its
        (keeps.book.holding_right c).segs

    active : is_active s.store.ast h.uid ≡ true
    active = grind (arith, descriptor_active, seg_found, leads_all, its_segs)

    long : (place : ℕ) → uid_at s.store.ast.entries place ≡ Some h.uid
        → h.pages ≤ length (table_at s.store.ast.tables place)
    long place at = by (node_in s.store.accounts.nodes h.uid) refl (active_there s keeps h.uid active)
      where
        by : (x : Option Node) → node_in s.store.accounts.nodes h.uid ≡ x → is_some x ≡ true
            → h.pages ≤ length (table_at s.store.ast.tables place)
        by None e i = absurd (let no : false ≡ true = i in cc)
        by (Some node) e i =
            let pages = right.pages node e in
            let room = room_of node most flat in
            let fits = room.0 in
            let size = keeps.store.kept.sized (pool_of node) place room.1
            (keeps.store.counted.active.pools place h.uid node at e) in
            omega (arith, pages, fits, size)
          where
            most : node.pages ≤ 256
            most = subst (λ (y : Option Node). pages_of y ≤ 256) e (keeps.store.counted.counted.most h.uid)

            flat : node.directory ≡ true → node.pages ≡ 0
            flat is = cc (keeps.store.counted.counted.flat h.uid (directory_found s.store.accounts.nodes h.uid node e
                ∙ is))

    long_enough : IsLongEnough s.store.ast h
    long_enough = record {
      active = (place_of s.store.ast.entries h.uid, (active_place s.store.ast h.uid active).1);
      long = long;
    }

  held_long : AreLong s.store.ast (cpu_at s.processors c).assoc
  held_long n = grind (arith, long_enough)

  -- the segment that moves is active
  moves_active : (m : Mover) → (x : Option Owner) → s.owner ≡ x → mover_of x ≡ Some m
      → IsActive s.store.ast.entries m.uid
  moves_active m None e h = cc
  moves_active m (Some q) e h = by q.phase (sound.keeps.working.moves q e) h
    where
      by : (y : Phase) → MovesIn y s.store (process_at s q.cpu) (next_command s (process_at s q.cpu))
          → mover_in y ≡ Some m → IsActive s.store.ast.entries m.uid
      by phase.Looking rests i = cc
      by (phase.Taken a w) rests i = cc
      by (phase.Waiting a w) rests i = cc
      by (phase.Moving n) rests i = let same = some_same n m i in
          subst (λ (x : Mover). IsActive s.store.ast.entries x.uid) same
          (place_of s.store.ast.entries n.uid, (active_place s.store.ast n.uid rests.active).1)

  moved_active : (m : Mover) → s.store.moving ≡ Some m → IsActive s.store.ast.entries m.uid
  moved_active m e = moves_active m s.owner refl (cc)

  pub may_choose : MayChoose s c
  may_choose = grind (arith, run_there, process_known, held_long, moved_active)
