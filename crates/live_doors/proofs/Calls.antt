-- What a call leaves, from what its step told.
pub use Rattle.live_doors.proofs.Prelude.{All, All-append, AreEntriesOf, AreNew, AreRowsOf, DoorsModel, EntryRows, HasNoted, IsKeeperOf, IsPassOf, KeeperFits, KeeperModel, KeeperRows, Keeping, List, Me, None, OnlyNoted, PassFits, PassModel, TableId, View, Walk, Walking, Watch, [], ap, arith, blank, common_steps, drop, first_passes, first_watch, get_or, having_noted, length, length-replicate, refl, rules, subst, suc, sym, take, walk_of, watch_of, zero, ℕ, ◌++◌, ◌+◌, ◌<◌, ◌∙◌, ◌∷◌, ◌≡◌, ◌≤◌}

-- a pass whose fields are those of its view
pub pass_fits : {m : Me (Unit {0}) View} {q : Walk} {e : EntryRows} → m ≡ (Walking q, []) → AreEntriesOf e q
    → PassFits m e
pass_fits {e} is entries = subst (λ x. PassFits x e) (sym is) assumption

-- a seat of doors has no slot in hand
pub without_slots : {V S : Type 0} (m : V × List S) (v : V) → m ≡ (v, []) → m.1 ≡ []
without_slots m v is = cc

-- it came with the same doors as before
pub pass_stays_of : {doors : DoorsModel} {now : PassModel} {t t' : TableId}
    (m : Me (Unit {0}) View) {m' : Me (Unit {0}) View} {q : Walk} → record { table = t; walk = walk_of m.0 } ≡ now
    → IsPassOf doors now → t' ≡ t → m' ≡ (Walking q, []) → length q.held ≡ length (walk_of m.0).held
    → q.cpu ≡ (walk_of m.0).cpu → IsPassOf doors record { table = t'; walk = walk_of m'.0 }
pass_stays_of {doors} m view ok same is row cpu = record {
  table = cc;
  frames = cc;
  cpu = rw (ap (λ x. (walk_of x.0).cpu) is ∙ cpu ∙ ap (λ v. v.walk.cpu) view) ok.cpu;
}

-- a keeper whose fields are those of its view
pub keeper_fits : {m : Me (Unit {0}) View} {w : Watch} {r : KeeperRows} {cleared : ℕ} → m ≡ (Keeping w, [])
    → AreRowsOf r w → HasNoted w cleared → KeeperFits m r cleared
keeper_fits {r} {cleared} is rows noted = subst (λ x. KeeperFits x r cleared) (sym is) assumption

-- it came with the same doors as before
pub keeper_stays_of : {doors : DoorsModel} {now : KeeperModel} {t t' : TableId}
    (cleared cleared' : ℕ) (m : Me (Unit {0}) View) {m' : Me (Unit {0}) View} {w : Watch} → record
    { table = t; watch = watch_of m.0; cleared = cleared } ≡ now → IsKeeperOf doors now → t' ≡ t → m' ≡ (Keeping w, [])
    → length w.doors ≡ length (watch_of m.0).doors → length w.since ≡ length (watch_of m.0).since → length w.noted
    ≡ length (watch_of m.0).noted → IsKeeperOf doors record { table = t'; watch = watch_of m'.0; cleared = cleared' }
keeper_stays_of cleared cleared' m view ok same is a b c =
    record { table = cc; frames = cc; since = cc; cpus = cc }

-- what the keeper has noted once it has read the acknowledgements of the first few processors, each at least the stamp
pub record NotedSoFar (old now : Watch) (stamp cpu : ℕ) : Type 0 where
  pub only : OnlyNoted old now
  pub looks : now.looks ≡ old.looks + cpu
  pub noted : (c : ℕ) → c < cpu → stamp ≤ get_or now.noted c 0

module _ (old now next : Watch) (stamp at cpu seen : ℕ) (so : NotedSoFar old now stamp cpu)
    (is : next ≡ having_noted at cpu seen now) where
  pub only_noted : OnlyNoted old next
  only_noted = assumption (
    ap (λ w. w.made) is ∙ so.only.made,
    ap (λ w. w.request) is ∙ so.only.request,
    ap (λ w. w.doors) is ∙ so.only.doors,
    ap (λ w. w.since) is ∙ so.only.since,
  )

-- the keeper so far, as it asks
pub record ClearSoFar (doors : DoorsModel) (old now : KeeperModel) (stamp cpu : ℕ) : Type 0 where
  pub keeper : IsKeeperOf doors now
  pub so : NotedSoFar old.watch now.watch stamp cpu
  pub cleared : now.cleared ≡ old.cleared

-- every new pass came with its doors
pub all_first : {doors : DoorsModel} (n : ℕ) → n ≤ doors.cpus → All (IsPassOf doors) (first_passes doors n)
all_first zero few = λ k d inside. absurd (omega arith)
all_first {doors} (suc n) few = All-append (IsPassOf doors) (first_passes doors n) _ (all_first n (omega arith))
    (λ k d inside. let at : k ≡ 0 = omega arith in subst (λ j. IsPassOf doors (get_or
    (record { table = doors.table; walk = blank doors.frames n } ∷ []) j d)) (sym at) record
    { table = refl; frames = length-replicate doors.frames None; cpu = omega arith })

-- what is there at the start, once every pass is made
pub opened : {doors : DoorsModel} {keeper : KeeperModel} {passes : List PassModel} {frames cpus door : ℕ}
    → doors.frames ≡ frames → doors.cpus ≡ cpus → keeper ≡ record {
      table = doors.table;
      watch = record (first_watch frames cpus door) { made = doors.cpus };
      cleared = 0;
    } → passes ≡ first_passes doors doors.cpus → AreNew frames cpus door doors keeper passes
opened {doors} {frames} {cpus} {door} f c is row = record {
  size = (f, c);
  keeper_of = subst (IsKeeperOf doors) (sym is) record {
    table = refl;
    frames = length-replicate frames door ∙ sym f;
    since = length-replicate frames 0 ∙ sym f;
    cpus = length-replicate cpus 0 ∙ sym c;
  };
  watch = (cc, cc);
  first = cc;
  passes_of = rw row (all_first doors.cpus (omega arith));
}

-- a slice that was written whole
pub written_whole : {new : List ℕ} (items : List ℕ) {n : ℕ} → n ≡ length items → length new ≡ length items
    → take n (new ++ drop (length new) items) ≡ new
written_whole items is same = grind (arith, common_steps)
