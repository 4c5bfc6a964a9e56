-- Laws of plain data: what each kind of step leaves in order, and what is read from rows. The crates above cite them
-- too.
use Rattle.std.proofs.Common.{◌≡◌, ◌≢◌, ℕ, ◌+◌, ◌*◌, ◌/◌, ◌%◌, ◌<◌, ◌≤◌, Bool, true, false, eqb, List, length, replicate, Option, Some, None, refl, sym, ap, subst, ◌∙◌, arith, get_or, set, inl, inr, ⊎_elim, is_some, IsTrue, ◌↔◌, Result, Ok, Err, IfOk, IfErr}
use mathlib.Core.Logic.{dite}
use native.Mathlib.Decide.{ℕ_discrete, dec_lt}
use lib.ListN.{get_or-eq_default, get_elem?}
use Rattle.std.proofs.lemmas.List.{get_or-set_same, get_or-set_other, length-set, length-replicate, get_or-replicate, get_or_default}
use Rattle.std.proofs.lemmas.Option.{none-some}
use Rattle.std.proofs.lemmas.Bool.{eqb-true, eq-eqb, ne_eqb}
use Rattle.std.proofs.lemmas.Grind.{get_or_default_zero}
use mathlib.Core.Option.{some}
use Rattle.atomic_table.proofs.Lists.{at_set}
use Rattle.live_doors.specs.declared.views.Walk.{Walk}
use Rattle.live_doors.specs.declared.views.Watch.{Watch}
use Rattle.live_doors.specs.Doors.{blank, having_read, holding, forgotten, acknowledged, shut, raised, having_noted, HasNoted, MayBind}
use Rattle.live_doors.specs.Beside.{EntryRows, KeeperRows, AreEntriesOf, AreRowsOf, entered, entered_if, MayBindBy}
use Rattle.live_doors.specs.declared.errors.Closed.{Closed}
use Rattle.live_doors.specs.Steps.{door_at, ack_at, filled_if, filled}
use Rattle.live_doors.specs.Kept.{EntryOk, PlanOk, EntriesOk, PassOk}

-- no place of a row of Nones has an entry
pub none_held : (k f b : ℕ) → get_or (replicate k None) f None ≡ Some b → ⊥
none_held k f b e = dite (dec_lt f k) (λ (h : f < k). none-some b (sym (get_or-replicate k f None None h) ∙ e))
    (λ (h : ¬ (f < k)). none-some b (sym (get_or-eq_default (replicate k None) None (beyond h)) ∙ e))
  where
    beyond : ¬ (f < k) → length (replicate {A = Option ℕ} k None) ≤ f
    beyond h = let n : length (replicate {A = Option ℕ} k None) ≡ k = length-replicate k None in omega arith

-- what a pass knows stays in order once more passes were made, or stamps raised
pub further : {frames : ℕ} {words : List ℕ} {passes passes' request request' : ℕ} {doors since : List ℕ} {cpu : ℕ}
    {held : List (Option ℕ)} {read ack : ℕ} → passes ≤ passes' → request ≤ request'
    → EntriesOk frames words passes request doors since cpu held read ack
    → EntriesOk frames words passes' request' doors since cpu held read ack
further more later ok = record {
  made = (let m = ok.made in omega arith);
  row = ok.row;
  stamp = (let s = ok.stamp in omega arith);
  word = ok.word;
  acked = ok.acked;
  bound = ok.bound;
  entries = ok.entries;
}

module _ (frames cpus : ℕ) (words : List ℕ) (plan : Watch) where
  -- an entry that the door admits is held besides
  pub holding_ok : (p : Walk) (f b : ℕ) → f < frames → get_or plan.doors f 0 ≡ 2 * b → 1 ≤ b
      → PassOk frames cpus words plan p
      → PassOk frames cpus words plan (holding f b p)
  holding_ok p f b inside door least ok = record {
    made = ok.made;
    row = length-set p.held f (Some b) ∙ ok.row;
    stamp = ok.stamp;
    word = ok.word;
    acked = ok.acked;
    bound = λ g c e. dite (ℕ_discrete g f) (λ (same : g ≡ f). subst (λ k. 1 ≤ k) (here g c same e) least)
        (λ (other : g ≢ f). ok.bound g c (else g c other e));
    entries = λ g c e. dite (ℕ_discrete g f) (λ (same : g ≡ f). inl
        (subst (λ k. get_or plan.doors k 0 ≡ 2 * c) (sym same) (door
        ∙ ap (λ k. 2 * k) (here g c same e)))) (λ (other : g ≢ f). ok.entries g c (else g c other e));
  }
    where
      here : (g c : ℕ) → g ≡ f → get_or (set p.held f (Some b)) g None ≡ Some c → b ≡ c
      here g c same e = let at : get_or (set p.held f (Some b)) f None ≡ Some b =
          get_or-set_same p.held f (Some b) None (let r = ok.row in omega arith) in
          let e' : get_or (set p.held f (Some b)) f None ≡ Some c =
          subst (λ k. get_or (set p.held f (Some b)) k None ≡ Some c) same e in
          let eq : Some b ≡ Some c = sym at ∙ e' in cc

      else : (g c : ℕ) → g ≢ f → get_or (set p.held f (Some b)) g None ≡ Some c → get_or p.held g None ≡ Some c
      else g c other e = sym (get_or-set_other p.held f g (Some b) None other) ∙ e

  filled_ok_if : (even : Bool) (p : Walk) (f n : ℕ) → eqb (n % 2) 0 ≡ even → f < frames → get_or plan.doors f 0 ≡ n
      → 1 ≤ n → PassOk frames cpus words plan p
      → PassOk frames cpus words plan (filled_if even f n p)
  filled_ok_if true p f n is inside door least ok = let e : n % 2 ≡ 0 = eqb-true _ _ is in let h : n ≡ 2 * (n / 2) =
      omega arith in
      let l : 1 ≤ n / 2 = omega arith in
      holding_ok (having_read (door_at f) n p) f (n / 2) inside (door ∙ h) l ok
  filled_ok_if false p f n is inside door least ok = ok

  pub filled_ok : (p : Walk) (f n : ℕ) → f < frames → n ≡ get_or words (door_at f) 0 → PlanOk frames cpus words plan
      → PassOk frames cpus words plan p
      → PassOk frames cpus words plan (filled f n p)
  filled_ok p f n inside is k ok = let door : get_or plan.doors f 0 ≡ n = sym (is ∙ k.doors f inside) in let l =
      k.least f inside in
      filled_ok_if (eqb (n % 2) 0) p f n refl inside door (omega arith) ok

  pub forgotten_ok : (p : Walk) (n : ℕ) → n ≡ get_or words 0 0 → PlanOk frames cpus words plan
      → PassOk frames cpus words plan p
      → PassOk frames cpus words plan (forgotten n p)
  forgotten_ok p n is k ok = let r : n ≡ plan.request = is ∙ k.request in record {
    made = ok.made;
    row = length-replicate (length p.held) None ∙ ok.row;
    stamp = omega arith;
    word = ok.word;
    acked = (let a = ok.acked in let s = ok.stamp in omega arith);
    bound = λ f b e. absurd (none_held (length p.held) f b e);
    entries = λ f b e. absurd (none_held (length p.held) f b e);
  }

  -- a store that leaves the words of doors, request and other processors
  pub plan_acknowledged : (p : Walk) → PlanOk frames cpus words plan → PassOk frames cpus words plan p
      → PlanOk frames cpus (set words (ack_at frames p.cpu) p.stamp) plan
  plan_acknowledged p k ok = record {
    room = (let l = length-set words (ack_at frames p.cpu) p.stamp in let r = k.room in omega arith);
    doors_row = k.doors_row;
    since_row = k.since_row;
    noted_row = k.noted_row;
    made = k.made;
    request = get_or-set_other words (ack_at frames p.cpu) 0 p.stamp 0 (λ e. omega arith) ∙ k.request;
    doors = λ f inside. get_or-set_other words (ack_at frames p.cpu) (door_at f) p.stamp 0 (λ e. omega arith)
        ∙ k.doors f inside;
    least = k.least;
    noted = λ c inside. dite (ℕ_discrete c p.cpu)
        (λ (same : c ≡ p.cpu). let w : get_or (set words (ack_at frames p.cpu) p.stamp) (ack_at frames c) 0
        ≡ p.stamp = ap (λ i. get_or (set words (ack_at frames p.cpu) p.stamp) (ack_at frames i) 0) same ∙ here in
        let old : get_or plan.noted c 0 ≤ p.acked = subst (λ i. get_or plan.noted c 0 ≤ i)
        (ap (λ i. get_or words (ack_at frames i) 0) same
        ∙ ok.word) (k.noted c inside) in
        let a = ok.acked in omega arith)
        (λ (other : c ≢ p.cpu). subst (λ i. get_or plan.noted c 0 ≤ i) (sym (elsewhere c other)) (k.noted c inside));
    unmade = λ c above inside. elsewhere c (λ e. let m = ok.made in omega arith) ∙ k.unmade c above inside;
  }
    where
      here : get_or (set words (ack_at frames p.cpu) p.stamp) (ack_at frames p.cpu) 0 ≡ p.stamp
      here = get_or-set_same words (ack_at frames p.cpu) p.stamp 0
          (let r = k.room in let m = ok.made in let n = k.made in omega arith)

      elsewhere : (c : ℕ) → c ≢ p.cpu → get_or (set words (ack_at frames p.cpu) p.stamp) (ack_at frames c) 0
          ≡ get_or words (ack_at frames c) 0
      elsewhere c other = get_or-set_other words (ack_at frames p.cpu) (ack_at frames c) p.stamp 0
          (λ e. other (omega arith))

  pub acknowledged_ok : (p : Walk) → PlanOk frames cpus words plan → PassOk frames cpus words plan p
      → PassOk frames cpus (set words (ack_at frames p.cpu) p.stamp) plan (acknowledged p)
  acknowledged_ok p k ok = record {
    made = ok.made;
    row = ok.row;
    stamp = ok.stamp;
    word = get_or-set_same words (ack_at frames p.cpu) p.stamp 0
        (let r = k.room in let m = ok.made in let n = k.made in omega arith);
    acked = omega arith;
    bound = ok.bound;
    entries = ok.entries;
  }

  -- a store to another word than the pass's own
  pub pass_stays : (q : Walk) (i n : ℕ) → ack_at frames q.cpu ≢ i → PassOk frames cpus words plan q
      → PassOk frames cpus (set words i n) plan q
  pass_stays q i n other ok = record {
    made = ok.made;
    row = ok.row;
    stamp = ok.stamp;
    word = get_or-set_other words i (ack_at frames q.cpu) n 0 other ∙ ok.word;
    acked = ok.acked;
    bound = ok.bound;
    entries = ok.entries;
  }

  -- the plan once a door's word, which is at least 1, is stored and known, with these stamps beside the doors
  pub plan_stored : (f n : ℕ) (since : List ℕ) → f < frames → 1 ≤ n → length since ≡ frames
      → PlanOk frames cpus words plan
      → PlanOk frames cpus (set words (door_at f) n) (record plan { doors = set plan.doors f n; since = since })
  plan_stored f n since inside least row k = record {
    room = (let l = length-set words (door_at f) n in let r = k.room in omega arith);
    doors_row = length-set plan.doors f n ∙ k.doors_row;
    since_row = row;
    noted_row = k.noted_row;
    made = k.made;
    request = get_or-set_other words (door_at f) 0 n 0 (λ e. omega arith) ∙ k.request;
    doors = λ g within. dite (ℕ_discrete g f)
        (λ (same : g ≡ f). subst (λ j. get_or (set words (door_at f) n) (door_at j) 0
        ≡ get_or (set plan.doors f n) j 0) (sym same)
        (get_or-set_same words (door_at f) n 0 (let r = k.room in omega arith)
        ∙ sym (get_or-set_same plan.doors f n 0 (let r = k.doors_row in omega arith))))
        (λ (other : g ≢ f). get_or-set_other words (door_at f) (door_at g) n 0 (λ e. other (omega arith))
        ∙ k.doors g within
        ∙ sym (get_or-set_other plan.doors f g n 0 other));
    least = λ g within. dite (ℕ_discrete g f)
        (λ (same : g ≡ f). subst (λ j. 1 ≤ get_or (set plan.doors f n) j 0) (sym same)
        (subst (λ j. 1 ≤ j) (sym (get_or-set_same plan.doors f n 0 (let r = k.doors_row in omega arith)))
        (omega arith)))
        (λ (other : g ≢ f). subst (λ j. 1 ≤ j) (sym (get_or-set_other plan.doors f g n 0 other)) (k.least g within));
    noted = λ c within. subst (λ j. get_or plan.noted c 0 ≤ j)
        (sym (get_or-set_other words (door_at f) (ack_at frames c) n 0 (λ e. omega arith)))
        (k.noted c within);
    unmade = λ c above within. get_or-set_other words (door_at f) (ack_at frames c) n 0 (λ e. omega arith)
        ∙ k.unmade c above within;
  }

  pub plan_shut : (f : ℕ) → f < frames → PlanOk frames cpus words plan
      → PlanOk frames cpus (set words (door_at f) (get_or plan.doors f 0 + 1)) (shut f plan)
  plan_shut f inside k = plan_stored f (get_or plan.doors f 0 + 1) (set plan.since f plan.request) inside
      (omega arith) (length-set plan.since f plan.request ∙ k.since_row) k

  -- and each pass beside it, where what it holds there is in order with that word
  pub pass_stored : (f n : ℕ) (since : List ℕ) (q : Walk)
      → ((b : ℕ) → get_or q.held f None ≡ Some b → EntryOk n (get_or since f 0) q.stamp b)
      → ((g : ℕ) → g ≢ f → get_or since g 0 ≡ get_or plan.since g 0) → f < frames → PlanOk frames cpus words plan
      → PassOk frames cpus words plan q
      → PassOk frames cpus (set words (door_at f) n) (record plan { doors = set plan.doors f n; since = since }) q
  pass_stored f n since q here else inside k ok = record {
    made = ok.made;
    row = ok.row;
    stamp = ok.stamp;
    word = get_or-set_other words (door_at f) (ack_at frames q.cpu) n 0 (λ e. omega arith) ∙ ok.word;
    acked = ok.acked;
    bound = ok.bound;
    entries = λ g b e. dite (ℕ_discrete g f)
        (λ (same : g ≡ f). subst (λ j. EntryOk (get_or (set plan.doors f n) j 0) (get_or since j 0) q.stamp b)
        (sym same)
        (subst (λ d. EntryOk d (get_or since f 0) q.stamp b)
        (sym (get_or-set_same plan.doors f n 0 (let r = k.doors_row in omega arith)))
        (here b (subst (λ j. get_or q.held j None ≡ Some b) same e))))
        (λ (other : g ≢ f). subst (λ (x : ℕ × ℕ). EntryOk x.0 x.1 q.stamp b)
        (λ i. (sym (get_or-set_other plan.doors f g n 0 other) i, sym (else g other) i)) (ok.entries g b e));
  }

  pub pass_shut : (f : ℕ) (q : Walk) → f < frames → get_or plan.doors f 0 % 2 ≡ 0 → PlanOk frames cpus words plan
      → PassOk frames cpus words plan q
      → PassOk frames cpus (set words (door_at f) (get_or plan.doors f 0 + 1)) (shut f plan) q
  pass_shut f q inside even k ok = pass_stored f (get_or plan.doors f 0 + 1) (set plan.since f plan.request) q
      (λ b e. inr (
        was b (ok.entries f b e),
        subst (λ j. q.stamp ≤ j) (sym (get_or-set_same plan.since f plan.request 0
            (let r = k.since_row in omega arith))) ok.stamp,
      ))
      (λ g other. get_or-set_other plan.since f g plan.request 0 other) inside k ok
    where
      was : (b : ℕ) → EntryOk (get_or plan.doors f 0) (get_or plan.since f 0) q.stamp b → get_or plan.doors f 0 + 1
          ≡ 2 * b + 1
      was b = ⊎_elim (λ (e : get_or plan.doors f 0 ≡ 2 * b). ap (λ j. j + 1) e)
          (λ (e : (get_or plan.doors f 0 ≡ 2 * b + 1) × (q.stamp ≤ get_or plan.since f 0)). let o =
          e.0 in absurd (omega arith))

  pub plan_raised : PlanOk frames cpus words plan → PlanOk frames cpus (set words 0 (plan.request + 1)) (raised plan)
  plan_raised k = let n : ℕ = plan.request + 1 in record {
    room = (let l = length-set words 0 n in let r = k.room in omega arith);
    doors_row = k.doors_row;
    since_row = k.since_row;
    noted_row = k.noted_row;
    made = k.made;
    request = get_or-set_same words 0 n 0 (let r = k.room in omega arith);
    doors = λ f inside. get_or-set_other words 0 (door_at f) n 0 (λ e. omega arith) ∙ k.doors f inside;
    least = k.least;
    noted = λ c inside. subst (λ j. get_or plan.noted c 0 ≤ j)
        (sym (get_or-set_other words 0 (ack_at frames c) n 0 (λ e. omega arith))) (k.noted c inside);
    unmade = λ c above inside. get_or-set_other words 0 (ack_at frames c) n 0 (λ e. omega arith)
        ∙ k.unmade c above inside;
  }

  pub pass_raised : (q : Walk) → PassOk frames cpus words plan q
      → PassOk frames cpus (set words 0 (plan.request + 1)) (raised plan) q
  pass_raised q ok = further (omega arith) (omega arith) (pass_stays q 0 (plan.request + 1) (λ e. omega arith) ok)

  pub plan_noted : (at c n : ℕ) → c < cpus → n ≡ get_or words (ack_at frames c) 0 → PlanOk frames cpus words plan
      → PlanOk frames cpus words (having_noted at c n plan)
  plan_noted at c n inside is k = record {
    room = k.room;
    doors_row = k.doors_row;
    since_row = k.since_row;
    noted_row = length-set plan.noted c n ∙ k.noted_row;
    made = k.made;
    request = k.request;
    doors = k.doors;
    least = k.least;
    noted = λ d within. dite (ℕ_discrete d c)
        (λ (same : d ≡ c). subst (λ j. get_or (set plan.noted c n) j 0 ≤ get_or words (ack_at frames j) 0) (sym same)
        (let h = get_or-set_same plan.noted c n 0 (let r = k.noted_row in omega arith) in omega arith))
        (λ (other : d ≢ c). subst (λ j. j ≤ get_or words (ack_at frames d) 0)
        (sym (get_or-set_other plan.noted c d n 0 other)) (k.noted d within));
    unmade = k.unmade;
  }

  pub plan_admits : plan.made < cpus → PlanOk frames cpus words plan
      → PlanOk frames cpus words record plan { made = plan.made + 1 }
  plan_admits room k = record {
    room = k.room;
    doors_row = k.doors_row;
    since_row = k.since_row;
    noted_row = k.noted_row;
    made = omega arith;
    request = k.request;
    doors = k.doors;
    least = k.least;
    noted = k.noted;
    unmade = λ c above inside. k.unmade c (omega arith) inside;
  }

  pub pass_admits : (q : Walk) → PassOk frames cpus words plan q
      → PassOk frames cpus words record plan { made = plan.made + 1 } q
  pass_admits q = further (omega arith) (omega arith)

  pub blank_ok : plan.made < cpus → PlanOk frames cpus words plan
      → PassOk frames cpus words record plan { made = plan.made + 1 } (blank frames plan.made)
  blank_ok room k = record {
    made = omega arith;
    row = length-replicate frames None;
    stamp = omega arith;
    word = k.unmade plan.made (omega arith) room;
    acked = omega arith;
    bound = λ f b e. absurd (none_held frames f b e);
    entries = λ f b e. absurd (none_held frames f b e);
  }

  -- who has acknowledged a stamp that was raised after the door was closed holds no entry there
  pub entry_gone : (p : Walk) (f b stamp : ℕ) → PlanOk frames cpus words plan → PassOk frames cpus words plan p
      → stamp ≤ get_or plan.noted p.cpu 0
      → get_or plan.doors f 0 % 2 ≡ 1 → get_or plan.since f 0 < stamp
      → get_or p.held f None ≡ Some b → ⊥
  entry_gone p f b stamp k ok noted odd since e =
      let there = k.noted p.cpu (let m = ok.made in let n = k.made in omega arith) in let word = ok.word in let acked =
      ok.acked in
      ⊎_elim (λ (t : get_or plan.doors f 0 ≡ 2 * b). omega arith)
      (λ (t : (get_or plan.doors f 0 ≡ 2 * b + 1) × (p.stamp ≤ get_or plan.since f 0)). let s =
      t.1 in omega arith) (ok.entries f b e)

  -- nobody holds an entry of a frame that was never bound
  pub entry_never : (p : Walk) (f b : ℕ) → PassOk frames cpus words plan p → get_or plan.doors f 0 ≡ 1
      → get_or p.held f None ≡ Some b → ⊥
  entry_never p f b ok one e = let l = ok.bound f b e in
      ⊎_elim (λ (t : get_or plan.doors f 0 ≡ 2 * b). omega arith)
      (λ (t : (get_or plan.doors f 0 ≡ 2 * b + 1) × (p.stamp ≤ get_or plan.since f 0)). let s =
      t.0 in omega arith) (ok.entries f b e)

-- ---- rows and their words

-- a fill that finds an odd word only notes it
pub filled_odd : (f n : ℕ) (p : Walk) → n % 2 ≡ 1 → filled f n p ≡ having_read (door_at f) n p
filled_odd f n p odd = ap (λ b. filled_if b f n p) (ne_eqb (n % 2) 0 (λ e. omega arith))

-- a fill that finds an even one holds the entry of its half
pub filled_even : (f n : ℕ) (p : Walk) → n % 2 ≢ 1
    → filled f n p ≡ holding f (n / 2) (having_read (door_at f) (2 * (n / 2)) p)
filled_even f n p even = let h : n ≡ 2 * (n / 2) = omega arith in let e : n % 2 ≡ 0 = omega arith in
    ap (λ b. filled_if b f n p) (eq-eqb (n % 2) 0 e) ∙ ap (λ k. holding f (n / 2) (having_read (door_at f) k p)) h

-- each acknowledgement that was noted is still at least the stamp
pub noted_still : (w : Watch) (c n stamp : ℕ) → HasNoted w stamp → get_or w.noted c 0 ≤ n
    → HasNoted (record w { noted = set w.noted c n }) stamp
noted_still w c n stamp all low d inside =
    let l = length-set w.noted c n in
    dite (ℕ_discrete d c)
    (λ (same : d ≡ c). let h : get_or (set w.noted c n) d 0 ≡ n =
    subst (λ k. get_or (set w.noted c n) k 0 ≡ n) (sym same)
    (get_or-set_same w.noted c n 0 (omega arith)) in let old = all c (omega arith) in omega arith)
    (λ (other : d ≢ c). subst (λ k. stamp ≤ k) (sym (get_or-set_other w.noted c d n 0 other)) (all d (omega arith)))

-- a fill leaves as many entries, of the same processor
pub filled_row : (f n : ℕ) (p : Walk) → (length (filled f n p).held ≡ length p.held) × ((filled f n p).cpu ≡ p.cpu)
filled_row f n p = cases (eqb (n % 2) 0)
  where
    cases : (even : Bool) → (length (filled_if even f n p).held ≡ length p.held) × ((filled_if even f n p).cpu ≡ p.cpu)
    cases true = (length-set p.held f (Some (n / 2)), refl)
    cases false = (refl, refl)

-- and what stands beside the seat follows
pub entries_filled : (f n : ℕ) (e : EntryRows) (p : Walk) → AreEntriesOf e p
    → AreEntriesOf (entered f n e) (filled f n p)
entries_filled f n e p of = cases (eqb (n % 2) 0)
  where
    cases : (even : Bool) → AreEntriesOf (entered_if even f n e) (filled_if even f n p)
    cases true = record { cpu = of.cpu; held = ap (λ l. set l f (Some (n / 2))) of.held; stamp = of.stamp }
    cases false = record { cpu = of.cpu; held = of.held; stamp = of.stamp }

-- an acknowledgement that is read is beside these rows
pub rows_noted : (at c n : ℕ) (r : KeeperRows) (w : Watch) → AreRowsOf r w → AreRowsOf r (having_noted at c n w)
rows_noted at c n r w of = record { request = of.request; doors = of.doors; since = of.since; rows = of.rows }

pub may_bind_by : (r : KeeperRows) (w : Watch) (cleared f : ℕ) → AreRowsOf r w
    → MayBindBy r.doors r.since cleared f → MayBind w cleared f
may_bind_by r w cleared f of = subst (λ (x : List ℕ × List ℕ). MayBindBy x.0 x.1 cleared f)
    (λ i. (of.doors i, of.since i))

-- what a fill tells by its answer, of anything that sees what it does to what the pass knows
pub when_bound : (r : Result ℕ Closed) (n : ℕ) → 1 ≤ n → IfOk r (λ b. n ≡ 2 * b) → IfOk r (λ b. 1 ≤ b)
when_bound (Ok b) n least even = omega arith
when_bound (Err e) n least even = tt

pub when_admitted : {T : Type 0} (r : Result ℕ Closed) (f n : ℕ) (seen : (Walk → Walk) → T) (x : T)
    → x ≡ seen (filled f n) → IfOk r (λ b. n ≡ 2 * b)
    → IfOk r (λ b. x ≡ seen (λ p. holding f b (having_read (door_at f) (2 * b) p)))
when_admitted (Ok b) f n seen x is even =
    let half : n / 2 ≡ b = omega arith in
    is ∙ ap seen (λ i p. filled_even f n p (λ e. omega arith) i)
    ∙ ap (λ k. seen (λ p. holding f k (having_read (door_at f) (2 * k) p))) half
when_admitted (Err e) f n seen x is even = tt

pub when_closed : {T : Type 0} (r : Result ℕ Closed) (f n : ℕ) (seen : (Walk → Walk) → T) (x : T)
    → x ≡ seen (filled f n) → IfErr r (λ e. (e.word ≡ n) × (n % 2 ≡ 1))
    → IfErr r (λ e. (e.word % 2 ≡ 1) × (x ≡ seen (having_read (door_at f) e.word)))
when_closed (Ok b) f n seen x is odd = tt
when_closed (Err e) f n seen x is odd = (
  ap (λ k. k % 2) odd.0 ∙ odd.1,
  is ∙ ap seen (λ i p. filled_odd f n p odd.1 i) ∙ ap (λ k. seen (having_read (door_at f) k)) (sym odd.0),
)

-- a word that was read from a row
pub word_of : (xs ys : List ℕ) (i x : ℕ) → x ≡ get_or xs i x → xs ≡ ys → i < length xs → x ≡ get_or ys i 0
word_of xs ys i x is same inside = is ∙ get_or_default_zero xs i x inside ∙ ap (λ l. get_or l i 0) same

-- what is found at a place is an entry exactly where the pass holds one there
pub holds_entry : (xs ys : List (Option ℕ)) (f : ℕ) (o : Option ℕ) → o ≡ get_or xs f o → xs ≡ ys → f < length ys
    → IsTrue (is_some o) ↔ ((b : ℕ) × (get_or ys f None ≡ Some b))
holds_entry xs ys f o is same inside = cases o (is ∙ ap (λ l. get_or l f o) same ∙ get_or_default ys f o None inside)
  where
    cases : (u : Option ℕ) → u ≡ get_or ys f None → IsTrue (is_some u) ↔ ((b : ℕ) × (get_or ys f None ≡ Some b))
    cases (Some b) e = (λ _. (b, sym e), λ _. refl)
    cases None e = (λ never. absurd (cc), λ t. absurd (none-some t.0 (e ∙ t.1)))

-- after a change of one seat's view, each seat is in order, if that one is and the others were
pub seats_stay : {V : Type 0} (K : ℕ → V → Type 0) (views : List V) (me : ℕ) (w : V) → K me w
    → ((j : ℕ) (v : V) → j ≢ me → get_elem? views j ≡ some v → K j v)
    → (j : ℕ) (v : V) → get_elem? (set views me w) j ≡ some v → K j v
seats_stay {V} K views me w mine others j v e =
    ⊎_elim (λ (t : (j ≡ me) × (w ≡ v)). subst (λ (x : ℕ × V). K x.0 x.1) (λ i. (sym t.0 i, t.1 i)) mine)
    (λ (t : (j ≢ me) × (get_elem? views j ≡ some v)). others j v t.0 t.1) (at_set views me j w v e)
