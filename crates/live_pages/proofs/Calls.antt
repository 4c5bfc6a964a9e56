-- What a call leaves at seats that are known to be a pass's or the keeper's, and what is there at the start.
pub use Rattle.live_pages.proofs.Prelude.{All, All-append, All-cons, All-nil, AreEntriesOf, AreNew, AreRowsOf, EntryRows, Free, Has, HasNoted, HaveZeroPages, Held, Holder, IsKeeperOf, IsPassOf, KeeperFits, KeeperModel, KeeperRows, Keeping, List, MayBind, None, NotedSoFar, Option, Out, PagesModel, PassFits, PassModel, Passing, SameButWatch, Seat, Some, TableId, View, Walker, Watch, [], admitted, ap, arith, at_last, at_longer, bound_anew, first_holder, first_passes, get_or, get_or_append_left, get_or_push, having_made, having_touched, holder_of, length, length-replicate, length-set, length_push, noted_still, rebound, refl, replicate, rest, rows_noted, rules, set, subst, suc, sym, taken, walker_of, watching, zero, ℕ, ◌*◌, ◌++◌, ◌+◌, ◌/◌, ◌<◌, ◌∙◌, ◌∷◌, ◌≡◌, ◌≢◌, ◌≤◌}
pub use Rattle.live_pages.proofs.Turning.{fills, keeper_gives, keeper_takes, looks, takes_turn, with_hand}
use mathlib.Core.Logic.{dite}
use native.Mathlib.Decide.{ℕ_discrete}

-- a pass whose fields are those of its view
pub pass_fits : {m : Seat} {q : Walker} {e : EntryRows} {touches : ℕ} → m ≡ (Passing q, []) → q.hand ≡ Free
    → AreEntriesOf e q.walk → touches ≡ length q.made → PassFits m e touches
pass_fits is free entries count = rw is assumption

-- it came with the same pages as before
pub pass_stays_of : {pages : PagesModel} {now : PassModel} {t t' : TableId} {m : Seat} {w q : Walker}
    → record { table = t; walker = w } ≡ now → IsPassOf pages now → t' ≡ t → m ≡ (Passing q, [])
    → length q.walk.held ≡ length w.walk.held → q.walk.cpu ≡ w.walk.cpu → q.cpus ≡ w.cpus
    → IsPassOf pages record { table = t'; walker = walker_of m.0 }
pass_stays_of view ok same is row cpu all =
    let old = rw (← view) at ok in
    rw (same, is) record {
      table = old.table;
      frames = cc;
      cpu = rw cpu old.cpu;
      cpus = cc;
    }

-- a keeper whose fields are those of its view
pub keeper_fits : {m : Seat} {k : Holder} {r : KeeperRows} {cleared : ℕ} → m ≡ (Keeping k, []) → k.hand ≡ Free
    → AreRowsOf r k.watch → HasNoted k.watch cleared → KeeperFits m r cleared
keeper_fits is free rows noted = rw is assumption

pub rows_admitted : (f : ℕ) {r : KeeperRows} {w : Watch} → AreRowsOf r w
    → AreRowsOf (record r { doors = set r.doors f (2 * (get_or r.doors f 0 / 2 + 1)) }) (admitted f w)
rows_admitted f {r} of = assumption (
  ap (λ l. set l f (2 * (get_or l f 0 / 2 + 1))) of.doors,
  of.rows ∙ sym (length-set r.doors f (2 * (get_or r.doors f 0 / 2 + 1))),
)

-- it came with the same pages as before
pub keeper_stays_of : {pages : PagesModel} {now : KeeperModel} {t t' : TableId} {cleared cleared' : ℕ} {m : Seat}
    {h k : Holder} → record { table = t; holder = h; cleared = cleared } ≡ now → IsKeeperOf pages now → t' ≡ t
    → m ≡ (Keeping k, []) → length k.watch.doors ≡ length h.watch.doors → length k.watch.since ≡ length h.watch.since
    → length k.watch.noted ≡ length h.watch.noted → length k.parts ≡ length h.parts
    → IsKeeperOf pages record { table = t'; holder = holder_of m.0; cleared = cleared' }
keeper_stays_of view ok same is a b c d =
    let old = rw (← view) at ok in
    rw (same, is) assumption (a ∙ old.frames, b ∙ old.since, c ∙ old.cpus, d ∙ old.parts)

-- the keeper so far, as it asks
pub record ClearSoFar (pages : PagesModel) (old now : KeeperModel) (stamp cpu : ℕ) : Type 0 where
  pub keeper : IsKeeperOf pages now
  pub so : NotedSoFar old.holder.watch now.holder.watch stamp cpu
  pub same : SameButWatch old.holder now.holder
  pub cleared : now.cleared ≡ old.cleared

-- ---- a seat, from what a step told of it

-- it had nothing in hand
pub told_alone : {m m' : Seat} {v w : View} → m ≡ (v, []) → m' ≡ (w, m.1) → m' ≡ (w, [])
told_alone {w = w} is told = cc

pub told_with : {m m' : Seat} {v w : View} {x : ℕ × Option Held} → m ≡ (v, []) → m' ≡ (w, x ∷ m.1) → m' ≡ (w, x ∷ [])
told_with {w = w} {x = x} is told = cc

-- from what it has in hand
pub with_slots : (m : Seat) {cs : List (ℕ × Option Held)} → m.1 ≡ cs → m ≡ (m.0, cs)
with_slots m is = ap (λ cs. (m.0, cs)) is

-- with another slot in hand
pub swapped : {m m' : Seat} {v : View} {cs new : List (ℕ × Option Held)} → m ≡ (v, cs) → m' ≡ (m.0, new) → m' ≡ (v, new)
swapped {new = new} is told = cc

pub seat_form : {m : Seat} {w : Walker} {cs : List (ℕ × Option Held)} → m ≡ (Passing w, cs)
    → m ≡ (Passing (walker_of m.0), cs)
seat_form is = rw is refl

-- what lies in the slot in hand after two exchanges
pub exchanged_twice : {m m1 m2 : Seat} {v : View} {f : ℕ} {h new : Option Held} → m ≡ (v, (f, h) ∷ [])
    → m1 ≡ (m.0, (f, None) ∷ rest m.1) → m2 ≡ (m1.0, (f, new) ∷ rest m1.1) → m2 ≡ (v, (f, new) ∷ [])
exchanged_twice is one two = rw (two, one, is) refl

-- what lies in the slot in hand
pub slot_in_hand : {m : Seat} {v : View} {f : ℕ} {h : Option Held} → m ≡ (v, (f, h) ∷ [])
    → (old : Option Held) × (m.1 ≡ (f, old) ∷ rest m.1)
slot_in_hand {h = h} is = (h, rw is refl)

abbrev slot_of : List (ℕ × Option Held) → Option Held
slot_of [] = None
slot_of (x ∷ xs) = x.1

-- what was found in the slot is what lay there
pub found_in_slot : {m : Seat} {v : View} {f : ℕ} {h found : Option Held} → m ≡ (v, (f, h) ∷ [])
    → m.1 ≡ (f, found) ∷ rest m.1 → found ≡ h
found_in_slot is there = ap slot_of (sym there ∙ ap (λ x. x.1) is)

-- the pass after its touch has drawn the ticket
pub drawn : {m m' : Seat} {w : Walker} {f ticket : ℕ} {hd : Held} → m ≡ (Passing w, (f, Some hd) ∷ [])
    → m' ≡ (Passing (having_made ticket f hd.touch hd.word hd.page (walker_of m.0)), m.1)
    → m' ≡ (Passing (having_made ticket f hd.touch hd.word hd.page w), (f, Some hd) ∷ [])
drawn is told = rw (told, is) refl

-- the keeper's seat after the door has admitted the next binding
pub bound_now : {m m' : Seat} {k : Holder} {f : ℕ} {hd : Held} → m ≡ (Keeping k, (f, Some hd) ∷ []) → m'
    ≡ (Keeping (bound_anew f hd.page (holder_of m.0)), m.1) → m' ≡ (Keeping (bound_anew f hd.page k), (f, Some hd) ∷ [])
bound_now is told = rw (told, is) refl

-- and after the turn was given back
pub rebound_now : {m m' : Seat} (k : Holder) {f : ℕ} (page left : List ℕ) {hd : Held}
    → m ≡ (Keeping (bound_anew f page (with_hand (Has f left) k)), (f, Some hd) ∷ [])
    → m' ≡ (Keeping (with_hand Free (holder_of m.0)), []) → k.hand ≡ Free → m' ≡ (Keeping (rebound f page left k), [])
rebound_now k {f = f} page left is told free = rw (told, is)
    (λ i. (Keeping (with_hand (sym free i) (rebound f page left k)), []))

-- ---- the start

-- one more slot with a page of zeros
pub zero_pages_push : (slots : List (Option Held)) (h : Held) → HaveZeroPages slots → h.page ≡ replicate 1024 0
    → HaveZeroPages (slots ++ Some h ∷ [])
zero_pages_push slots h zeros page f inside = dite (ℕ_discrete f (length slots)) (λ (same : f ≡ length slots).
    (h, rw same (at_last slots (Some h) (length slots) refl), page)) (λ (other : f ≢ length slots).
    let old = zeros f (omega (arith, length_push slots (Some h))) in
    (old.0, at_longer slots (Some h ∷ []) f (Some old.0) old.1, old.2))

-- every new pass came with its pages
all_first : (pages : PagesModel) (n : ℕ) → n ≤ pages.cpus → All (IsPassOf pages) (first_passes pages n)
all_first pages zero few = All-nil (IsPassOf pages)
all_first pages (suc n) few = All-append (IsPassOf pages)
    (first_passes pages n) _ (all_first pages n (omega arith)) (All-cons (IsPassOf pages) _ [] record {
      table = refl;
      frames = length-replicate pages.frames None;
      cpu = omega arith;
      cpus = refl;
    } (All-nil (IsPassOf pages)))

pub first_count : (pages : PagesModel) (n : ℕ) → length (first_passes pages n) ≡ n
first_count pages zero = refl
first_count pages (suc n) = rw (length_push, first_count pages n) (omega arith)

-- and they are the passes of all processors, in order
first_place : (pages : PagesModel) (n cpu : ℕ) (d : PassModel) → cpu < n
    → (get_or (first_passes pages n) cpu d).walker.walk.cpu ≡ cpu
first_place pages zero cpu d inside = absurd (omega arith)
first_place pages (suc n) cpu d inside =
    let l = first_count pages n in
    dite (ℕ_discrete cpu n)
    (λ (here : cpu ≡ n). rw (get_or_push (first_passes pages n) _ d cpu (omega arith)) (sym here)) (λ (other : cpu ≢ n).
    rw (get_or_append_left (first_passes pages n) _ d cpu (omega arith)) (first_place pages n cpu d (omega arith)))

-- what is there at the start, once every pass is made
pub opened : {pages : PagesModel} {keeper : KeeperModel} {passes : List PassModel} {frames cpus : ℕ}
    → pages.frames ≡ frames → pages.cpus ≡ cpus → keeper ≡ record {
      table = pages.table;
      holder = watching (λ w. record w { made = pages.cpus }) (first_holder frames cpus);
      cleared = 0;
    } → passes ≡ first_passes pages pages.cpus → AreNew frames cpus pages keeper passes
opened {pages} {frames = frames} {cpus = cpus} f c is row = rw (is, row) record {
  size = (f, c);
  keeper_of = record {
    table = refl;
    frames = length-replicate frames 1 ∙ sym f;
    since = length-replicate frames 0 ∙ sym f;
    cpus = length-replicate cpus 0 ∙ sym c;
    parts = length-replicate cpus Out ∙ sym c;
  };
  holder = (cc, refl);
  first = cc;
  passes_of = all_first pages pages.cpus (omega arith);
  all = λ cpu inside. (
    cpu,
    (omega (arith, first_count pages pages.cpus)),
    λ d. first_place pages pages.cpus cpu d inside,
  );
}
