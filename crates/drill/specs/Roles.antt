-- What each thread of the drill has done, and what the keeper has taken out (own).
use Rattle.std.specs.Prelude.{◌≡◌, ℕ, zero, suc, ◌+◌, ◌-◌, ◌%◌, ◌^◌, ◌<◌, ◌≤◌, List, [], ◌∷◌, map, length, replicate, slice_index, slice_index_or, IsSomeAnd, Bool, false, IsTrue, All, sum}
use Rattle.live_doors.specs.declared.views.Watch.{Watch}
use Rattle.live_pages.specs.declared.touch.Touch.{Touch}
use Rattle.live_pages.specs.declared.touch.Touch.TheVariants.{Add}
use Rattle.live_pages.specs.declared.touch.Bound.{Bound}
use Rattle.live_pages.specs.Models.{PagesModel, PassModel, IsPassOf, IsKeeperOf}
use Rattle.live_pages.specs.Turns.{current}
use Rattle.live_pages.specs.declared.views.Holder.{Holder}
use Rattle.live_pages.specs.Ending.{IsOfOneThread, IsLeftAfterAll, all_bindings, in_order, made_by}
use Rattle.drill.specs.declared.worker.Worker.{Worker}
use Rattle.drill.specs.declared.kept.Kept.{Kept}
use Rattle.drill.specs.declared.roles.Role.{Role}
use Rattle.drill.specs.declared.roles.Role.TheVariants.{Works, Keeps}
use Rattle.drill.specs.Work.{add_at, word_at, deed, work_of, AreFirstOf, sums_of}

-- the first n adds of a processor, the last one first, as a pass keeps its touches
abbrev pub done : ℕ → ℕ → ℕ → List (ℕ × Touch)
done frames x zero = []
done frames x (suc n) = add_at frames x n ∷ done frames x n

-- the sum of the words of the first n adds
abbrev pub words_to : ℕ → ℕ
words_to zero = 0
words_to (suc n) = words_to n + word_at n

-- the sum of the first words of the pages that were handed out
abbrev pub words_left : List Bound → ℕ
words_left [] = 0
words_left (b ∷ bs) = words_left bs + slice_index b.left 0

-- each bind took a page of zeros
abbrev pub TookZeros : List Bound → Type 0
TookZeros [] = Unit {0}
TookZeros (b ∷ bs) = TookZeros bs × (b.next ≡ replicate 1024 0)

-- the pass has made the first n adds of its processor's work
pub record HasDone (pages : PagesModel) (seed n : ℕ) (p : PassModel) : Type 0 where
  pub pass : IsPassOf pages p
  pub made : map deed p.walker.made ≡ done pages.frames (seed + p.walker.walk.cpu) n

-- these passes, the first of which is that of processor `first`, have each made the first ones of their adds
abbrev pub AreDone : PagesModel → ℕ → ℕ → ℕ → List PassModel → Type 0
AreDone pages seed adds first [] = Unit {0}
AreDone pages seed adds first (p ∷ ps) = AreDone pages seed adds (first + 1) ps × (p.walker.walk.cpu ≡ first)
    × HasDone pages seed (length p.walker.made) p × (length p.walker.made ≤ adds)

-- the sum of the words of the adds that these passes have not made
abbrev pub missing : ℕ → List PassModel → ℕ
missing adds [] = 0
missing adds (p ∷ ps) = missing adds ps + (words_to adds - words_to (length p.walker.made))

-- how many touches these passes have made
abbrev pub made_count : List PassModel → ℕ
made_count [] = 0
made_count (p ∷ ps) = made_count ps + length p.walker.made

-- the pass of one processor has tried to add a word to the first one of a frame's page, and has made that touch or none
pub record HasTried (pages : PagesModel) (old new : PassModel) (f word : ℕ) (added : Bool) : Type 0 where
  pub pass : IsPassOf pages new
  pub cpu : new.walker.walk.cpu ≡ old.walker.walk.cpu
  pub made : IsTrue added → map deed new.walker.made ≡ (f, Add 0 word) ∷ map deed old.walker.made
  pub failed : added ≡ false → new.walker.made ≡ old.walker.made

-- a worker that has made no add
pub record IsFresh (pages : PagesModel) (w : Worker) : Type 0 where
  pub pass : IsPassOf pages w.pass
  pub cpu : w.pass.walker.walk.cpu ≡ w.cpu
  pub made : w.pass.walker.made ≡ []
  pub done : w.done ≡ 0

-- a worker that has made the first ones of its adds, and counted them
pub record IsDone (pages : PagesModel) (seed adds : ℕ) (w : Worker) : Type 0 where
  pub pass : IsPassOf pages w.pass
  pub cpu : w.pass.walker.walk.cpu ≡ w.cpu
  pub made : map deed w.pass.walker.made ≡ done pages.frames (seed + w.cpu) w.done
  pub few : w.done ≤ adds

-- The keeper has a page of zeros to hand in, has handed in nothing else, has the sum of what it took out, and has
-- counted its bindings. A frame was bound at most once for each stamp, and once before, as each of 64 frames was.
pub record IsKept (pages : PagesModel) (k : Kept) : Type 0 where
  pub keeper : IsKeeperOf pages k.keeper
  pub spare : IsSomeAnd k.spare (λ page. page ≡ replicate 1024 0)
  pub zeros : TookZeros k.keeper.holder.ended
  pub sum : k.sum ≡ words_left k.keeper.holder.ended % 2 ^ 36
  pub low : (f : ℕ) → current k.keeper.holder.watch f ≤ k.keeper.holder.watch.request + 1
  pub bindings : k.bindings ≡ length k.keeper.holder.ended
  pub few : k.bindings ≤ 64 + k.keeper.holder.watch.request

-- What the end of a drill tells, where `all` is the total, so many bindings and touches were counted, and these pages
-- are left: each processor's touches are the first ones of its work, in order, the total is the sum of all work, the
-- counts are right, and all is as one thread would have it.
pub record IsEnd (cpus frames adds seed all bound made : ℕ) (shown : Holder) (pages : List (List ℕ)) : Type 0 where
  pub front : (cpu : ℕ) → cpu < cpus → AreFirstOf (work_of frames (seed + cpu) adds) (made_by cpu shown)
  pub total : all ≡ sum (sums_of frames adds seed cpus)
  pub bindings : bound ≡ length shown.ended
  pub touches : made ≡ length (in_order shown)
  pub one_thread : IsOfOneThread cpus shown
  pub left : All (IsLeftAfterAll shown) (all_bindings pages shown)

-- no stamp was raised, and none of the first frames was ever bound
abbrev pub IsUnbound : ℕ → Watch → Type 0
IsUnbound frames w = (w.request ≡ 0) × ((f : ℕ) → f < frames → slice_index w.doors f ≡ 1)

-- At place i before the run: the worker of processor cpus - 1 - i, and after all workers the keeper.
abbrev pub RoleFresh : PagesModel → ℕ → ℕ → Role → Type 0
RoleFresh pages cpus place (Works w) = IsFresh pages w × (w.cpu + place + 1 ≡ cpus)
RoleFresh pages cpus place (Keeps k) = IsKept pages k × (k.keeper.holder.watch.request ≡ 0) × (place ≡ cpus)

-- the same after the run
abbrev pub RoleDone : PagesModel → ℕ → ℕ → ℕ → ℕ → Role → Type 0
RoleDone pages seed adds cpus place (Works w) = IsDone pages seed adds w × (w.cpu + place + 1 ≡ cpus)
RoleDone pages seed adds cpus place (Keeps k) = IsKept pages k × (place ≡ cpus)

-- this holds of the role at each place
abbrev pub EachRole : (ℕ → Role → Type 0) → List Role → Type 0
EachRole ok roles = (place : ℕ) (d : Role) → place < length roles → ok place (slice_index_or roles place d)

-- the sum of the first words of the first n pages
abbrev pub first_words : ℕ → List (List ℕ) → ℕ
first_words zero pages = 0
first_words (suc n) pages = first_words n pages + slice_index (slice_index_or pages n []) 0
