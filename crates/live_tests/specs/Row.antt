-- The touches of the first binding of frame 0 in the test of one frame and two processors.
use Rattle.std.specs.Prelude.{◌≡◌, ℕ, List, slice_index_or, None, Some}
use Rattle.live_pages.specs.declared.touch.Touch.{Touch}
use Rattle.live_pages.specs.declared.touch.Touch.TheVariants.{Get, Put, Add}
use Rattle.live_pages.specs.declared.touch.Touched.{Touched}
use Rattle.live_pages.specs.declared.touch.Made.{Made}
use Rattle.live_pages.specs.Models.{PagesModel, PassModel, IsPassOf}

-- a touch of that binding, by this processor, which was answered so
abbrev pub made_so : ℕ → Touch → Touched → Made
made_so cpu t answer = record {
  ticket = answer.ticket;
  cpu = cpu;
  frame = 0;
  binding = 1;
  touch = t;
  word =
      answer.word;
}

-- the pass of a processor holds an entry of the first binding of frame 0, and has made these touches
pub record IsEntered (pages : PagesModel) (pass : PassModel) (number : ℕ) (touches : List Made) : Type 0 where
  pub pass_of : IsPassOf pages pass
  pub cpu : pass.walker.walk.cpu ≡ number
  pub entry : slice_index_or pass.walker.walk.held 0 None ≡ Some 1
  pub made : pass.walker.made ≡ touches

-- the pass is of the same processor, and has made the same touches
pub record IsSame (pages : PagesModel) (old new : PassModel) : Type 0 where
  pub pass_of : IsPassOf pages new
  pub cpu : new.walker.walk.cpu ≡ old.walker.walk.cpu
  pub made : new.walker.made ≡ old.walker.made

-- processor 0 adds 5 at place 3
abbrev pub adds : Made
adds = made_so 0 (Add 3 5) record { ticket = 0; word = 5 }

-- processor 1 reads there
abbrev pub reads : Made
reads = made_so 1 (Get 3) record { ticket = 1; word = 5 }

-- processor 0 puts 7 there
abbrev pub puts : Made
puts = made_so 0 (Put 3 7) record { ticket = 2; word = 7 }
