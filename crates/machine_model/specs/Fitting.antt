-- What the owner's job has taken isn't what its command wants (own).
use Rattle.std.specs.Prelude.{◌≡◌, Some}
use Rattle.machine_model.specs.Outline.{want_at}
use Rattle.machine_model.specs.Outlined.{outline_of, stage_of}
use Rattle.machine_model.specs.OutlineKept.{FitsStage}
use Rattle.machine_model.specs.State.{Owner, State}

-- An eviction spares the page that its command wants, and a deactivation the segments of the wanted chain. While the
-- owner looks no processor is to drop anything.
pub record IsFitting (s : State) : Type 0 where
  pub fits : (o : Owner) → s.owner ≡ Some o
      → FitsStage (outline_of s) (want_at (outline_of s) o.cpu) (stage_of s.store.ast.entries o.frames o.phase)
