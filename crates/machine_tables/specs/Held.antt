-- What a processor takes in of a descriptor, by the active segments.
use Rattle.std.specs.Prelude.{◌≡◌, ◌<◌, ℕ, length, List, Option, Some, None, IfSome}
use Rattle.mnames.specs.declared.modes.Mode.TheVariants as mode
use Rattle.script.specs.Forms.{IsPlan}
use Rattle.assoc_mem.specs.Held.{Held, seg_of}
use Rattle.assoc_mem.specs.declared.HeldSeg.{HeldSeg}
use Rattle.active_segs.specs.declared.Entry.{Entry}
use Rattle.active_segs.specs.Active.{ActiveSegs, IsActive, uid_at}
use Rattle.descriptor_seg.specs.declared.Sdw.{Sdw}
use Rattle.descriptor_seg.specs.declared.Sdw.TheVariants as sdw
use Rattle.processor.specs.Moves.{IsLongEnough}
use Rattle.seg_mover.specs.declared.Mover.{Mover}
use Rattle.machine_model.specs.Keeps.{Keeps}
use Rattle.machine_model.specs.Movers.{mover_of}
use Rattle.machine_model.specs.Reads.{cpu_at, or_zero}
use Rattle.machine_model.specs.State.{State}

abbrev pub held_by : List (Option Entry) → ℕ → Sdw → HeldSeg
held_by entries n sdw.Fault = record { number = n; uid = 0; mode = mode.Null; pages = 0 }
held_by entries n (sdw.Present aste m pages) =
    record { number = n; uid = or_zero (uid_at entries aste); mode = m; pages = pages }

-- each segment whose descriptor is held is active, with a page table as long as the descriptor says
abbrev pub AreLong : ActiveSegs → Held → Type 0
AreLong ast held = (number : ℕ) → IfSome (seg_of held number) (IsLongEnough ast)

-- What a look of the owner asks: the machine keeps its promise, the pools of the active segment table are those of its
-- script, and no segment is moving.
pub record MayLook (s : State) : Type 0 where
  pub keeps : Keeps s
  pub script : IsPlan s.plan
  pub pools : s.store.ast.sizes ≡ s.plan.pools
  pub still : s.store.moving ≡ None

-- What the choice for a processor asks: it is one of the script's, its process is one of the store's, the segments
-- whose descriptors it holds are active, and its owner may look, unless it moves a segment, which is active then.
pub record MayChoose (s : State) (c : ℕ) : Type 0 where
  pub processor : c < length s.processors
  pub count : length s.processors ≡ s.plan.processors
  pub run : (k : ℕ) → (cpu_at s.processors c).process ≡ Some k → k < length s.runs
  pub known : (k : ℕ) → (cpu_at s.processors c).process ≡ Some k → k < length s.store.links.known
  pub held : AreLong s.store.ast (cpu_at s.processors c).assoc
  pub keeps : Keeps s
  pub script : IsPlan s.plan
  pub pools : s.store.ast.sizes ≡ s.plan.pools
  pub moving : s.store.moving ≡ mover_of s.owner
  pub moves : (m : Mover) → s.store.moving ≡ Some m → IsActive s.store.ast.entries m.uid
