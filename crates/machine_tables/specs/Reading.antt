-- Which pages of a segment are looked for, and into which frames processors read them.
use Rattle.std.specs.Prelude.{ℕ, zero, suc, Bool, ◌&&◌, ◌==◌, nat_le, if◌then◌else◌, List, Option, Some, None}
use Rattle.processor.specs.declared.Transfer.{Transfer}
use Rattle.machine_model.specs.declared.Processor.{Processor}
use Rattle.machine_model.specs.Actions.{any_page}
use Rattle.core_map.specs.CoreMap.{Core, reads_of}
use Rattle.seg_control.specs.Kept.{read_at}
use Rattle.machine_model.specs.Custodial.{AreUnderWay}
use Rattle.machine_model.specs.Reads.{processor_at}
use Rattle.machine_tables.specs.declared.reading.Pages.{Pages}
use Rattle.machine_tables.specs.declared.reading.Pages.TheVariants as pages

-- whether a page is one of those
abbrev pub test_of : Pages → ℕ → Bool
test_of pages.Any = any_page
test_of (pages.Only p) = λ q. q == p
test_of (pages.From low) = λ q. nat_le low q

-- the frame into which a transfer reads such a page of a segment
abbrev pub read_by : ℕ → (ℕ → Bool) → Option Transfer → Option ℕ
read_by uid test None = None
read_by uid test (Some t) = if t.uid == uid && test t.page then Some t.frame else None

-- the lesser of two numbers, where there are two
abbrev pub lesser : Option ℕ → Option ℕ → Option ℕ
lesser None other = other
lesser (Some a) None = Some a
lesser (Some a) (Some b) = Some (if nat_le a b then a else b)

-- the least frame into which one of the first n processors reads such a page
unfoldable pub least_from : ℕ → (ℕ → Bool) → List Processor → ℕ → Option ℕ
least_from uid test processors zero = None
least_from uid test processors (suc n) =
    lesser (least_from uid test processors n) (read_by uid test (processor_at processors n).cpu.transfer)

-- the frames that are being read into are those of the transfers that processors have under way
abbrev pub AreRead : Core → List Processor → Type 0
AreRead core processors = AreUnderWay (λ f. read_at (reads_of core) f) (λ d. processor_at processors d)
