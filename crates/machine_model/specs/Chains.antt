-- What lists of entries change in what custody sees of a machine: pages that are taken one after the other, descriptors
-- that are cut, and what comes back or is gone.
use Rattle.std.specs.Prelude.{ℕ, List, [], ◌∷◌, Option, Some, None}
use Rattle.assoc_mem.specs.declared.What.{What}
use Rattle.page_table.specs.declared.Ptw.TheVariants as ptw
use Rattle.machine_model.specs.declared.Aim.{Aim}
use Rattle.machine_model.specs.Changes.{taken, cut, gone, gone_seg}
use Rattle.machine_model.specs.declared.CutDescriptor.{CutDescriptor}
use Rattle.machine_model.specs.Jobs.{without_first_cut, without_first_frame}
use Rattle.machine_model.specs.State.{Owner}
use Rattle.machine_model.specs.Seen.{Seen}

-- the page that is in a frame; page 0 of segment 0 where none is
abbrev pub page_or_zero : Option (ℕ × ℕ) → ℕ × ℕ
page_or_zero None = (0, 0)
page_or_zero (Some page) = page

abbrev pub page_at : Seen → ℕ → ℕ × ℕ
page_at v f = page_or_zero (v.bound f)

-- the pages in some frames are taken
abbrev pub takes : Seen → ℕ → Aim → What → List ℕ → Seen
takes v c aim w [] = v
takes v c aim w (f ∷ fs) = takes (taken v c aim w f (page_at v f).0 (page_at v f).1) c aim w fs

-- some descriptors are cut
abbrev pub cuts : Seen → ℕ → Aim → What → List CutDescriptor → Seen
cuts v c aim w [] = v
cuts v c aim w (d ∷ ds) = cuts (cut v c aim w d) c aim w ds

abbrev pub each_seg : (Seen → CutDescriptor → Option Owner → Seen) → Seen → List CutDescriptor → Seen
each_seg step v [] = v
each_seg step v (d ∷ ds) = each_seg step (step v d (without_first_cut v.owner)) ds

abbrev pub gone_segs : Seen → List CutDescriptor → Seen
gone_segs v ds = each_seg gone_seg v ds

-- the pages in some frames have left them, and are stored no more
abbrev pub gones : Seen → List ℕ → Seen
gones v [] = v
gones v (f ∷ fs) = gones (gone v f (page_at v f).0 (page_at v f).1 ptw.Null (without_first_frame v.owner)) fs
