-- The parts of a machine's volumes.
use Rattle.std.specs.Prelude.{List, [], ◌∷◌}
use Rattle.script.specs.declared.plan.VolumeLine.{VolumeLine}
use Rattle.volumes.specs.declared.Part.{Part}

-- the drive of each volume, and how many entries its VTOC has
abbrev pub parts_of : {D : Type 0} → List VolumeLine → List D → List (Part D)
parts_of [] drives = []
parts_of (v ∷ vs) [] = []
parts_of (v ∷ vs) (d ∷ ds) = record { drive = d; entries = v.entries } ∷ parts_of vs ds
