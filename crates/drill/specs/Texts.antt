-- What the drill prints (own).
use Rattle.std.specs.Prelude.{ℕ, ◌+◌, List, [], ◌∷◌, ◌++◌, codes, sum}
use Rattle.std.specs.Fmt.{decimal}
use Rattle.mword.specs.Octal.{octal_digits}
use Rattle.drill.specs.Work.{sums_of}

-- `cpu C adds N sum S`, with the sum as twelve octal digits
unfoldable pub sum_line : ℕ → ℕ → ℕ → List ℕ
sum_line cpu adds s = codes "cpu " ++ (decimal cpu ++ (codes " adds "
    ++ (decimal adds ++ (codes " sum " ++ (octal_digits 12 s ++ codes "\n")))))

-- a line for each sum, from processor `cpu` on
abbrev pub sum_lines : ℕ → ℕ → List ℕ → List ℕ
sum_lines adds cpu [] = []
sum_lines adds cpu (s ∷ ss) = sum_line cpu adds s ++ sum_lines adds (cpu + 1) ss

-- `total W`, as twelve octal digits
unfoldable pub total_line : ℕ → List ℕ
total_line total = codes "total " ++ (octal_digits 12 total ++ codes "\n")

-- a line for each processor's sum, and one for the total
unfoldable pub report : ℕ → List ℕ → ℕ → List ℕ
report adds sums total = sum_lines adds 0 sums ++ total_line total

-- the text of a drill of so many processors, frames and adds, with this seed
abbrev pub drill_text : ℕ → ℕ → ℕ → ℕ → List ℕ
drill_text cpus frames adds seed = report adds (sums_of frames adds seed cpus) (sum (sums_of frames adds seed cpus))
