-- What the program writes besides its outputs (own).
use Rattle.std.specs.Prelude.{ℕ, List, codes}

abbrev pub usage_text : List ℕ
usage_text = codes "usage: lab steps | trace | outcomes N SEED | why\n"
