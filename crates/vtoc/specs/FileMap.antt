use Rattle.std.specs.Prelude.{ℕ, List, Option, None, Some, replicate, ◌==◌, if◌then◌else◌, map}

-- the file map of an entry in which no page has a record: 256 places that name none (Organick 1972)
unfoldable pub no_records : List (Option ℕ)
no_records = replicate 256 None

-- what a place of a file map says by its code of 16 bits: a record, or none by the highest code (own)
abbrev pub record_of : ℕ → Option ℕ
record_of code = if code == 65535 then None else Some code

-- the file map that 256 codes stand for (own)
unfoldable pub records_of : List ℕ → List (Option ℕ)
records_of codes = map record_of codes
