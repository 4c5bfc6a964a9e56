-- What each script keeps: its numbers are in their ranges, and each volume that it names is one of its own (own).
use Rattle.std.specs.Prelude.{◌≡◌, ℕ, ◌+◌, ◌≤◌, Bool, true, false, not, ◌&&◌, ◌==◌, nat_le, nat_lt, List, [], ◌∷◌, length, sum_by, Option, Some, None, codes}
use Rattle.std.specs.List.{list_all, list_any}
use Rattle.std.specs.Str.{bytes_eq}
use Rattle.std.specs.Int.RustNames.{unsigned_abs}
use Rattle.mnames.specs.Names.{is_name, is_label}
use Rattle.mnames.specs.Principals.{default_project}
use Rattle.mnames.specs.declared.principals.Who.{Who}
use Rattle.mnames.specs.declared.rows.Row.{Row}
use Rattle.script.specs.Plans.{Plan, ProcessPlan}
use Rattle.script.specs.declared.plan.Bulk.{Bulk}
use Rattle.script.specs.declared.plan.Fail.{Fail}
use Rattle.script.specs.declared.plan.VolumeLine.{VolumeLine}
use Rattle.script.specs.declared.plan.TheConstants.{MOST_PROCESSORS}
use Rattle.script.specs.declared.commands.Command.{Command}
use Rattle.script.specs.declared.commands.Command.TheVariants as command

abbrev pub is_from : ℕ → ℕ → ℕ → Bool
is_from low high n = nat_le low n && nat_le n high

-- a pathname has at most nine names
unfoldable pub is_path : List (List ℕ) → Bool
is_path names = nat_le (length names) 9 && list_all is_name names

-- the place of a word: a segment number of a process, and an offset
abbrev pub is_place : ℕ → ℕ → Bool
is_place number offset = nat_le number 255 && nat_le offset 999999

-- a word of 36 bits
abbrev pub is_word : ℕ → Bool
is_word word = nat_lt word 68719476736

-- a part of a row is any, or a label
abbrev pub is_part : Option (List ℕ) → Bool
is_part None = true
is_part (Some part) = is_label part

abbrev pub is_row : Row → Bool
is_row row = is_part row.person && is_part row.project

-- a command's numbers are in their ranges, and its volume is one of so many
unfoldable pub is_command : ℕ → Command → Bool
is_command volumes (command.MkDir path volume) = is_path path && nat_lt volume volumes
is_command volumes (command.MkSeg path pages volume) = is_path path && (is_from 1 256 pages && nat_lt volume volumes)
is_command volumes (command.Initiate path) = is_path path
is_command volumes (command.Terminate number) = nat_le number 255
is_command volumes (command.Read number offset) = is_place number offset
is_command volumes (command.Write number offset word) = is_place number offset && is_word word
is_command volumes (command.Add number offset word) = is_place number offset && is_word word
is_command volumes (command.Await number offset word tries) = is_place number offset
    && (is_word word && is_from 1 100000 tries)
is_command volumes (command.Acl path row mode) = is_path path && is_row row
is_command volumes (command.Length path pages) = is_path path && is_from 1 256 pages
is_command volumes (command.Truncate path words) = is_path path && nat_le words 262144
is_command volumes (command.Delete path) = is_path path
is_command volumes (command.Move path amount) = is_path path && is_from 1 16384 (unsigned_abs amount)
is_command volumes (command.Status path) = is_path path
is_command volumes command.End = true

abbrev pub is_end : Command → Bool
is_end command.End = true
is_end _ = false

-- the end comes last, and nowhere else
unfoldable pub ends_once : List Command → Bool
ends_once [] = false
ends_once (c ∷ []) = is_end c
ends_once (c ∷ d ∷ cs) = not (is_end c) && ends_once (d ∷ cs)

abbrev pub is_who : Who → Bool
is_who who = is_label who.person && is_label who.project

unfoldable pub is_process : ℕ → ProcessPlan → Bool
is_process volumes x = is_who x.who && (list_all (is_command volumes) x.commands && ends_once x.commands)

-- so many commands a command counts as: an await as its tries
abbrev pub weight : Command → ℕ
weight (command.Await number offset word tries) = tries
weight _ = 1

unfoldable pub weight_of : ProcessPlan → ℕ
weight_of x = sum_by weight x.commands

-- the first process is for the initializer
abbrev pub BeginsWithInitializer : List ProcessPlan → Type 0
BeginsWithInitializer [] = ⊥
BeginsWithInitializer (x ∷ xs) = x.who ≡ record { person = codes "Initializer"; project = default_project }

abbrev pub ArePools : List ℕ → Type 0
ArePools (four ∷ sixteen ∷ sixty_four ∷ most ∷ []) = (12 ≤ four) × (1 ≤ sixteen) × (1 ≤ sixty_four) × (1 ≤ most)
    × (four + sixteen + sixty_four + most ≤ 1024)
ArePools _ = ⊥

unfoldable pub is_volume : VolumeLine → Bool
is_volume v = is_name v.name && (is_from 1 16384 v.records && is_from 1 4097 v.entries)

abbrev pub has_name : List ℕ → VolumeLine → Bool
has_name name v = bytes_eq v.name name

-- no element of a list is like one before it
unfoldable pub are_apart : {A : Type 0} → (A → A → Bool) → List A → Bool
are_apart alike [] = true
are_apart alike (x ∷ xs) = not (list_any (alike x) xs) && are_apart alike xs

-- no name is that of two volumes
abbrev pub have_own_names : List VolumeLine → Bool
have_own_names vs = are_apart (λ u v. has_name u.name v) vs

unfoldable pub is_bulk : ℕ → Bulk → Bool
is_bulk volumes b = nat_lt b.volume volumes && is_from 1 1024 b.places

abbrev pub is_before : ℕ → Bulk → Bool
is_before volume b = b.volume == volume

-- no volume has two fast stores
abbrev pub have_own_volumes : List Bulk → Bool
have_own_volumes bs = are_apart (λ a b. is_before a.volume b) bs

unfoldable pub is_fail : ℕ → Fail → Bool
is_fail volumes f = nat_lt f.volume volumes && is_from 1 1000000 f.number

abbrev pub records_of : VolumeLine → ℕ
records_of v = v.records

pub record IsPlan (p : Plan) : Type 0 where
  pub processors : (1 ≤ p.processors) × (p.processors ≤ MOST_PROCESSORS)
  pub frames : (4 ≤ p.frames) × (p.frames ≤ 1024)
  pub pools : ArePools p.pools
  pub quota : p.quota ≤ 16384
  pub some : 1 ≤ length p.volumes
  pub few : length p.volumes ≤ 4
  pub volumes : list_all is_volume p.volumes ≡ true
  pub names : have_own_names p.volumes ≡ true
  pub records : sum_by records_of p.volumes ≤ 16384
  pub bulks : list_all (is_bulk (length p.volumes)) p.bulks ≡ true
  pub apart : have_own_volumes p.bulks ≡ true
  pub fails : list_all (is_fail (length p.volumes)) p.fails ≡ true
  pub most : length p.fails ≤ 100
  pub processes : length p.processes ≤ 32
  pub each : list_all (is_process (length p.volumes)) p.processes ≡ true
  pub first : p.initializer ≡ true → BeginsWithInitializer p.processes
  pub commands : sum_by weight_of p.processes ≤ 100000
