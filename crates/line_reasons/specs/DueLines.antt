-- The line that is due, and what is said of the one that stands there (own).
use Rattle.std.specs.Prelude.{◌≡◌, ℕ, Bool, true, false, ◌&&◌, ◌==◌, if◌then◌else◌, is_some, slice_get, Option, Some, None}
use Rattle.script.specs.Plans.{Plan}
use Rattle.tree_model.specs.Tree.{has_directory, quota_in, used_by, taken_on, entries_on}
use Rattle.flat_model.specs.Store.{Store, records_of, entries_of}
use Rattle.line_reasons.specs.declared.due_lines.AccountDue.{AccountDue}
use Rattle.line_reasons.specs.declared.due_lines.VolumeDue.{VolumeDue}
use Rattle.line_reasons.specs.declared.due_lines.DueLine.{DueLine}
use Rattle.line_reasons.specs.declared.due_lines.DueLine.TheVariants as due
use Rattle.line_reasons.specs.declared.sum_reasons.SumWord.TheVariants as word
use Rattle.line_reasons.specs.declared.sum_reasons.SumReason.{SumReason}
use Rattle.line_reasons.specs.declared.sum_reasons.SumReason.TheVariants as reason

-- ---- the line that is due

-- an account with its counts, as they are in a store
pub record IsAccountDue (s : Store) (a : AccountDue) : Type 0 where
  pub directory : has_directory s.nodes a.uid ≡ true
  pub quota : a.quota ≡ quota_in s.nodes a.uid
  pub used : a.used ≡ used_by s.nodes s.stored a.uid

-- a volume of a script with its counts
pub record IsVolumeDue (p : Plan) (s : Store) (v : VolumeDue) : Type 0 where
  pub volume : is_some (slice_get p.volumes v.volume) ≡ true
  pub records : v.records ≡ records_of p v.volume
  pub taken : v.taken ≡ taken_on s.nodes s.stored v.volume
  pub entries : v.entries ≡ entries_of p v.volume
  pub taken_entries : v.taken_entries ≡ entries_on s.nodes v.volume

unfoldable pub IsDue : Plan → Store → DueLine → Type 0
IsDue p s (due.Account a) = IsAccountDue s a
IsDue p s (due.Volume v) = IsVolumeDue p s v
IsDue p s due.Nothing = Unit {0}

-- ---- why another stands there

unfoldable pub account_reason : AccountDue → ℕ → SumReason
account_reason a n =
    if n == 1 then reason.Path a.uid
    else if n == 2 then reason.AccountWord 2 word.Quota a.uid
    else if n == 3 then reason.Quota a.uid a.quota
    else if n == 4 then reason.AccountWord 4 word.Used a.uid
    else if n == 5 then reason.Used a.uid a.used
    else reason.AccountFields a.uid

unfoldable pub volume_reason : VolumeDue → ℕ → SumReason
volume_reason v n =
    if n == 1 then reason.VolumeFirst v.volume
    else if n == 2 then reason.VolumeName v.volume
    else if n == 3 then reason.VolumeWord 3 word.Records v.volume
    else if n == 4 then reason.Records v.volume v.records
    else if n == 5 then reason.VolumeWord 5 word.Taken v.volume
    else if n == 6 then reason.Taken v.volume v.taken
    else if n == 7 then reason.VolumeWord 7 word.Entries v.volume
    else if n == 8 then reason.Entries v.volume v.entries
    else if n == 9 then reason.VolumeWord 9 word.Taken v.volume
    else if n == 10 then reason.TakenEntries v.volume v.taken_entries
    else reason.VolumeFields v.volume

unfoldable pub reason_of_line : DueLine → ℕ → SumReason
reason_of_line (due.Account a) n = account_reason a n
reason_of_line (due.Volume v) n = volume_reason v n
reason_of_line due.Nothing n = reason.TooMany

unfoldable pub reason_of_end : DueLine → Option SumReason
reason_of_end (due.Account a) = Some (reason.AccountMissing a.uid a.quota a.used)
reason_of_end (due.Volume v) = Some (reason.VolumeMissing v.volume v.taken v.taken_entries)
reason_of_end due.Nothing = None

-- ---- what a reason says of a store

unfoldable pub has_since : SumReason → Bool
has_since (reason.Quota u q) = true
has_since (reason.Used u n) = true
has_since (reason.Taken v n) = true
has_since (reason.TakenEntries v n) = true
has_since _ = false

-- a directory has this quota
abbrev pub account_still : Store → ℕ → ℕ → Bool
account_still s u q = has_directory s.nodes u && quota_in s.nodes u == q

-- it is so in this store
unfoldable pub is_still_so : Store → SumReason → Bool
is_still_so s (reason.Quota u q) = account_still s u q
is_still_so s (reason.Used u n) = used_by s.nodes s.stored u == n
is_still_so s (reason.Taken v n) = taken_on s.nodes s.stored v == n
is_still_so s (reason.TakenEntries v n) = entries_on s.nodes v == n
is_still_so s _ = false

abbrev pub IsVolume : Plan → ℕ → Type 0
IsVolume p v = is_some (slice_get p.volumes v) ≡ true

-- its account is a directory, its volume is one of the script, and its numbers are those of the script and the store
unfoldable pub IsSoSum : Plan → Store → SumReason → Type 0
IsSoSum p s (reason.AccountMissing u q n) = IsAccountDue s (record { uid = u; quota = q; used = n })
IsSoSum p s (reason.VolumeMissing v t g) =
    IsVolume p v × (t ≡ taken_on s.nodes s.stored v) × (g ≡ entries_on s.nodes v)
IsSoSum p s reason.TooMany = Unit {0}
IsSoSum p s (reason.Path u) = has_directory s.nodes u ≡ true
IsSoSum p s (reason.AccountWord n w u) = has_directory s.nodes u ≡ true
IsSoSum p s (reason.Quota u q) = is_still_so s (reason.Quota u q) ≡ true
IsSoSum p s (reason.Used u n) = is_still_so s (reason.Used u n) ≡ true
IsSoSum p s (reason.AccountFields u) = has_directory s.nodes u ≡ true
IsSoSum p s (reason.VolumeFirst v) = IsVolume p v
IsSoSum p s (reason.VolumeName v) = IsVolume p v
IsSoSum p s (reason.VolumeWord n w v) = IsVolume p v
IsSoSum p s (reason.Records v n) = IsVolume p v × (n ≡ records_of p v)
IsSoSum p s (reason.Taken v n) = is_still_so s (reason.Taken v n) ≡ true
IsSoSum p s (reason.Entries v n) = IsVolume p v × (n ≡ entries_of p v)
IsSoSum p s (reason.TakenEntries v n) = is_still_so s (reason.TakenEntries v n) ≡ true
IsSoSum p s (reason.VolumeFields v) = IsVolume p v
