-- The text of why a line of a summary isn't the one that is due (own).
use Rattle.std.specs.Prelude.{ℕ, List, [], ◌++◌, Option, Some, None, codes, slice_get}
use Rattle.std.specs.Fmt.{decimal}
use Rattle.script.specs.Plans.{Plan}
use Rattle.script.specs.declared.plan.VolumeLine.{VolumeLine}
use Rattle.line_reasons.specs.declared.sum_reasons.SumWord.{SumWord}
use Rattle.line_reasons.specs.declared.sum_reasons.SumWord.TheVariants as word
use Rattle.line_reasons.specs.declared.sum_reasons.SumReason.{SumReason}
use Rattle.line_reasons.specs.declared.sum_reasons.SumReason.TheVariants as reason

unfoldable pub sum_word_text : SumWord → List ℕ
sum_word_text word.Quota = codes "quota"
sum_word_text word.Used = codes "used"
sum_word_text word.Records = codes "records"
sum_word_text word.Taken = codes "taken"
sum_word_text word.Entries = codes "entries"

abbrev pub name_or_none : Option VolumeLine → List ℕ
name_or_none None = codes ""
name_or_none (Some v) = v.name

-- the name of the volume of a number
abbrev pub name_of : List VolumeLine → ℕ → List ℕ
name_of volumes v = name_or_none (slice_get volumes v)

-- a field should read as a number, which is that of the account or the volume that is named last
abbrev pub number_text : ℕ → ℕ → List ℕ → ℕ → List ℕ
number_text field n name of = codes "field " ++ (decimal field ++ (codes " should read " ++ (decimal n
    ++ (codes ", the " ++ (name ++ (codes " " ++ decimal of))))))

-- what speaks of an account, or of no line
unfoldable pub account_reason_text : SumReason → List ℕ
account_reason_text (reason.AccountMissing u q n) = codes "the input ends before the line of uid "
    ++ (decimal u ++ (codes ", quota " ++ (decimal q ++ (codes " used " ++ decimal n))))
account_reason_text reason.TooMany = codes "the summary has all its lines before this one"
account_reason_text (reason.Path u) = codes "field 1 should read as the path of uid "
    ++ (decimal u ++ codes ", whose line comes here")
account_reason_text (reason.AccountWord n w u) = codes "field "
    ++ (decimal n ++ (codes " should read " ++ (sum_word_text w ++ (codes " in the line of uid " ++ decimal u))))
account_reason_text (reason.Quota u q) = number_text 3 q (codes "quota of uid") u
account_reason_text (reason.Used u n) = number_text 5 n (codes "used count of uid") u
account_reason_text (reason.AccountFields u) = codes "the line of uid " ++ (decimal u ++ codes " should have 5 fields")
account_reason_text _ = []

unfoldable pub sum_reason_text : Plan → SumReason → List ℕ
sum_reason_text p (reason.VolumeMissing v t g) = codes "the input ends before the line of volume "
    ++ (decimal v ++ (codes ", taken " ++ (decimal t ++ (codes " and taken " ++ decimal g))))
sum_reason_text p (reason.VolumeFirst v) = codes "field 1 should read volume, for the line of volume "
    ++ (decimal v ++ codes " comes here")
sum_reason_text p (reason.VolumeName v) = codes "field 2 should read "
    ++ (name_of p.volumes v ++ (codes ", the name of volume " ++ decimal v))
sum_reason_text p (reason.VolumeWord n w v) = codes "field "
    ++ (decimal n ++ (codes " should read " ++ (sum_word_text w ++ (codes " in the line of volume " ++ decimal v))))
sum_reason_text p (reason.Records v n) = number_text 4 n (codes "records of volume") v
sum_reason_text p (reason.Taken v n) = number_text 6 n (codes "taken records of volume") v
sum_reason_text p (reason.Entries v n) = number_text 8 n (codes "VTOC entries of volume") v
sum_reason_text p (reason.TakenEntries v n) = number_text 10 n (codes "taken VTOC entries of volume") v
sum_reason_text p (reason.VolumeFields v) = codes "the line of volume " ++ (decimal v ++ codes " should have 10 fields")
sum_reason_text p r = account_reason_text r
