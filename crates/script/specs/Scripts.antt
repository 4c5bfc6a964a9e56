-- The canonical text of a script: a line for each of its parts, in the order in which they are read (own).
use Rattle.std.specs.Prelude.{ℕ, Bool, true, false, List, [], ◌∷◌, ◌++◌, flat_map, codes}
use Rattle.std.specs.Fmt.{decimal}
use Rattle.mnames.specs.Principals.{who_text}
use Rattle.mnames.specs.declared.principals.Who.{Who}
use Rattle.script.specs.Plans.{Plan, ProcessPlan}
use Rattle.script.specs.Texts.{command_text, volume_name}
use Rattle.script.specs.declared.commands.Command.{Command}
use Rattle.script.specs.declared.plan.Bulk.{Bulk}
use Rattle.script.specs.declared.plan.Fail.{Fail}
use Rattle.script.specs.declared.plan.Print.{Print}
use Rattle.script.specs.declared.plan.Print.TheVariants as print
use Rattle.script.specs.declared.plan.VolumeLine.{VolumeLine}

-- numbers, each with a space before it
abbrev pub numbers_text : List ℕ → List ℕ
numbers_text [] = []
numbers_text (n ∷ ns) = codes " " ++ (decimal n ++ numbers_text ns)

unfoldable pub machine_text : ℕ → ℕ → List ℕ → List ℕ
machine_text processors frames pools = codes "machine" ++ numbers_text (processors ∷ frames ∷ pools)

unfoldable pub quota_text : ℕ → List ℕ
quota_text quota = codes "quota " ++ decimal quota

unfoldable pub volume_text : VolumeLine → List ℕ
volume_text v = codes "volume " ++ (v.name ++ (codes " " ++ (decimal v.records ++ (codes " " ++ decimal v.entries))))

unfoldable pub print_text : Print → List ℕ
print_text print.Short = codes "print short"
print_text print.Replies = codes "print replies"
print_text print.All = codes "print all"

unfoldable pub bulk_text : List VolumeLine → Bulk → List ℕ
bulk_text volumes b = codes "bulk " ++ (volume_name volumes b.volume ++ (codes " " ++ decimal b.places))

-- whether a call that fails is a write
abbrev pub call_text : Bool → List ℕ
call_text true = codes "write"
call_text false = codes "read"

-- whether all calls after it fail too
abbrev pub onward_text : Bool → List ℕ
onward_text true = codes "+"
onward_text false = []

unfoldable pub fail_text : List VolumeLine → Fail → List ℕ
fail_text volumes f = codes "fail " ++ (volume_name volumes f.volume
    ++ (codes " " ++ (call_text f.write ++ (codes " " ++ (decimal f.number ++ onward_text f.onward)))))

-- the first line of a process, which says for whom it runs; whether it is the initializer
unfoldable pub begin_text : Bool → Who → List ℕ
begin_text true who = codes "initializer"
begin_text false who = codes "process " ++ who_text who

-- a line, and the line feed after it
abbrev pub ended : List ℕ → List ℕ
ended line = line ++ codes "\n"

-- each command on a line of its own
unfoldable pub commands_text : List VolumeLine → List Command → List ℕ
commands_text volumes commands = flat_map (λ c. ended (command_text volumes c)) commands

unfoldable pub process_text : List VolumeLine → Bool → ProcessPlan → List ℕ
process_text volumes initializer x = ended (begin_text initializer x.who) ++ commands_text volumes x.commands

-- the processes, of which only the first can be the initializer
unfoldable pub processes_text : List VolumeLine → Bool → List ProcessPlan → List ℕ
processes_text volumes initializer [] = []
processes_text volumes initializer (x ∷ xs) = process_text volumes initializer x ++ processes_text volumes false xs

-- what stands before the processes
unfoldable pub head_text : Plan → List ℕ
head_text p = ended (machine_text p.processors p.frames p.pools)
    ++ (ended (quota_text p.quota) ++ (flat_map (λ v. ended (volume_text v)) p.volumes
    ++ (ended (print_text p.print) ++ (flat_map (λ b. ended (bulk_text p.volumes b)) p.bulks
    ++ flat_map (λ f. ended (fail_text p.volumes f)) p.fails))))

unfoldable pub script_text : Plan → List ℕ
script_text p = head_text p ++ processes_text p.volumes p.initializer p.processes
