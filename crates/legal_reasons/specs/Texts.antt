-- The text of a reason (own).
use Rattle.std.specs.Prelude.{ℕ, List, [], ◌++◌, codes}
use Rattle.std.specs.Fmt.{decimal}
use Rattle.book.specs.Replies.{reply_text}
use Rattle.legal_reasons.specs.declared.reasons.CommandAt.{CommandAt}
use Rattle.legal_reasons.specs.declared.reasons.Reason.{Reason}
use Rattle.legal_reasons.specs.declared.reasons.Reason.TheVariants as reason

-- a command of a process
abbrev pub command_at_text : CommandAt → List ℕ
command_at_text c = codes "command " ++ (decimal c.place ++ (codes " of process " ++ decimal c.process))

-- what speaks of a command's reply or of what it needs
unfoldable pub command_text : Reason → List ℕ
command_text (reason.DeviceReference at reply) =
    command_at_text at ++ (codes " is answered " ++ (reply_text reply ++ codes ", in whose place device can't stand"))
command_text (reason.DeviceRefused at reply) =
    command_at_text at ++ (codes " is refused with " ++ (reply_text reply
    ++ codes ", and device stands only for its done"))
command_text (reason.DeviceOther at reply) =
    command_at_text at ++ (codes " is answered " ++ (reply_text reply ++ codes ", never device"))
command_text (reason.Due at reply) = command_at_text at ++ (codes " is answered " ++ reply_text reply)
command_text (reason.DueOrDevice at reply) =
    command_at_text at ++ (codes " is answered " ++ (reply_text reply ++ codes ", or device"))
command_text (reason.MoveFirst uid volume at) =
    codes "uid " ++ (decimal uid ++ (codes " must move to volume " ++ (decimal volume ++ (codes " before "
    ++ (command_at_text at ++ codes " is answered")))))
command_text (reason.MoveDevice uid volume at) =
    codes "uid " ++ (decimal uid ++ (codes " must move to volume " ++ (decimal volume ++ (codes ", or "
    ++ (command_at_text at ++ codes " is answered device")))))
command_text (reason.MoveReply at reply) =
    command_at_text at ++ (codes " is answered " ++ (reply_text reply ++ codes ", and so moves nothing"))
command_text (reason.MoveZero at) = codes "the new word of " ++ (command_at_text at ++ codes " is 0")
command_text _ = []

-- what speaks of a segment, and of a command
unfoldable pub segment_text : Reason → List ℕ
segment_text (reason.Unstored uid page) =
    codes "page " ++ (decimal page ++ (codes " of uid " ++ (decimal uid ++ codes " isn't stored")))
segment_text (reason.WordAt uid page offset) =
    codes "page " ++ (decimal page ++ (codes " of uid " ++ (decimal uid ++ (codes " has a word other than 0 at "
    ++ decimal offset))))
segment_text (reason.Unknown process number) =
    codes "number " ++ (decimal number ++ (codes " of process " ++ (decimal process ++ codes " isn't known")))
segment_text (reason.StandsFor process number uid given) =
    codes "number " ++ (decimal number ++ (codes " of process " ++ (decimal process ++ (codes " stands for uid "
    ++ (decimal uid ++ (codes ", not for uid " ++ decimal given))))))
segment_text (reason.MoveStored uid page) =
    codes "page " ++ (decimal page ++ (codes " of uid " ++ (decimal uid ++ codes " is stored")))
segment_text (reason.MoveRecord uid volume) =
    codes "volume " ++ (decimal volume ++ (codes ", the home of uid " ++ (decimal uid
    ++ codes ", has a free record")))
segment_text (reason.MoveNone uid) = codes "no volume has room for uid " ++ decimal uid
segment_text (reason.MoveOther uid volume) =
    codes "volume " ++ (decimal volume ++ (codes " is the first with room for uid " ++ decimal uid))
segment_text (reason.Zeros uid page) =
    codes "page " ++ (decimal page ++ (codes " of uid " ++ (decimal uid
    ++ codes " is stored, and all its words are 0")))
segment_text r = command_text r

unfoldable pub reason_text : Reason → List ℕ
reason_text (reason.NoProcess process) = codes "the script has no process " ++ decimal process
reason_text (reason.Ended process) = codes "process " ++ (decimal process ++ codes " has ended")
reason_text (reason.Next process next given) =
    codes "command " ++ (decimal next ++ (codes " of process " ++ (decimal process
    ++ (codes " is next, not command " ++ decimal given))))
reason_text (reason.Kept process) =
    codes "process " ++ (decimal process ++ codes " is kept back by the initializer, which hasn't ended")
reason_text (reason.DeviceFault process) =
    codes "device needs a fault, and none of process " ++ (decimal process ++ codes " stands")
reason_text (reason.Unended process) = codes "process " ++ (decimal process ++ codes " hasn't ended")
reason_text (reason.MoveCommand at) = command_at_text at ++ codes ", which is next, is neither write nor add"
reason_text (reason.PartSummary at) = codes "the summary begins while " ++ (command_at_text at ++ codes " is next")
reason_text (reason.PartEnd at) = codes "the input ends while " ++ (command_at_text at ++ codes " is next")
reason_text r = segment_text r
