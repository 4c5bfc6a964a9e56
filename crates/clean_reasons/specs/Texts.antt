-- The texts of reasons (own).
use Rattle.std.specs.Prelude.{ℕ, ◌==◌, if◌then◌else◌, List, ◌++◌, codes}
use Rattle.std.specs.Fmt.{decimal}
use Rattle.assoc_mem.specs.declared.What.{What}
use Rattle.assoc_mem.specs.declared.What.TheVariants as what
use Rattle.book.specs.Replies.{reply_text}
use Rattle.clean_reasons.specs.declared.reasons.DescriptorAt.{DescriptorAt}
use Rattle.clean_reasons.specs.declared.reasons.PageOf.{PageOf}
use Rattle.clean_reasons.specs.declared.reasons.CommandAt.{CommandAt}
use Rattle.clean_reasons.specs.declared.texts.Spot.{Spot}
use Rattle.clean_reasons.specs.declared.texts.Spot.TheVariants as spot
use Rattle.clean_reasons.specs.declared.reasons.Held.{Held}
use Rattle.clean_reasons.specs.declared.reasons.Held.TheVariants as held
use Rattle.clean_reasons.specs.declared.reasons.Taker.{Taker}
use Rattle.clean_reasons.specs.declared.reasons.Taker.TheVariants as taker
use Rattle.clean_reasons.specs.declared.reasons.Loss.{Loss}
use Rattle.clean_reasons.specs.declared.reasons.Loss.TheVariants as loss
use Rattle.clean_reasons.specs.declared.reasons.Absent.{Absent}
use Rattle.clean_reasons.specs.declared.reasons.Absent.TheVariants as absent
use Rattle.clean_reasons.specs.declared.reasons.SeatReason.{SeatReason}
use Rattle.clean_reasons.specs.declared.reasons.SeatReason.TheVariants as seat
use Rattle.clean_reasons.specs.declared.reasons.ReadyReason.{ReadyReason}
use Rattle.clean_reasons.specs.declared.reasons.ReadyReason.TheVariants as ready
use Rattle.clean_reasons.specs.declared.reasons.ActiveReason.{ActiveReason}
use Rattle.clean_reasons.specs.declared.reasons.ActiveReason.TheVariants as active
use Rattle.clean_reasons.specs.declared.reasons.FrameReason.{FrameReason}
use Rattle.clean_reasons.specs.declared.reasons.FrameReason.TheVariants as frame
use Rattle.clean_reasons.specs.declared.reasons.DescriptorReason.{DescriptorReason}
use Rattle.clean_reasons.specs.declared.reasons.DescriptorReason.TheVariants as descriptor
use Rattle.clean_reasons.specs.declared.reasons.CommandReason.{CommandReason}
use Rattle.clean_reasons.specs.declared.reasons.CommandReason.TheVariants as command
use Rattle.clean_reasons.specs.declared.reasons.EffectReason.{EffectReason}
use Rattle.clean_reasons.specs.declared.reasons.EffectReason.TheVariants as effect
use Rattle.clean_reasons.specs.declared.reasons.CommandWord.{CommandWord}
use Rattle.clean_reasons.specs.declared.reasons.CommandWord.TheVariants as word
use Rattle.clean_reasons.specs.declared.reasons.Reason.{Reason}
use Rattle.clean_reasons.specs.declared.reasons.Reason.TheVariants as reason

-- what a signal names
unfoldable pub what_text : What → List ℕ
what_text what.All = codes "all"
what_text (what.Page f) = codes "page " ++ decimal f
what_text (what.Seg u) = codes "seg " ++ decimal u

-- a descriptor
abbrev pub descriptor_at_text : DescriptorAt → List ℕ
descriptor_at_text d = codes "descriptor " ++ (decimal d.number ++ (codes " of process " ++ decimal d.process))

-- a page of a segment
abbrev pub page_of_text : PageOf → List ℕ
page_of_text p = codes "page " ++ (decimal p.page ++ (codes " of uid " ++ decimal p.uid))

-- a command of a process
abbrev pub command_at_text : CommandAt → List ℕ
command_at_text c = codes "command " ++ (decimal c.place ++ (codes " of process " ++ decimal c.process))

-- where a page is
unfoldable pub spot_text : Spot → List ℕ
spot_text (spot.In f) = codes "in frame " ++ decimal f
spot_text (spot.ReadInto f) = codes "being read into frame " ++ decimal f

-- what a processor holds
unfoldable pub held_text : Held → List ℕ
held_text (held.Descriptor d) = descriptor_at_text d
held_text (held.Frame f) = codes "frame " ++ decimal f

-- how many pages the page tables of a pool have room for
abbrev pub pool_pages : ℕ → ℕ
pool_pages z = if z == 0 then 4 else if z == 1 then 16 else if z == 2 then 64 else 256

unfoldable pub word_text : CommandWord → List ℕ
word_text word.MkDir = codes "mkdir"
word_text word.MkSeg = codes "mkseg"
word_text word.Initiate = codes "initiate"
word_text word.Terminate = codes "terminate"
word_text word.Read = codes "read"
word_text word.Write = codes "write"
word_text word.Add = codes "add"
word_text word.Await = codes "await"
word_text word.Acl = codes "acl"
word_text word.Length = codes "length"
word_text word.Truncate = codes "truncate"
word_text word.Delete = codes "delete"
word_text word.Move = codes "move"
word_text word.Status = codes "status"
word_text word.End = codes "end"

unfoldable pub absent_text : Absent → List ℕ
absent_text (absent.Processor d) = codes "the script has no processor " ++ decimal d
absent_text (absent.Frame f) = codes "the script has no frame " ++ decimal f
absent_text (absent.Process k) = codes "the script has no process " ++ decimal k

unfoldable pub seat_text : SeatReason → List ℕ
seat_text (seat.Online d) = codes "processor " ++ (decimal d ++ codes " is online")
seat_text (seat.Offline d) = codes "processor " ++ (decimal d ++ codes " isn't online")
seat_text (seat.Busy d k) = codes "processor " ++ (decimal d ++ (codes " has process " ++ decimal k))
seat_text (seat.Idle d) = codes "processor " ++ (decimal d ++ codes " has no process")
seat_text (seat.OtherProcess d x k) =
    codes "processor " ++ (decimal d ++ (codes " has process " ++ (decimal x ++ (codes ", not process " ++ decimal k))))
seat_text (seat.Due w d) = codes "a clear of " ++ (what_text w ++ (codes " is due at processor " ++ decimal d))
seat_text (seat.NoneDue d) = codes "no clear is due at processor " ++ decimal d
seat_text (seat.OtherDue d x w) =
    codes "the clear that is due at processor " ++ (decimal d ++ (codes " is of " ++ (what_text x
    ++ (codes ", not of " ++ what_text w))))
seat_text (seat.HoldsAlready d h) =
    codes "processor " ++ (decimal d ++ (codes " holds " ++ (held_text h ++ codes " already")))
seat_text (seat.Holds d h) = codes "processor " ++ (decimal d ++ (codes " holds " ++ held_text h))
seat_text (seat.Lacks d h) = codes "processor " ++ (decimal d ++ (codes " doesn't hold " ++ held_text h))
seat_text (seat.Early k c d) =
    codes "process " ++ (decimal k ++ (codes " has had " ++ (decimal c ++ (codes " of 16 command entries on processor "
    ++ (decimal d ++ codes ", and no await goes on")))))

unfoldable pub ready_text : ReadyReason → List ℕ
ready_text ready.Empty = codes "the ready list is empty"
ready_text (ready.Front x k) =
    codes "process " ++ (decimal x ++ (codes " is the front of the ready list, not process " ++ decimal k))
ready_text (ready.Last k) = codes "process " ++ (decimal k ++ codes " hasn't ended, and the ready list is empty")

unfoldable pub active_text : ActiveReason → List ℕ
active_text (active.NoNode u) = codes "uid " ++ (decimal u ++ codes " isn't in the tree")
active_text (active.Active u) = codes "uid " ++ (decimal u ++ codes " is active")
active_text (active.Superior v u) =
    codes "uid " ++ (decimal v ++ (codes ", the superior of uid " ++ (decimal u ++ codes ", isn't active")))
active_text (active.Pool z m) =
    codes "the pool of " ++ (decimal (pool_pages z) ++ (codes " has " ++ (decimal m ++ (codes " of " ++ (decimal m
    ++ codes " places taken")))))
active_text (active.Inactive u) = codes "uid " ++ (decimal u ++ codes " isn't active")
active_text (active.Inferior v u) =
    codes "uid " ++ (decimal v ++ (codes ", an inferior of uid " ++ (decimal u ++ codes ", is active")))

-- a segment has a page there
abbrev pub own_page_text : PageOf → Spot → List ℕ
own_page_text p at =
    codes "uid " ++ (decimal p.uid ++ (codes " has its page " ++ (decimal p.page ++ (codes " " ++ spot_text at))))

unfoldable pub frame_text : FrameReason → List ℕ
frame_text (frame.HasPage p f) = own_page_text p (spot.In f)
frame_text (frame.HasRead p f) = own_page_text p (spot.ReadInto f)
frame_text (frame.Bound f p) = codes "frame " ++ (decimal f ++ (codes " has " ++ page_of_text p))
frame_text (frame.Read f p) = codes "frame " ++ (decimal f ++ (codes " is being read into, for " ++ page_of_text p))
frame_text (frame.PageIn p f) = page_of_text p ++ (codes " is in frame " ++ decimal f)
frame_text (frame.PageRead p f) = page_of_text p ++ (codes " is being read into frame " ++ decimal f)
frame_text (frame.NotRead f) = codes "frame " ++ (decimal f ++ codes " isn't being read into")
frame_text (frame.NoPage f) = codes "frame " ++ (decimal f ++ codes " has no page")
frame_text (frame.Going f) = codes "frame " ++ (decimal f ++ codes " is going")
frame_text (frame.Stays f) = codes "frame " ++ (decimal f ++ codes " isn't going")
frame_text (frame.OtherPage f o p) =
    codes "frame " ++ (decimal f ++ (codes " has " ++ (page_of_text o ++ (codes ", not " ++ page_of_text p))))
frame_text (frame.Unnamed w f) =
    what_text w ++ (codes " doesn't name frame " ++ (decimal f ++ codes ", which is going"))

unfoldable pub descriptor_text : DescriptorReason → List ℕ
descriptor_text (descriptor.Leads d u) = descriptor_at_text d ++ (codes " leads to uid " ++ decimal u)
descriptor_text (descriptor.Unknown n k) =
    codes "number " ++ (decimal n ++ (codes " of process " ++ (decimal k ++ codes " isn't known")))
descriptor_text (descriptor.StandsFor n k v u) =
    codes "number " ++ (decimal n ++ (codes " of process " ++ (decimal k ++ (codes " stands for uid " ++ (decimal v
    ++ (codes ", not for uid " ++ decimal u))))))
descriptor_text (descriptor.Connected d) = descriptor_at_text d ++ codes " is connected"
descriptor_text (descriptor.Unconnected d) = descriptor_at_text d ++ codes " isn't connected"
descriptor_text (descriptor.Going d) = descriptor_at_text d ++ codes " is going"
descriptor_text (descriptor.Stays d) = descriptor_at_text d ++ codes " isn't going"
descriptor_text (descriptor.Unnamed w d) =
    what_text w ++ (codes " doesn't name " ++ (descriptor_at_text d ++ codes ", which is going"))
descriptor_text descriptor.NothingGoes = codes "nothing is going"

unfoldable pub command_text : CommandReason → List ℕ
command_text (command.NoneLeft k) = codes "process " ++ (decimal k ++ codes " has no command left")
command_text (command.Refused c r) =
    command_at_text c ++ (codes " is answered " ++ (reply_text r ++ codes ", and so has no frame"))
command_text (command.Stored c p) =
    command_at_text c ++ (codes " needs a frame, for " ++ (page_of_text p ++ codes " is stored"))
command_text (command.Tree c w) =
    command_at_text c ++ (codes " is " ++ (word_text w ++ codes ", and so has no frame"))

-- a page is taken away while it is there
unfoldable pub loss_text : Loss → PageOf → Spot → List ℕ
loss_text loss.Deleted p at = codes "delete takes effect while " ++ (page_of_text p ++ (codes " is " ++ spot_text at))
loss_text loss.Past p at = codes "truncate drops " ++ (page_of_text p ++ (codes " while it is " ++ spot_text at))
loss_text loss.Cut p at =
    codes "truncate leaves " ++ (page_of_text p ++ (codes " all zeros while it is " ++ spot_text at))

unfoldable pub taker_text : Taker → List ℕ
taker_text taker.Acl = codes "acl"
taker_text taker.Terminate = codes "terminate"
taker_text taker.End = codes "end"
taker_text taker.Delete = codes "delete"

unfoldable pub effect_text : EffectReason → List ℕ
effect_text (effect.Connected t d) =
    taker_text t ++ (codes " takes effect while " ++ (descriptor_at_text d ++ codes " is connected"))
effect_text (effect.DeleteActive u) = codes "delete takes effect while uid " ++ (decimal u ++ codes " is active")
effect_text (effect.LengthActive u) = codes "length takes effect while uid " ++ (decimal u ++ codes " is active")
effect_text (effect.InFrame l p f) = loss_text l p (spot.In f)
effect_text (effect.BeingRead l p f) = loss_text l p (spot.ReadInto f)

unfoldable pub reason_text : Reason → List ℕ
reason_text (reason.Absent r) = absent_text r
reason_text (reason.Seat r) = seat_text r
reason_text (reason.Ready r) = ready_text r
reason_text (reason.Active r) = active_text r
reason_text (reason.Frame r) = frame_text r
reason_text (reason.Descriptor r) = descriptor_text r
reason_text (reason.Command r) = command_text r
reason_text (reason.Effect r) = effect_text r
