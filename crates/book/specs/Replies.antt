-- The text of a reply (own).
use Rattle.std.specs.Prelude.{ℕ, List, [], ◌∷◌, ◌++◌, codes}
use Rattle.std.specs.Fmt.{decimal}
use Rattle.mword.specs.Octal.{octal_digits}
use Rattle.book.specs.declared.replies.Reply.{Reply}
use Rattle.book.specs.declared.replies.Reply.TheVariants as reply

-- a reply of one word; of any other nothing
unfoldable pub bare_text : Reply → List ℕ
bare_text reply.Unknown = codes "unknown"
bare_text reply.Gone = codes "gone"
bare_text reply.NoAccess = codes "noaccess"
bare_text reply.Length = codes "length"
bare_text reply.Quota = codes "quota"
bare_text reply.NoRecord = codes "norecord"
bare_text reply.Device = codes "device"
bare_text reply.Done = codes "done"
bare_text reply.NoPath = codes "nopath"
bare_text reply.NotDir = codes "notdir"
bare_text reply.IsDir = codes "isdir"
bare_text reply.IsSeg = codes "isseg"
bare_text reply.Exists = codes "exists"
bare_text reply.Deep = codes "deep"
bare_text reply.Room = codes "room"
bare_text reply.NoEntry = codes "noentry"
bare_text reply.Full = codes "full"
bare_text reply.AclFull = codes "aclfull"
bare_text reply.Beyond = codes "beyond"
bare_text reply.NotEmpty = codes "notempty"
bare_text reply.HasQuota = codes "hasquota"
bare_text reply.Root = codes "root"
bare_text reply.TooLittle = codes "toolittle"
bare_text _ = []

-- what a reply tells in numbers after the number of its kind; of one word four times 0
abbrev pub reply_numbers : Reply → ℕ × ℕ × ℕ × ℕ
reply_numbers (reply.Word w) = (1, w, 0, 0)
reply_numbers (reply.Made u) = (2, u, 0, 0)
reply_numbers (reply.Known n) = (3, n, 0, 0)
reply_numbers (reply.Over u) = (4, u, 0, 0)
reply_numbers (reply.SegIs uid length stored) = (5, uid, length, stored)
reply_numbers (reply.DirIs uid quota used) = (6, uid, quota, used)
reply_numbers _ = (0, 0, 0, 0)

-- the replies of one word; the one that is given most stands first
abbrev pub bare_replies : List Reply
bare_replies =
    reply.Done ∷ reply.Unknown ∷ reply.Gone ∷ reply.NoAccess ∷ reply.Length ∷ reply.Quota ∷ reply.NoRecord
    ∷ reply.Device
    ∷ reply.NoPath ∷ reply.NotDir ∷ reply.IsDir ∷ reply.IsSeg ∷ reply.Exists ∷ reply.Deep ∷ reply.Room
    ∷ reply.NoEntry ∷ reply.Full ∷ reply.AclFull ∷ reply.Beyond ∷ reply.NotEmpty ∷ reply.HasQuota ∷ reply.Root
    ∷ reply.TooLittle ∷ []

unfoldable pub reply_text : Reply → List ℕ
reply_text (reply.Word w) = codes "word " ++ octal_digits 12 w
reply_text (reply.Made u) = codes "made " ++ decimal u
reply_text (reply.Known n) = codes "known " ++ decimal n
reply_text (reply.Over u) = codes "over " ++ decimal u
reply_text (reply.SegIs uid length stored) = codes "seg "
    ++ (decimal uid ++ (codes " length " ++ (decimal length ++ (codes " stored " ++ decimal stored))))
reply_text (reply.DirIs uid quota used) = codes "dir "
    ++ (decimal uid ++ (codes " quota " ++ (decimal quota ++ (codes " used " ++ decimal used))))
reply_text r = bare_text r
