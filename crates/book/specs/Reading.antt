-- How the text of an entry is read: as words with a space between each two (own).
use Rattle.std.specs.Prelude.{◌<◌, ◌^◌, ℕ, Bool, ◌&&◌, ◌||◌, not, ◌==◌, nat_lt, nat_le, if◌then◌else◌, length, slice_index, List, [], ◌∷◌, Option, Some, None, codes, IfSome}
use Rattle.std.specs.Char.{is_ascii_digit}
use Rattle.std.specs.List.{before_first, after_first, list_all}
use Rattle.std.specs.Option.{option_map, option_and_then}
use Rattle.std.specs.Str.{bytes_eq}
use Rattle.std.specs.Str.Parse.{digits_value}
use Rattle.mword.specs.Octal.{octal_value}
use Rattle.assoc_mem.specs.declared.What.{What}
use Rattle.assoc_mem.specs.declared.What.TheVariants as what
use Rattle.book.specs.declared.entries.Entry.{Entry}
use Rattle.book.specs.declared.entries.Entry.TheVariants as entry
use Rattle.book.specs.declared.reading.Named.{Named}
use Rattle.book.specs.declared.reading.Named.TheVariants as named
use Rattle.book.specs.Replies.{bare_replies, bare_text}
use Rattle.book.specs.declared.replies.Reply.{Reply}
use Rattle.book.specs.declared.replies.Reply.TheVariants as reply

-- ---- words

abbrev pub is_space : ℕ → Bool
is_space b = b == 32

abbrev pub is_dot : ℕ → Bool
is_dot b = b == 46

-- 1 to 10 bytes, the first of which is a zero only where it is the only one
abbrev pub is_plain : List ℕ → Bool
is_plain t = (nat_lt 0 (length t) && nat_le (length t) 10) && (not (slice_index t 0 == 48) || length t == 1)

-- decimal digits without a leading zero, of a number of 32 bits
abbrev pub is_number : List ℕ → Bool
is_number t = is_plain t && (list_all is_ascii_digit t && nat_lt (digits_value 10 t) (2 ^ 32))

unfoldable pub number_of : List ℕ → Option ℕ
number_of t = if is_number t then Some (digits_value 10 t) else None

-- a number, or `-` for none
abbrev pub number_or_none : List ℕ → Option (Option ℕ)
number_or_none t = if bytes_eq t (codes "-") then Some None else option_map (λ n. Some n) (number_of t)

-- twelve octal digits
unfoldable pub word_of : List ℕ → Option ℕ
word_of t = if length t == 12 then octal_value t else None

abbrev pub both : {A B : Type 0} → Option A → Option B → Option (A × B)
both None b = None
both (Some a) None = None
both (Some a) (Some b) = Some (a, b)

-- the process and the place of a command, with a dot between them
abbrev pub dotted_of : List ℕ → Option (ℕ × ℕ)
dotted_of t = both (number_of (before_first is_dot t)) (number_of (after_first is_dot t))

-- ---- replies

-- the first of some replies of one word whose text a word is
unfoldable pub named_reply : List Reply → List ℕ → Option Reply
named_reply [] w = None
named_reply (r ∷ rs) w = if bytes_eq w (bare_text r) then Some r else named_reply rs w

abbrev pub bare_reply : List ℕ → Option Reply
bare_reply w = named_reply bare_replies w

abbrev pub numbered_reply : List ℕ → ℕ → Option Reply
numbered_reply w n =
    if bytes_eq w (codes "made") then Some (reply.Made n)
    else if bytes_eq w (codes "known") then Some (reply.Known n)
    else if bytes_eq w (codes "over") then Some (reply.Over n)
    else None

abbrev pub status_reply : List ℕ → List ℕ → List ℕ → ℕ → ℕ × ℕ → Option Reply
status_reply w x y u counts =
    if bytes_eq w (codes "seg") && (bytes_eq x (codes "length") && bytes_eq y (codes "stored"))
    then Some (reply.SegIs u counts.0 counts.1)
    else if bytes_eq w (codes "dir") && (bytes_eq x (codes "quota") && bytes_eq y (codes "used"))
    then Some (reply.DirIs u counts.0 counts.1)
    else None

abbrev pub status_of : List ℕ → List ℕ → List ℕ → Option (ℕ × ℕ × ℕ) → Option Reply
status_of w x y None = None
status_of w x y (Some n) = status_reply w x y n.0 (n.1, n.2)

abbrev pub triple : {A B C : Type 0} → Option A → Option B → Option C → Option (A × B × C)
triple None b c = None
triple (Some a) None c = None
triple (Some a) (Some b) None = None
triple (Some a) (Some b) (Some c) = Some (a, b, c)

abbrev pub pair_reply : List ℕ → List ℕ → Option Reply
pair_reply w a = if bytes_eq w (codes "word") then option_map (λ n. reply.Word n) (word_of a)
    else option_and_then (numbered_reply w) (number_of a)

unfoldable pub reply_of : List (List ℕ) → Option Reply
reply_of (w ∷ []) = bare_reply w
reply_of (w ∷ a ∷ []) = pair_reply w a
reply_of (w ∷ u ∷ x ∷ a ∷ y ∷ b ∷ []) = status_of w x y (triple (number_of u) (number_of a) (number_of b))
reply_of _ = None

-- ---- entries

abbrev pub what_of : List (List ℕ) → Option What
what_of (a ∷ []) = if bytes_eq a (codes "all") then Some what.All else None
what_of (a ∷ b ∷ []) =
    if bytes_eq a (codes "page") then option_map (λ n. what.Page n) (number_of b)
    else if bytes_eq a (codes "seg") then option_map (λ n. what.Seg n) (number_of b)
    else None
what_of _ = None

-- a processor, and what it drops
abbrev pub dropped_of : List (List ℕ) → Option (ℕ × What)
dropped_of (c ∷ fields) = both (number_of c) (what_of fields)
dropped_of [] = None

-- the word of a frame, or a descriptor
abbrev pub named_of : List (List ℕ) → Option Named
named_of (kind ∷ f ∷ []) = if bytes_eq kind (codes "page") then option_map (λ n. named.Page n) (number_of f) else None
named_of (kind ∷ k ∷ n ∷ []) = if bytes_eq kind (codes "seg")
    then option_map (λ x. named.Seg x.0 x.1) (both (number_of k) (number_of n)) else None
named_of _ = None

abbrev pub gone : Named → Entry
gone (named.Page f) = entry.GonePage f
gone (named.Seg k n) = entry.GoneSeg k n

abbrev pub back : Named → Entry
back (named.Page f) = entry.BackPage f
back (named.Seg k n) = entry.BackSeg k n

abbrev pub filled : List ℕ → ℕ × ℕ → Option Entry
filled kind x =
    if bytes_eq kind (codes "seg") then Some (entry.FillSeg x.0 x.1)
    else if bytes_eq kind (codes "page") then Some (entry.FillPage x.0 x.1)
    else None

abbrev pub fill_of : List (List ℕ) → Option Entry
fill_of (c ∷ kind ∷ n ∷ []) = option_and_then (filled kind) (both (number_of c) (number_of n))
fill_of _ = None

abbrev pub fault_of : List (List ℕ) → Option Entry
fault_of (k ∷ []) = option_map (λ process. entry.Fault process) (number_or_none k)
fault_of _ = None

abbrev pub answered_of : Option ((ℕ × ℕ) × (ℕ × Option ℕ)) → Option Reply → Option Entry
answered_of None r = None
answered_of (Some x) None = None
answered_of (Some x) (Some r) = Some (entry.Do x.0.0 x.0.1 x.1.0 x.1.1 r)

abbrev pub do_of : List (List ℕ) → Option Entry
do_of (command ∷ c ∷ f ∷ fields) = answered_of (both (dotted_of command) (both (number_of c) (number_or_none f)))
    (reply_of fields)
do_of _ = None

abbrev pub of_one : List ℕ → ℕ → Option Entry
of_one w n =
    if bytes_eq w (codes "online") then Some (entry.Online n)
    else if bytes_eq w (codes "leave") then Some (entry.Leave n)
    else if bytes_eq w (codes "activate") then Some (entry.Activate n)
    else if bytes_eq w (codes "deactivate") then Some (entry.Deactivate n)
    else if bytes_eq w (codes "lose") then Some (entry.Lose n)
    else if bytes_eq w (codes "take") then Some (entry.Take n)
    else None

abbrev pub of_two : List ℕ → ℕ × ℕ → Option Entry
of_two w x =
    if bytes_eq w (codes "load") then Some (entry.Load x.0 x.1)
    else if bytes_eq w (codes "release") then Some (entry.Release x.0 x.1)
    else if bytes_eq w (codes "cut") then Some (entry.Cut x.0 x.1)
    else None

abbrev pub of_three : List ℕ → ℕ × ℕ × ℕ → Option Entry
of_three w x =
    if bytes_eq w (codes "in") then Some (entry.Here x.0 x.1 x.2)
    else if bytes_eq w (codes "start") then Some (entry.Start x.0 x.1 x.2)
    else if bytes_eq w (codes "connect") then Some (entry.Connect x.0 x.1 x.2)
    else if bytes_eq w (codes "moved") then Some (entry.Moved x.0 x.1 x.2)
    else None

abbrev pub plain_of : List ℕ → List (List ℕ) → Option Entry
plain_of w (a ∷ []) = option_and_then (of_one w) (number_of a)
plain_of w (a ∷ b ∷ []) = option_and_then (of_two w) (both (number_of a) (number_of b))
plain_of w (a ∷ b ∷ c ∷ []) = option_and_then (of_three w) (triple (number_of a) (number_of b) (number_of c))
plain_of w _ = None

abbrev pub named_or_plain : List ℕ → List (List ℕ) → Option Entry
named_or_plain w fields =
    if bytes_eq w (codes "gone") then option_map gone (named_of fields)
    else if bytes_eq w (codes "back") then option_map back (named_of fields)
    else if bytes_eq w (codes "fault") then fault_of fields
    else plain_of w fields

-- the entry of a first word and the others, if they are one's
unfoldable pub entry_of : List ℕ → List (List ℕ) → Option Entry
entry_of w fields =
    if bytes_eq w (codes "do") then do_of fields
    else if bytes_eq w (codes "fill") then fill_of fields
    else if bytes_eq w (codes "signal") then option_map (λ x. entry.Signal x.0 x.1) (dropped_of fields)
    else if bytes_eq w (codes "clear") then option_map (λ x. entry.Clear x.0 x.1) (dropped_of fields)
    else named_or_plain w fields

abbrev pub entry_of_words : List (List ℕ) → Option Entry
entry_of_words [] = None
entry_of_words (w ∷ fields) = entry_of w fields

-- ---- the entries that a book may have

abbrev pub IsSmall : ℕ → Type 0
IsSmall n = n < 2 ^ 32

abbrev pub IsReply : Reply → Type 0
IsReply (reply.Word w) = w < 2 ^ 36
IsReply (reply.Made u) = IsSmall u
IsReply (reply.Known n) = IsSmall n
IsReply (reply.Over u) = IsSmall u
IsReply (reply.SegIs u l s) = IsSmall u × IsSmall l × IsSmall s
IsReply (reply.DirIs u q n) = IsSmall u × IsSmall q × IsSmall n
IsReply _ = Unit {0}

abbrev pub IsWhat : What → Type 0
IsWhat what.All = Unit {0}
IsWhat (what.Page f) = IsSmall f
IsWhat (what.Seg u) = IsSmall u

-- each number of an entry has 32 bits, and each word 36
abbrev pub IsEntry : Entry → Type 0
IsEntry (entry.Do k i c f r) = IsSmall k × IsSmall i × IsSmall c × IfSome f IsSmall × IsReply r
IsEntry (entry.Release u p) = IsSmall u × IsSmall p
IsEntry (entry.Fault k) = IfSome k IsSmall
IsEntry (entry.Online c) = IsSmall c
IsEntry (entry.Load c k) = IsSmall c × IsSmall k
IsEntry (entry.Leave c) = IsSmall c
IsEntry (entry.Activate u) = IsSmall u
IsEntry (entry.Deactivate u) = IsSmall u
IsEntry (entry.Start f u p) = IsSmall f × IsSmall u × IsSmall p
IsEntry (entry.Lose f) = IsSmall f
IsEntry (entry.Here f u p) = IsSmall f × IsSmall u × IsSmall p
IsEntry (entry.Connect k n u) = IsSmall k × IsSmall n × IsSmall u
IsEntry (entry.Moved k u w) = IsSmall k × IsSmall u × IsSmall w
IsEntry (entry.Take f) = IsSmall f
IsEntry (entry.Cut k n) = IsSmall k × IsSmall n
IsEntry (entry.Signal c w) = IsSmall c × IsWhat w
IsEntry (entry.Clear c w) = IsSmall c × IsWhat w
IsEntry (entry.FillSeg c n) = IsSmall c × IsSmall n
IsEntry (entry.FillPage c f) = IsSmall c × IsSmall f
IsEntry (entry.GonePage f) = IsSmall f
IsEntry (entry.BackPage f) = IsSmall f
IsEntry (entry.GoneSeg k n) = IsSmall k × IsSmall n
IsEntry (entry.BackSeg k n) = IsSmall k × IsSmall n
