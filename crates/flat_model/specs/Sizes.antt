-- The length of a segment is changed, and its words are cut off (Bensoussan, Clingen and Daley 1972).
use Rattle.std.specs.Prelude.{ℕ, ◌+◌, ◌*◌, Bool, ◌&&◌, ◌||◌, nat_le, nat_lt, if◌then◌else◌, List, Result, Ok, Err}
use Rattle.book.specs.declared.replies.Reply.{Reply}
use Rattle.book.specs.declared.replies.Reply.TheVariants as reply
use Rattle.tree_model.specs.Tree.{Node}
use Rattle.flat_model.specs.Pages.{Words, without_words, is_zero_page, without_stored, is_stored_from}
use Rattle.flat_model.specs.Branches.{segment_at, changed, done_at}
use Rattle.flat_model.specs.Store.{Store}

-- beyond where a stored page has a number at or past the new length
abbrev pub length_of : List (ℕ × ℕ) → ℕ → Result Node Reply → Reply
length_of stored pages (Ok n) = if is_stored_from stored n.uid pages then reply.Beyond else reply.Done
length_of stored pages (Err r) = r

unfoldable pub length_reply : Store → List (List ℕ) → ℕ → Reply
length_reply s path pages = length_of s.stored pages (segment_at s.nodes path)

unfoldable pub after_length : Store → List (List ℕ) → ℕ → Store
after_length s path pages = changed s (λ n. record n { pages = pages }) (segment_at s.nodes path)

unfoldable pub truncate_reply : Store → List (List ℕ) → Reply
truncate_reply s path = done_at (segment_at s.nodes path)

-- a page lies wholly past an offset, or is cut by it and all zeros then
abbrev pub is_lost : Words → ℕ → ℕ → ℕ → Bool
is_lost words uid from page = nat_le from (1024 * page)
    || (nat_lt from (1024 * page + 1024) && is_zero_page words uid page)

-- the words of a segment from an offset on are 0, and the pages that are lost are stored no more
abbrev pub cut_off : Store → ℕ → ℕ → Store
cut_off s uid from =
    let words = without_words s.words uid from in
    record s { words = words; stored = without_stored s.stored uid (is_lost words uid from) }

abbrev pub truncated : Store → ℕ → Result Node Reply → Store
truncated s from (Ok n) = cut_off s n.uid from
truncated s from (Err r) = s

unfoldable pub after_truncate : Store → List (List ℕ) → ℕ → Store
after_truncate s path from = truncated s from (segment_at s.nodes path)
