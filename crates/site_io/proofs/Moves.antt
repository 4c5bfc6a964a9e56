-- What reads and writes in a row do to a source's and a sink's bytes.
use Rattle.std.proofs.lemmas.Grind.{common_steps}
use Rattle.std.proofs.Common.{◌≡◌, ℕ, ◌+◌, ◌≤◌, List, [], ◌++◌, length, IfSome, Option, Some, None, ◌<◌, sym, ap, ◌∙◌, arith, take, drop}
use Rattle.std.specs.Io.KnownBytes.{Appends, Consumes, Keeps}
use Rattle.std.proofs.KnownBytes.{Appends-trans, Consumes-nil, Consumes-trans, Consumes-kept, Keeps-refl}
use Rattle.std.proofs.Math.Seq.{take-add}
use Rattle.std.proofs.lemmas.List.{take_at, drop-drop, take-append-drop, length-append, length-drop, length-take, length-take-le}
use Rattle.site_io.specs.Streams.{ConsumesFront, ConsumesPast}

-- what a read over memory copied into the buffer is the front of what was left
pub read_gives : (bytes buf got left : List ℕ) (next count : ℕ) → drop next bytes ≡ left → got
    ≡ take count (drop next bytes) → next + count ≤ length bytes
    → (left ≡ take count (got ++ drop count buf) ++ drop (next + count) bytes)
read_gives bytes buf got left next count v e within =
    let size : length (take count (drop next bytes)) ≡ count =
    length-take-le count (drop next bytes) (omega (arith, length-drop next bytes)) in
    let size' : length got ≡ count = ap length e ∙ size in
    let front : take count (got ++ drop count buf) ≡ got = take_at got (drop count buf) count size' in
    let rest : drop count (drop next bytes) ≡ drop (next + count) bytes = drop-drop count next bytes in
    sym v ∙ (sym (take-append-drop count (drop next bytes)) ∙ (cc))

-- one more write
pub appends_more : (a b c : Option (List ℕ)) (piece : List ℕ) (done count : ℕ) → Appends a b (take done piece)
    → Appends b c (take count (drop done piece)) → Appends a c (take (done + count) piece)
appends_more a b c piece done count first next = rw (take-add done count piece)
    (Appends-trans a b c (take done piece) (take count (drop done piece)) first next)

-- the bytes that are gone, at most so many
pub consumes_front : (a b : Option (List ℕ)) (bs : List ℕ) (most : ℕ) → Consumes a b bs → length bs ≤ most
    → ConsumesFront a b most
unfolding ConsumesFront
consumes_front a b bs most h n = (bs, n, h)

pub consumes_past : (a b : Option (List ℕ)) (bs : List ℕ) (limit : ℕ) → Consumes a b bs → length bs ≡ limit + 1
    → ConsumesPast a b limit
unfolding ConsumesPast
consumes_past a b bs limit h n = (bs, n, h)

-- a failed read took nothing
pub consumes_kept : (a b : Option (List ℕ)) (most : ℕ) → Keeps a b → ConsumesFront a b most
consumes_kept a b most k = consumes_front a b [] most (Consumes-kept a a b [] (Consumes-nil a) k) (omega arith)

-- the front of a block, which was read
pub consumes_taken : (a b : Option (List ℕ)) (block : List ℕ) (count : ℕ) → Consumes a b (take count block)
    → ConsumesFront a b (length block)
consumes_taken a b block count h = consumes_front a b (take count block) (length block) h
    (omega (arith, length-take count block))

-- some more bytes are gone than before
pub consumes_on : (a b c : Option (List ℕ)) (all : List ℕ) (more most : ℕ) → Consumes a b all → ConsumesFront b c more
    → length all + more ≤ most → ConsumesFront a c most
unfolding ConsumesFront
consumes_on a b c all more most before now within =
    consumes_front a c (all ++ now.0) most (Consumes-trans a b c all now.0 before now.2)
    (omega (arith, length-append all now.0, now.1))

-- who lost more bytes than the limit had more
pub consumes_longer : (a b : Option (List ℕ)) (bs : List ℕ) (limit : ℕ) → Consumes a b bs → length bs ≡ limit + 1
    → IfSome a (λ all. limit < length all)
consumes_longer None b bs limit h n = tt
consumes_longer (Some xs) None bs limit h n = absurd h
consumes_longer (Some xs) (Some ys) bs limit h n = omega (arith, ap length h, length-append bs ys)

-- what one read goes by, the reading to the end, and the writing of a whole piece
pub ruleset read_once = (Keeps-refl, consumes_kept, consumes_taken)

pub ruleset whole_read = (Keeps-refl, consumes_kept, consumes_front, consumes_past, consumes_longer)

pub ruleset piece_written = (appends_more, common_steps)
