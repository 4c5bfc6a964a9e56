-- A reply is told by its word and its numbers.
use Rattle.book.proofs.Prelude.{◌≡◌, ◌↔◌, IsTrue, ℕ, eqb, if◌then◌else◌, List, Option, Some, None, refl, sym, ◌∙◌, bytes_eq, bytes_eq-Decides, Reply, reply, bare_text, reply_numbers, bare_reply, named_reply}

-- the reply that was found, and another where there is none
abbrev found : Option Reply → Reply
found (Some r) = r
found None = reply.Done

-- the reply of a word and numbers
abbrev reply_by : List ℕ → ℕ × ℕ × ℕ × ℕ → Reply
reply_by w n = if eqb n.0 1 then reply.Word n.1 else if eqb n.0 2 then reply.Made n.1
    else if eqb n.0 3 then reply.Known n.1 else if eqb n.0 4 then reply.Over n.1
    else if eqb n.0 5 then reply.SegIs n.1 n.2 n.3 else if eqb n.0 6 then reply.DirIs n.1 n.2 n.3
    else found (bare_reply w)

reply_back : (r : Reply) → reply_by (bare_text r) (reply_numbers r) ≡ r
unfolding bare_text named_reply
reply_back (reply.Word w) = refl
reply_back (reply.Made u) = refl
reply_back (reply.Known u) = refl
reply_back (reply.Over u) = refl
reply_back (reply.SegIs u l s) = refl
reply_back (reply.DirIs u q d) = refl
reply_back _ = refl

-- two rows of four numbers are one where each is
pub same_four : (x y : ℕ × ℕ × ℕ × ℕ) → x.0 ≡ y.0 → x.1 ≡ y.1 → x.2 ≡ y.2 → x.3 ≡ y.3 → x ≡ y
same_four x y a b c d = λ i. (a i, b i, c i, d i)

-- two replies of the same numbers and the same word are one
pub same_reply : (r d : Reply) → reply_numbers r ≡ reply_numbers d → bare_text r ≡ bare_text d → r ≡ d
same_reply r d n w = sym (reply_back r) ∙ (λ i. reply_by (w i) (n i)) ∙ reply_back d

-- two rows of bytes are compared
pub same_bytes : (xs ys : List ℕ) → IsTrue (bytes_eq xs ys) ↔ xs ≡ ys
same_bytes xs ys = bytes_eq-Decides xs ys
