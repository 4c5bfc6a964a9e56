-- Laws of the lines of a schedule (own).
pub use Rattle.schedule.proofs.Prelude.{All-push, AreWithin, Cause, Err, IfSome, IsWithin, Line, List, None, Ok, Option, Order, Refused, Result, Some, [], after_line, ap, append-nil, append_assoc, arith, as_lines, fields_of, length, line_order, lines_of, onto, orders_from, refl, subst, sym, ℕ, ◌++◌, ◌+◌, ◌∙◌, ◌∷◌, ◌≡◌}

pub none_before : (read : Result (List Line) Refused) → onto [] read ≡ read
none_before (Ok lines) = refl
none_before (Err r) = refl

onto_append : (front more : List Line) (read : Result (List Line) Refused)
    → onto (front ++ more) read ≡ onto front (onto more read)
onto_append front more (Ok lines) = ap Ok (append_assoc front more lines)
onto_append front more (Err r) = refl

first_of : (p n : ℕ) (bytes line rest : List ℕ) → lines_of bytes ≡ line ∷ lines_of rest → orders_from p n
    (lines_of bytes) ≡ after_line n (line_order p (fields_of line)) (orders_from p (n + 1) (lines_of rest))
unfolding orders_from
first_of p n bytes line rest e = ap (orders_from p n) e

module _ (p n : ℕ) (front : List Line) (bytes line rest : List ℕ) (all : Result (List Line) Refused)
    (cut : lines_of bytes ≡ line ∷ lines_of rest) (so : onto front (orders_from p n (lines_of bytes)) ≡ all)
  where
    here : (read : Result (Option Order) Cause) → line_order p (fields_of line) ≡ read
        → onto front (after_line n read (orders_from p (n + 1) (lines_of rest))) ≡ all
    here read is = sym (ap (onto front) (first_of p n bytes line rest cut
        ∙ ap (λ r. after_line n r (orders_from p (n + 1) (lines_of rest))) is)) ∙ so

    pub line_added : (order : Option Order) (new : List Line) → line_order p (fields_of line) ≡ Ok order
        → new ≡ front ++ as_lines n order → onto new (orders_from p (n + 1) (lines_of rest)) ≡ all
    line_added order new is added = ap (λ (ls : List Line). onto ls (orders_from p (n + 1) (lines_of rest))) added
        ∙ onto_append front (as_lines n order) (orders_from p (n + 1) (lines_of rest)) ∙ here (Ok order) is

    pub line_refused : (why : Cause) → line_order p (fields_of line) ≡ Err why
        → all ≡ Err (record { line = n; cause = why })
    line_refused why is = sym (here (Err why) is)

pub lines_end : (p n : ℕ) (front : List Line) (bytes : List ℕ) (all : Result (List Line) Refused) → length bytes ≡ 0
    → onto front (orders_from p n (lines_of bytes)) ≡ all → all ≡ Ok front
unfolding orders_from lines_of
lines_end p n front [] all e so = sym so ∙ ap Ok (append-nil front)
lines_end p n front (b ∷ bs) all e so = absurd (omega arith)

-- an order more is within, too
pub within_more : (p n : ℕ) (front new : List Line) (order : Option Order) → AreWithin p front
    → IfSome order (IsWithin p) → new ≡ front ++ as_lines n order → AreWithin p new
within_more p n front new None all one added = subst (AreWithin p) (sym (added ∙ append-nil front)) all
within_more p n front new (Some o) all one added = subst (AreWithin p) (sym added)
    (All-push (λ (line : Line). IsWithin p line.order) front (record { number = n; order = o }) all one)

-- what reading line by line goes by
pub ruleset lines_read = (none_before, line_added, line_refused, lines_end, within_more)
