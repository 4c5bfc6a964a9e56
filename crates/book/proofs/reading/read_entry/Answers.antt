use Rattle.book.proofs.Prelude.{arith, common_steps, nat_tests, ◌≡◌, ℕ, List, Bor, map, ap, ◌∙◌, slice_split, is_space}
use Rattle.book.proofs.ReadingLaws.{read_only, read_again, read_none}
use Rattle.book.proofs.reading.read_entry.Goals as goal

-- the words that were cut are those of the line
cut_of : (lent kept : List (Bor (List ℕ))) (line : List ℕ) → lent ≡ kept → map (λ (w : Bor (List ℕ)). w.now) kept
    ≡ slice_split is_space line → map (λ (w : Bor (List ℕ)). w.now) lent ≡ slice_split is_space line
cut_of lent kept line same cut = ap (map (λ (w : Bor (List ℕ)). w.now)) same ∙ cut

pub returns-then-read_words-clause-some : goal.returns-then-read_words-clause-some
returns-then-read_words-clause-some c = grind (arith, nat_tests, common_steps, read_only, cut_of)

pub returns-then-read_words-clause-back : goal.returns-then-read_words-clause-back
returns-then-read_words-clause-back c = λ e h text. c.entry_of_words.ensures ∙ read_again c.args.line.now _ e
    (cut_of c.deref.result.now c.read_words.new.words.items c.args.line.now c.deref.ensures.0
    (c.read_words.ensures.yes c.if-read_words.true)) h text

pub returns-else-read_words-clause-back : goal.returns-else-read_words-clause-back
returns-else-read_words-clause-back c = λ e h text.
    absurd (read_none c.args.line.now e (c.read_words.ensures.no c.if-read_words.false) h text)
