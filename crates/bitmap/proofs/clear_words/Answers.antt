use Rattle.bitmap.proofs.Fresh.{Global, List, Vec, ap, arith, clear_part, clear_whole, set, ℕ, ◌%◌, ◌*◌, ◌/◌, ◌^◌, ◌∙◌}
use Rattle.bitmap.proofs.clear_words.Goals.{then-count-ne0, else-count-ne0}
use Rattle.bitmap.proofs.clear_words.Goals as goal

pub returns : goal.returns
returns c =
    let zeros = c.in_ok-words.ensures.items_if_clones_equal (λ y e. e) in
    elim c.if-count-ne0.branch [
      | then-count-ne0 w ↦ clear_part {count = c.args.count} (ap (λ (v : Vec ℕ Global). v.items) w.words-is
          ∙ ap (λ (xs : List ℕ). set xs (c.args.count / 64) (18446744073709551615 * 2 ^ (c.args.count % 64) % 2 ^ 64))
          zeros) (omega (arith, c.div_ceil.ensures)) w.if-count-ne0.true
      | else-count-ne0 w ↦ clear_whole {count = c.args.count} (ap (λ (v : Vec ℕ Global). v.items) w.words-is ∙ zeros)
          (omega (arith, c.div_ceil.ensures)) w.if-count-ne0.false
    ]
