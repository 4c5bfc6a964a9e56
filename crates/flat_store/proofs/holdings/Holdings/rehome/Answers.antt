use Rattle.flat_store.proofs.holdings.Holdings.rehome.Goals as goal

pub returns-then-is_roomy : goal.returns-then-is_roomy
returns-then-is_roomy c = λ p s h segment room. c.take_home.ensures p s h
