use Rattle.core_map.proofs.Turning.{arith, is_taken, seen_unmarked, started_page, turned_choice, turned_core, turned_count, turned_same}
use Rattle.core_map.proofs.CoreMap.choose.Goals as goal

pub invariant_of-self : goal.invariant_of-self
invariant_of-self c =
    let count = turned_count c.turn-f.ensures in
    record {
      bits = cc (turned_same is_taken (λ x. (seen_unmarked x).taken) c.turn-f.ensures);
      short = omega arith;
      hand_within = omega arith;
    }

pub returns-clause-chosen : goal.returns-clause-chosen
returns-clause-chosen c = rw (← c.self.view_is) (turned_choice _ _ _ _ c.self.invariant.hand_within c.turn-f.ensures)

pub returns-clause-core : goal.returns-clause-core
returns-clause-core c = rw (← c.self.view_is) (turned_core _ _ _ _ _ _ c.self.invariant.hand_within c.turn-f.ensures
    (omega arith) c.next-self-inside.ensures.next)

pub returns-clause-started : goal.returns-clause-started
returns-clause-started c = rw (← c.self.view_is)
    (turned_same started_page (λ x. (seen_unmarked x).started) c.turn-f.ensures)
