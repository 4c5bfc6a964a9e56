use Rattle.machine.proofs.Prelude.{◌≡◌, true, is_over, ◌≤◌, arith}
use Rattle.machine.proofs.Laws.{call_counts, visited_tells, over_owner, over_still, visit_done, visit_here, visit_sound, visit_within, visited_adds}
use Rattle.machine.proofs.machine.Machine.visit.Goals as goal

pub visit-visited-requires : goal.visit-visited-requires
visit-visited-requires g c =
    let few : 320 ≤ c.self.inside.tables.state.spare = rw c.self.view_is c.requires.room in
    let over : is_over c.self.inside.tables.state ≡ true = rw c.self.view_is c.requires.over in
    record {
      count = c.self.invariant.keeps.machine.keeps.sizes.frames;
      frame = visit_within c.self.invariant over (rw c.self.view_is c.requires.more);
      here = visit_here c.self.invariant over;
      still = over_still c.self.invariant over;
      owner = over_owner c.self.invariant over;
      room = omega arith;
    }

pub returns : goal.returns
returns g c =
    let done = visit_done c.self.invariant (rw c.self.view_is c.requires.over) c.visit-visited.result
    c.visit-visited.new.self (rw c.self.view_is c.requires.more) c.visit-visited.ensures.state
    (call_counts c.visit-visited.ensures.drives c.promise.ensures.faults c.promise-2.ensures.faults)
    c.visit-visited.ensures.drives c.visit-visited.ensures.no_call c.visit-visited.ensures.room in
    rw (← c.self.view_is)
    (record { done = done; faults = visited_tells done; entries = visited_adds g.D.Drive.faults done })

pub invariant_of-self : goal.invariant_of-self
invariant_of-self g c = visit_sound c.self.invariant (rw c.self.view_is c.requires.over)
    c.visit-visited.result c.visit-visited.new.self (rw c.self.view_is c.requires.more) c.visit-visited.ensures.state
    (call_counts c.visit-visited.ensures.drives c.promise.ensures.faults c.promise-2.ensures.faults)
    c.visit-visited.ensures.shown c.visit-visited.ensures.zeros c.visit-visited.ensures.room
    (assumption c.promise-2.ensures)
