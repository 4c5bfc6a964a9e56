use Rattle.active_segs.proofs.InferiorLemmas.{arith, leaf_read, least_since_noted, length, noted_map, used_within, ◌<◌, ◌≡◌}
use Rattle.active_segs.proofs.DescentLemmas.{stays, way_begins, way_comes_to, way_ends, way_goes_on}
use Rattle.active_segs.proofs.victim.leaf_below.Goals as goal

pub loop-step-init : goal.loop-step-init
loop-step-init c = way_begins _ _ c.requires.grounded c.requires.active

pub bounds-inferiors-place : goal.bounds-inferiors-place
bounds-inferiors-place c =
    let within : c.loop-step.place < length c.args.entries.now =
    used_within _ _ c.loop-step.invariant.uid c.loop-step.invariant.is in
    let many : length c.args.inferiors.now ≡ length c.args.entries.now = c.requires.noted.maps in omega arith

pub returns-in-None-clause-is : goal.returns-in-None-clause-is
returns-in-None-clause-is c = way_comes_to _ _ _ _ c.loop-step.invariant
    (leaf_read _ _ c.requires.noted c.loop-step.place c.index-inferiors-place.result (used_within
    _ _ c.loop-step.invariant.uid c.loop-step.invariant.is) c.index-inferiors-place.is c.in-None.ensures.none)

pub returns-in-None-clause-stands : goal.returns-in-None-clause-stands
returns-in-None-clause-stands c = c.loop-step.invariant.back _
    (stays _ _ (leaf_read _ _ c.requires.noted c.loop-step.place c.index-inferiors-place.result (used_within
    _ _ c.loop-step.invariant.uid c.loop-step.invariant.is) c.index-inferiors-place.is c.in-None.ensures.none))

pub loop-step-preserved : goal.loop-step-preserved
loop-step-preserved c =
    let within = used_within _ _ c.loop-step.invariant.uid c.loop-step.invariant.is in
    let map = noted_map _ _ c.requires.noted c.loop-step.place c.index-inferiors-place.result within
    c.index-inferiors-place.is in
    let least = least_since_noted _ _ c.requires.noted _ _ within (rw map at c.in-Some.ensures.some) in
    way_goes_on _ _ _ _ _ c.loop-step.invariant least

pub unreachable-requires : goal.unreachable-requires
unreachable-requires c = omega (arith, way_ends _ _ _ _ c.loop-step.invariant)
