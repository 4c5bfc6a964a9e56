use Rattle.listing.proofs.CountLaws.{counts_start, counts_more, counts_end, pushed, skipped}
use Rattle.listing.proofs.summing.accounts_by_uid.Goals.{in-Some+in_ok-push, in_default}
use Rattle.listing.proofs.summing.accounts_by_uid.Goals as goal

pub loop-uid-init : goal.loop-uid-init
loop-uid-init c = λ s same counts. counts_start s c.look.ensures same c.new-counts.ensures.items

pub loop-uid-preserved : goal.loop-uid-preserved
loop-uid-preserved c = λ s same counts.
    counts_more s _ c.loop-uid.uid c.loop-uid.counts.items _ c.in_ok-count.field-0 c.look.ensures same
    (c.in_ok-count.ensures s same counts) (c.loop-uid.invariant s same counts) (elim c.match-branch-2.branch [
      | in-Some+in_ok-push w ↦ pushed _ w.in-Some.is w.in_ok-push.ensures.items (cc)
      | in_default w ↦ skipped _ _ c.in_ok-count.field-0 w.in_default.not-Some (cc)
    ])

pub returns : goal.returns
returns c = λ s same counts. counts_end s _ c.loop-uid.uid _ _ same c.next_uid-uid-end.ensures.below
    (rw (← c.next_uid-uid-end.ensures.uid) c.loop-uid-test.false) (c.loop-uid.invariant s same counts)
