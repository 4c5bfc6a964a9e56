use Rattle.seg_control.proofs.Prelude.{length, take, uids_of, ◌≡◌, ◌≤◌}
use Rattle.seg_control.proofs.activating.uids_in.Given as goal

abbrev pub invariant-loop-link : goal.invariant-loop-link
invariant-loop-link l =
    record { filled : l.uids.items ≡ uids_of (take l.link-index l.chain); few : length l.uids.items ≤ l.link-index }
