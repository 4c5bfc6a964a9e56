use Rattle.listing.proofs.Prelude.{sym, subst, ℕ, ◌≡◌, length, take, length_push, zip_turn, zip_end, volumes_of}
use Rattle.listing.proofs.UseLaws.{counts_more, counts_end}
use Rattle.listing.proofs.summing.volume_counts.Goals as goal

pub loop-volume-preserved : goal.loop-volume-preserved
loop-volume-preserved c = λ s uses.
    let t = zip_turn c.args.volumes.now c.args.uses.now c.loop-volume.yielded c.into_iter-volume-iterator.result
    c.loop-volume.volume-iterator c.next.new.self c.next.result (cc) (cc) c.loop-volume.yielded_by
    (c.in-Some.volume, c.in-Some.taken) c.in-Some.is c.next.ensures.steps in
    subst (λ (n : ℕ). c.push.new.self.items ≡ volumes_of s 0 (take n c.args.volumes.now))
    (sym (length_push c.loop-volume.yielded (c.in-Some.volume, c.in-Some.taken)))
    (counts_more s c.args.volumes.now c.args.uses.now (length c.loop-volume.yielded) c.in-Some.volume.now
    c.in-Some.taken.now c.volume_count.result _ _ t.0 (t.2 _) (t.3 _) uses (c.loop-volume.invariant s uses)
    c.volume_count.ensures c.in_ok-push.ensures.items)

pub returns : goal.returns
returns c = λ s uses. counts_end s c.args.volumes.now c.args.uses.now (length c.loop-volume.yielded) _
    (zip_end c.args.volumes.now c.args.uses.now c.loop-volume.yielded c.into_iter-volume-iterator.result
    c.loop-volume.volume-iterator c.next.new.self c.next.result (cc) (cc) c.loop-volume.yielded_by c.in-None.is
    c.next.ensures.steps) uses (c.loop-volume.invariant s uses)
