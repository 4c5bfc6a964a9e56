use Rattle.listing.proofs.Prelude.{ap, arith, ◌≡◌, ◌∙◌, ℕ, use_of}
use Rattle.listing.proofs.UseLaws.{uses_more}
use Rattle.listing.proofs.summing.volume_uses.Goals as goal

pub loop-v-preserved : goal.loop-v-preserved
loop-v-preserved c = λ p s shows.
    let is : record { records = c.taken.result; entries = c.entries.result } ≡ use_of s c.loop-v.v =
    ap (λ (n : ℕ). record { records = n; entries = c.entries.result }) (c.taken.ensures p s shows)
    ∙ ap (λ (n : ℕ). record { records = (use_of s c.loop-v.v).records; entries = n }) (c.entries.ensures p s shows)
    in
    uses_more s c.loop-v.v (c.loop-v.invariant p s shows) is c.in_ok-push.ensures.items

pub returns : goal.returns
returns c = λ p s shows.
    let all : c.loop-v.v ≡ c.args.volumes = omega arith in
    cc (c.loop-v.invariant p s shows)
