use Rattle.script.proofs.Prelude.{ℕ, cond, ltb, refl, length-chunk, zip2_of_maps, zip2_splat, zip2_splat_left, chunk}
use Rattle.script.proofs.LaneLaws.{first_set, none_set}
use Rattle.script.proofs.lines.printable_lanes.Goals as goal

pub returns-then-others-eq0 : goal.returns-then-others-eq0
returns-then-others-eq0 c =
    let v = chunk c.args.at 16 c.args.bytes.now in
    let long = length-chunk c.args.at 16 c.args.bytes.now c.requires in
    none_set c.args.bytes.now c.args.at c.requires c.type_inv.bytes _ _
    (zip2_of_maps _ _ _ v (zip2_splat {Y = ℕ} _ v 16 32 long)
    (zip2_splat_left {X = ℕ} (λ a b. cond (ltb a b) 255 0) 126 16 v long)) refl c.if-others-eq0.true

pub returns-else-others-eq0 : goal.returns-else-others-eq0
returns-else-others-eq0 c =
    let v = chunk c.args.at 16 c.args.bytes.now in
    let long = length-chunk c.args.at 16 c.args.bytes.now c.requires in
    first_set c.args.bytes.now c.args.at c.requires c.type_inv.bytes _ _
    (zip2_of_maps _ _ _ v (zip2_splat {Y = ℕ} _ v 16 32 long)
    (zip2_splat_left {X = ℕ} (λ a b. cond (ltb a b) 255 0) 126 16 v long)) refl c.if-others-eq0.false
