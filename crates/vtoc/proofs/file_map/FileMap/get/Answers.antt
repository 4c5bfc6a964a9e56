use Rattle.vtoc.proofs.Codes.{arith, length, read_none, read_some, refl, sym, ◌<◌, ◌∙◌}
use Rattle.vtoc.proofs.file_map.FileMap.get.Goals as goal

pub returns-then-code : goal.returns-then-code
returns-then-code c =
    let inside : c.args.p < length c.self.inside.codes = omega (arith, c.self.told) in
    cc (read_none c.self.inside.codes c.args.p inside refl c.if-code.true)

pub returns-else-code : goal.returns-else-code
returns-else-code c =
    let inside : c.args.p < length c.self.inside.codes = omega (arith, c.self.told) in
    cc (read_some c.self.inside.codes c.args.p inside (sym c.from.ensures)
    (let e = c.if-code.false in λ h. e (sym c.from.ensures ∙ h)))
