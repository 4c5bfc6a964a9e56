use Rattle.vtoc.proofs.Codes.{List, Option, ap, set, write_code, ℕ, ◌∙◌}
use Rattle.vtoc.proofs.file_map.FileMap.put.Goals as goal

pub returns : goal.returns
returns c = write_code c.self.inside.codes c.args.p _ c.code_of.ensures
    ∙ ap (λ (xs : List (Option ℕ)). set xs c.args.p c.args.r) c.self.view_is
