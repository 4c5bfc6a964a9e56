use Rattle.vtoc.proofs.Prelude.{List, None, Option, Slot, ap, get_or, sym, ℕ, ◌∙◌}
use Rattle.vtoc.proofs.Table.{has_uid, kept}
use Rattle.vtoc.proofs.Vtoc.file_map.Goals as goal

pub used-requires : goal.used-requires
used-requires c = has_uid c.self.invariant c.self.view_is c.args.e c.requires.used

pub returns : goal.returns
returns c = c.get.ensures ∙ ap (λ (s : Slot). get_or s.map c.args.p None) c.used.ensures
    ∙ sym (ap (λ (m : List (Option ℕ)). get_or m c.args.p None) (kept c.self.invariant c.self.view_is c.args.e).records)
