use Rattle.clean_reasons.proofs.Prelude.{sym, ◌∙◌, rules, custody_of}
use Rattle.clean_reasons.proofs.row_descriptors.against_connect.Goals as goal

pub returns-in-Free : goal.returns-in-Free
returns-in-Free c = λ s shown. record {
  known = c.in_default.ensures c.args.script.now s (custody_of c.args.custody.now) shown;
  active = sym c.is_active.ensures ∙ (search rules);
  free = sym c.descriptor.ensures ∙ c.in-Free.is;
}

pub returns-in-Some : goal.returns-in-Some
returns-in-Some c = λ s shown.
    let h = c.in-Some.ensures c.args.script.now s (custody_of c.args.custody.now) shown in
    record { about = h.0; said = h.1 }
