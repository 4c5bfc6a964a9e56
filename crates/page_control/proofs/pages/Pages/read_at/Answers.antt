use Rattle.page_control.proofs.Prelude.{arith, common_steps, flag_within, flags_of, length, plain, refl, rules, ◌<◌, ◌≡◌}
use Rattle.page_control.proofs.Calls.{out_record}
use Rattle.page_control.proofs.pages.Pages.read_at.Goals as goal

pub prove-unreachable-requires : goal.prove-unreachable-requires
prove-unreachable-requires g c =
    let lt : c.record_out-r.result < length (flags_of (plain g.D.Drive.pages c.args.self.now) c.args.home.volume) =
    flag_within _ _ (c.requires.tie.records.used c.args.home.volume c.args.home.entry c.args.p _
    (c.requires.tie.map.out c.args.p _ c.record_out-r.ensures)) in
    let size : c.size.result ≡ length (flags_of (plain g.D.Drive.pages c.args.self.now) c.args.home.volume) =
    search rules in
    omega arith

pub returns-in-Ok-clause-read : goal.returns-in-Ok-clause-read
returns-in-Ok-clause-read g c =
    let r = out_record _ _ _ _ _ _ c.requires.tie c.record_out-r.ensures in
    record {
      effect = rw r (grind (arith, common_steps));
      word = search rules;
      frames = rw (← c.self.view_is) c.self.invariant.0;
    }

pub returns-in-Err-clause-read : goal.returns-in-Err-clause-read
returns-in-Err-clause-read g c = record {
  effect = grind (arith, common_steps);
  word = refl;
  frames = rw (← c.self.view_is) c.self.invariant.0;
}
