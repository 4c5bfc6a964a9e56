use Rattle.machine_tables.proofs.Prelude.{◌≡◌, ◌∙◌, Some, ap, refl, rules, sym, command_at, frames_of_owner, next_command, run_at, effect_for, Parts, shown, IsApplicable}
use Rattle.machine_tables.proofs.Laws.{applied_drives, applied_left, applied_reply, applied_shown, applied_store, applies, ready_of, stored_is}
use Rattle.machine_tables.proofs.tables.Tables.apply.Goals as goal

pub take_effect-requires-clause-ready : goal.take_effect-requires-clause-ready
take_effect-requires-clause-ready g c =
    let at : command_at c.self.inside.book.script c.args.process (run_at c.self.inside.runs.items c.args.process).place
    ≡ Some c.in-Some.command.now = search rules in
    let same : next_command c.args.self.now.state c.args.process ≡ Some c.in-Some.command.now =
    sym (ap (λ (t : Parts g.row.D.Denot). next_command t.state c.args.process) c.self.view_is) ∙ at in
    ready_of g.D.Drive.pages c.self.inside.store c.args.process c.in-Some.command.now
    (rw (ap (λ (t : Parts g.row.D.Denot). t.state.store) c.self.view_is)
    (applies c.args.self.now c.args.process c.requires.1 same).ready_for)

pub returns : goal.returns
returns g c =
    let at : command_at c.self.inside.book.script c.args.process (run_at c.self.inside.runs.items c.args.process).place
    ≡ Some c.in-Some.command.now = search rules in
    let same : next_command c.args.self.now.state c.args.process ≡ Some c.in-Some.command.now =
    sym (ap (λ (t : Parts g.row.D.Denot). next_command t.state c.args.process) c.self.view_is) ∙ at in
    let may : IsApplicable c.args.self.now c.args.process c.in-Some.command.now =
    applies c.args.self.now c.args.process c.requires.1 same in
    let inner : shown g.D.Drive.pages c.self.inside.store ≡ c.args.self.now.state.store =
    ap (λ (t : Parts g.row.D.Denot). t.state.store) c.self.view_is in
    record {
      reply = applied_reply g.D.Drive.pages c.args.self.now c.self.inside.store _ c.args.process _ _ _ inner may
          c.take_effect.ensures;
      left = applied_left g.D.Drive.pages c.args.self.now c.self.inside.store _ c.args.process _ _ _ inner may
          c.take_effect.ensures;
      effect = stored_is g.D.Drive.pages g.D.Drive.faults _ c.args.self.now c.self.inside.store c.take_effect.new.store
          (λ st. effect_for st c.args.process (frames_of_owner c.args.self.now.state.owner)
          (next_command c.args.self.now.state c.args.process)) c.self.view_is refl
          (applied_store g.D.Drive.pages c.args.self.now c.self.inside.store _ c.args.process _ _ _ inner may
          c.take_effect.ensures)
          (applied_drives g.D.Drive.pages c.args.self.now c.self.inside.store _ c.args.process _ _ _ inner may
          c.take_effect.ensures);
      shown = applied_shown g.D.Drive.pages c.args.self.now c.self.inside.store _ c.args.process _ _ _ inner may
          c.take_effect.ensures;
    }
