use Rattle.seg_control.proofs.Cutting.{Control, ap, length, may_here, may_next, reconnect_end, reconnect_step, rules, sym, uid_at, ◌<◌, ◌∙◌, ◌≤◌}
use Rattle.seg_control.proofs.segs.Segs.reconnect_all.Goals as goal

pub connect_to-requires : goal.connect_to-requires
connect_to-requires g c =
    let lt : c.loop-i.i < length c.args.list.now = search rules in
    let may = may_here c.args.list.now c.loop-i.i lt c.loop-i.invariant.may in
    record {
      process = may.0;
      active = search rules;
      known = may.1
          ∙ ap (λ (s : Control g.row.D.Denot). uid_at s.ast.entries c.args.aste) (sym c.loop-i.invariant.rest);
      cut = may.2;
    }

pub loop-i-preserved : goal.loop-i-preserved
loop-i-preserved g c =
    let lt : c.loop-i.i < length c.args.list.now = search rules in
    let step = reconnect_step c.args.self.now c.loop-i.self c.connect_to.new.self c.args.aste c.loop-i.i c.args.pages
    c.args.list.now c.args.modes.now _ lt
    c.requires.modes c.loop-i.invariant.all c.loop-i.invariant.rest c.connect_to.ensures.effect in
    record {
      all = step.0;
      rest = step.1;
      may = may_next c.connect_to.new.self.links c.args.list.now c.loop-i.i lt c.loop-i.invariant.may
          (ap (λ (s : Control g.row.D.Denot). s.links.known) c.connect_to.ensures.effect) c.connect_to.ensures.others;
    }

pub returns : goal.returns
returns g c =
    let past : length c.args.list.now ≤ c.loop-i.i = search rules in
    record {
      effect = reconnect_end c.args.self.now c.loop-i.self c.args.aste c.loop-i.i c.args.pages c.args.list.now
          c.args.modes.now past c.loop-i.invariant.all c.loop-i.invariant.rest;
    }
