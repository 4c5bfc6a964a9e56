use Rattle.seg_control.proofs.Prelude.{MayReconnect, drop, reconnected, uid_at, ◌≡◌}
use Rattle.seg_control.proofs.segs.Segs.reconnect_all.Given as goal

abbrev pub invariant-loop-i : goal.invariant-loop-i
invariant-loop-i g l = record {
  all : reconnected l.self.links l.aste (drop l.i l.list) (drop l.i l.modes) l.pages
      ≡ reconnected l.fn.self.links l.aste l.list l.modes l.pages;
  rest : l.self ≡ record l.fn.self { links = l.self.links };
  may : MayReconnect l.self.links (uid_at l.fn.self.ast.entries l.aste) (drop l.i l.list);
}
