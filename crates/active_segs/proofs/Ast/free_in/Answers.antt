use Rattle.active_segs.proofs.Prelude.{ActiveSegs, All, Bool, HasShape, IsFull, IsLeastFree, ap, is_some, rules, subst, true, true≢false, ◌+◌, ◌≡◌}
use Rattle.active_segs.proofs.AstLemmas.{free_within, full_since_marked, least_since_marked, marked_map, not_full, room_since_free, segs_of}
use Rattle.active_segs.proofs.Ast.free_in.Goals as goal

pub returns-in_err-offset-clause-full : goal.returns-in_err-offset-clause-full
returns-in_err-offset-clause-full c =
    let map = marked_map c.self.invariant.marked c.args.pool c.index.result.now c.requires c.index.ensures in
    let full : IsFull c.args.self.now c.args.pool = subst (λ (v : ActiveSegs). IsFull v c.args.pool) c.self.view_is
    (full_since_marked (segs_of c.self.inside.sizes c.self.inside.hands c.self.inside.entries.items
    c.self.inside.tables.items) c.self.inside.used.items c.args.pool c.requires c.self.invariant.marked
    (subst (All (λ (flag : Bool). flag ≡ true)) map c.in_err-offset.ensures.none)) in
    (λ h. full, λ h. ap is_some c.from_residual.ensures)

pub returns : goal.returns
returns c =
    let inside = c.self.invariant in
    let map = marked_map inside.marked c.args.pool c.index.result.now c.requires c.index.ensures in
    let least = subst (λ (v : ActiveSegs). IsLeastFree v c.args.pool (c.first_of.result + c.in_ok-offset.offset))
    c.self.view_is (rw c.first_of.ensures.first (least_since_marked (segs_of c.self.inside.sizes
    c.self.inside.hands c.self.inside.entries.items c.self.inside.tables.items) c.self.inside.used.items
    c.args.pool c.in_ok-offset.offset c.requires inside.marked (rw map at c.in_ok-offset.ensures.some))) in
    let shape : HasShape c.args.self.now = rw (← c.self.view_is) assumption in
    record {
      least = least;
      within = free_within _ c.args.pool _ shape c.requires least;
      room = room_since_free _ c.args.pool _ shape c.requires least;
      full = (λ h. absurd (true≢false h), λ full. absurd (not_full _ c.args.pool _ least full));
      tree = search rules;
      shape = shape;
    }
