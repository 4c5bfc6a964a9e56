use Rattle.storage_ops.proofs.Prelude.{rules, ◌≡◌, ℕ, Some, None, List, Option, sym, ap, ◌∙◌, arith, nat_le, without_pages, trailers_of, Entry, ActiveSegs, uid_in_place, Links, IsInactive, Storage, home_of, pages_in, from_first}
use Rattle.storage_ops.proofs.Laws.{held, branch_same, leaf_place, place_away, place_cut, place_idle, out_active, out_inactive, rest_both, rest_inactive, rest_none, rest_unstored, home_still, idle_still, put_out_exactly, place_found}
use Rattle.storage_ops.proofs.store.Store.make_inactive.Goals.{After-drop_from, In-Some}
use Rattle.storage_ops.proofs.store.Store.make_inactive.Goals as goal

-- the segment was in the place that was found, and its pages are dropped where it is
place : (g : _) (c : In-Some g) → uid_in_place c.self.inside.segs.ast.entries c.in-Some.place ≡ Some c.args.uid
place g c = cc (c.ast.ensures.ast, (c.search.ensures.only c.in-Some.place).0 c.in-Some.is)

entries : (g : _) (c : After-drop_from g) → c.drop_from.new.self.segs.ast.entries ≡ c.self.inside.segs.ast.entries
entries g c = c.drop_from.ensures.rest.places
    ∙ ap (λ (x : Storage g.row.D.Denot). x.segs.ast.entries) (sym c.self.view_is)

pub deactivate-requires : goal.deactivate-requires
deactivate-requires g c =
    let same = entries g (goal.at.deactivate-requires g c).After-drop_from in
    let at = place g (goal.at.deactivate-requires g c).In-Some in
    let now_at = ap (λ (e : List (Option Entry)). uid_in_place e c.in-Some.place) same ∙ at in
    let rest = rw (← c.self.view_is) at c.drop_from.ensures.rest in
    let needs = rw (← c.self.view_is) at c.requires in
    record {
      leaf = rw same (leaf_place c.self.inside.accounts c.self.inside.segs.ast c.in-Some.place c.args.uid
          c.self.invariant.active needs.empty at);
      away = place_away c.drop_from.new.self.segs.ast c.in-Some.place c.args.uid (rw same c.look.ensures.kept.tree.once)
          now_at (λ q. rest.gone q (from_first q));
      idle = place_idle c.drop_from.new.self.segs.pages.core c.drop_from.new.self.segs.ast.entries c.in-Some.place
          c.args.uid now_at (λ q. idle_still rest.reads (needs.ready.taken.idle q (omega arith)));
      cut = ap (λ (l : Links). trailers_of l.trailers c.in-Some.place) rest.links
          ∙ place_cut c.self.inside.segs.ast.entries c.self.inside.segs.links c.in-Some.place c.args.uid
          c.look.ensures.kept.linked.exact needs.ready.cut at;
      still = search rules;
      place = search rules;
    }

pub returns : goal.returns
returns g c =
    let t = held c.self.view_is in
    let at = place g (goal.at.returns g c).In-Some in
    let rest = rw (← c.self.view_is) at c.drop_from.ensures.rest in
    rw (← c.self.view_is) (record {
      shown = λ p s h. (
        without_pages s c.args.uid (λ q. nat_le 0 q),
        c.deactivate.ensures.shown p (without_pages s c.args.uid (λ q. nat_le 0 q))
            ((rw (← c.self.view_is) at c.drop_from.ensures.shown) p s h),
        branch_same s c.args.uid,
      );
      rest = rest_both (rest_unstored t c.drop_from.new.self c.args.uid (λ q. nat_le 0 q) rest)
          (rest_inactive c.in-Some.place c.deactivate.ensures.effect);
      out = out_active t c.drop_from.new.self c.deactivate.new.self c.in-Some.place c.args.uid
          c.look.ensures.kept.tree.once at rest c.deactivate.ensures.effect;
      active = λ active. put_out_exactly g.D.Drive.pages t c.drop_from.new.self c.deactivate.new.self c.args.uid
          c.in-Some.place (home_of t.accounts c.args.uid) (pages_in t.accounts.nodes c.args.uid)
          (rw (← c.self.view_is) at c.drop_from.ensures.exact) rest.places (place_found t.segs.ast.entries c.args.uid
          c.in-Some.place c.search.result active (λ n. (
            λ e. cc (c.ast.ensures.ast, (c.search.ensures.only n).0 e),
            λ e. (c.search.ensures.only n).1 (cc (c.ast.ensures.ast, e)),
          )) c.in-Some.is) c.deactivate.ensures.effect;
      still = λ inactive. absurd (inactive.nowhere c.in-Some.place at);
      home = ap (λ (x : Storage g.row.D.Denot). home_of x.accounts c.args.uid) c.deactivate.ensures.effect
          ∙ home_still c.args.uid rest;
      nodes = search rules;
      inactive = search rules;
    })

pub returns-in_default-clause-rest : goal.returns-in_default-clause-rest
returns-in_default-clause-rest g c = rest_none c.args.self.now

pub returns-in_default-clause-out : goal.returns-in_default-clause-out
returns-in_default-clause-out g c =
    let inactive : IsInactive c.self.inside.segs.ast.entries c.args.uid = record {
      nowhere = λ place at. (let clash : ◌≡◌ {A = Option ℕ} None (Some place) = sym c.in_default.is
          ∙ ((c.search.ensures.only place).1 (ap (λ (x : ActiveSegs). uid_in_place x.entries place) c.ast.ensures.ast
          ∙ at)) in cc);
    } in
    rw (← c.self.view_is) (out_inactive inactive (λ f q e.
    (let active = c.look.ensures.kept.paged.bound f c.args.uid q e in inactive.nowhere active.0 active.1)))

pub returns-in_default-clause-active : goal.returns-in_default-clause-active
returns-in_default-clause-active g c = λ active.
    let some = (c.search.ensures.only active.0).1 (cc (
      c.ast.ensures.ast,
      (ap (λ (x : Storage g.row.D.Denot). x.segs.ast.entries) c.self.view_is),
      active.1,
    )) in
    let clash = sym c.in_default.is ∙ some in cc
