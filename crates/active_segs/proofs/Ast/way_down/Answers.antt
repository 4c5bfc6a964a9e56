use Rattle.active_segs.proofs.Prelude.{ActiveSegs, ap, rules, sym, ◌∙◌, ◌≡◌}
use Rattle.active_segs.proofs.AstLemmas.{is_victim, is_victim_of, victim_is_leaf, victim_off, victim_once, victim_within}
use Rattle.active_segs.proofs.Ast.way_down.Goals as goal

pub leaf_below-requires-clause-active : goal.leaf_below-requires-clause-active
leaf_below-requires-clause-active c =
    let same : c.args.self.now.entries ≡ c.deref.result.now = rw (← c.self.view_is) (sym c.deref.ensures.value) in
    rw same at c.found-found.ensures.active

pub returns : goal.returns
returns c =
    let same = c.deref.ensures.value ∙ ap (λ (v : ActiveSegs). v.entries) c.self.view_is in
    let first = c.found-found.ensures.first in
    let victim = is_victim c.args.self.now c.args.pool c.args.chain.now first
    (rw same at c.leaf_below.ensures.stands) in
    record {
      first = first;
      in_pool = search rules;
      is = is_victim_of c.args.self.now c.args.pool c.args.chain.now _ _ first (rw same at c.leaf_below.ensures.is);
      victim = victim;
      only = λ place other. victim_once other victim;
      within = victim_within _ _ _ c.leaf_below.result c.requires.superiors victim;
      leaf = victim_is_leaf _ _ _ c.leaf_below.result victim;
      off = victim_off c.requires.superiors victim;
    }
