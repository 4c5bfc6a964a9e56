use Rattle.storage_ops.proofs.Prelude.{nat_tests, ◌≡◌, ◌≤◌, ◌-◌, refl, sym, ap, ◌∙◌, arith, without_pages, all_between, between, more_between, none_between, word_of, is_here, Storage, home_of, is_there, pages_in, paged, pages_cut}
use Rattle.storage_ops.proofs.Laws.{active_held, held, shown_held, filed_there, active_there, blank_shown, past_unfiled, unfiled_unframed, word_filed, idle_still, active_still, home_still, unrecorded, unstores_both, unstores_none, unstores_past, unstores_same, cut_next, none_from, others_both}
use Rattle.storage_ops.proofs.store.Store.drop_from.Goals as goal

pub home-home-requires : goal.home-home-requires
home-home-requires g c = ap (λ (x : Storage g.row.D.Denot). is_there x.accounts.nodes c.args.uid) (sym c.self.view_is)
    ∙ active_there c.look.ensures.kept c.self.invariant (active_held c.self.view_is c.requires.active)

pub loop-page-init : goal.loop-page-init
loop-page-init g c =
    let t = held c.self.view_is in (
      λ p s h. rw (none_between s c.args.uid c.args.from (blank_shown c.look.ensures.kept c.self.invariant
          (shown_held c.self.view_is h))) h,
      unstores_same (λ q. grind (arith, nat_tests)) (unstores_none c.args.self.now c.args.uid),
      omega arith,
      ap (pages_cut (paged g.D.Drive.pages c.args.self.now c.args.uid) (home_of c.args.self.now.accounts c.args.uid)
          c.args.uid) (sym (none_from c.args.from)),
      λ s apart. refl,
      omega arith,
    )

pub unstore-requires-clause-may : goal.unstore-requires-clause-may
unstore-requires-clause-may g c = record {
  home = cc (home_still c.args.uid c.loop-page.invariant.1);
  active = active_still c.loop-page.invariant.1 c.requires.active;
  idle = idle_still c.loop-page.invariant.1.reads (c.requires.taken.idle c.loop-page.page c.loop-page.invariant.2);
}

pub unstore-requires-clause-taken : goal.unstore-requires-clause-taken
unstore-requires-clause-taken g c =
    ap is_here (c.loop-page.invariant.1.kept c.loop-page.page (grind (arith, nat_tests)))
    ∙ c.requires.taken.taken c.loop-page.page c.loop-page.invariant.2

pub loop-page-preserved : goal.loop-page-preserved
loop-page-preserved g c = (
  λ p s h. rw (← more_between s c.args.uid c.args.from c.loop-page.page c.loop-page.invariant.2)
      (c.unstore.ensures.shown p (without_pages s c.args.uid (between c.args.from c.loop-page.page))
      (c.loop-page.invariant.0 p s h)),
  unstores_same (λ q. (let le = c.loop-page.invariant.2 in grind (arith, nat_tests)))
      (unstores_both c.loop-page.invariant.1 c.unstore.ensures.rest),
  omega arith,
  cut_next (paged g.D.Drive.pages c.args.self.now c.args.uid) (home_of c.args.self.now.accounts c.args.uid) c.args.uid
      c.args.from c.loop-page.page c.loop-page.invariant.2 c.loop-page.invariant.3 (rw (← home_still c.args.uid
      c.loop-page.invariant.1) c.unstore.ensures.exact),
  others_both c.args.self.now.accounts c.loop-page.self.accounts c.unstore.new.self.accounts
      c.loop-page.invariant.4 c.unstore.ensures.others,
  (let size = ap (λ (x : Storage g.row.D.Denot). pages_in x.accounts.nodes c.args.uid) (sym c.self.view_is)
      ∙ sym c.pages_of-page-end.ensures in
      omega arith),
)

pub returns : goal.returns
returns g c =
    let t = held c.self.view_is in
    let active = active_held c.self.view_is c.requires.active in
    let past : pages_in t.accounts.nodes c.args.uid ≤ c.loop-page.page
    = (let size = sym c.pages_of-page-end.ensures in omega arith) in
    let there = active_there c.look.ensures.kept c.self.invariant active in
    let off = past_unfiled c.look.ensures.kept c.self.invariant active c.loop-page.page past in
    let done = rw (← c.self.view_is) at c.loop-page.invariant in
    rw (← c.self.view_is) (record {
      shown = λ p s h. rw (← all_between s c.args.uid c.args.from c.loop-page.page
          (blank_shown c.look.ensures.kept c.self.invariant h)
          (λ q on. (let lt = c.self.invariant.counted.inside c.args.uid q there
          (cc (filed_there t.accounts t.segs.pages.volumes.vtocs c.args.uid q there, h.pages.stored c.args.uid q)) in
          omega arith))) (done.0 p s h);
      rest = unstores_past c.args.from c.loop-page.page done.1 (λ q le. cc (unrecorded (word_of t.segs.ast c.args.uid q)
          (sym (word_filed c.look.ensures.kept c.self.invariant active q) ∙ off q le)))
          (λ q le. unfiled_unframed c.look.ensures.kept c.self.invariant c.args.uid q (off q le));
      exact = (let all : c.loop-page.page - c.args.from ≡ pages_in t.accounts.nodes c.args.uid - c.args.from
          = omega (arith, c.pages_of-page-end.ensures) in cc (done.3));
      others = done.4;
    })
