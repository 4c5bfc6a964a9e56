use Rattle.storage_ops.proofs.Prelude.{◌≡◌, refl, inl, true, plain, is_away, word_of}
use Rattle.storage_ops.proofs.Laws.{active_held, held, home_held, word_held, may_drop, unstores_one, MayDrop, drop_done, HasDropped, recount_other, shown_zeroed, store_dropped, dropped_exactly}
use Rattle.storage_ops.proofs.store.Store.drop_page.Goals.{After-credit, After-look}
use Rattle.storage_ops.proofs.store.Store.drop_page.Goals as goal

away : (g : _) (c : After-look g) → is_away (word_of c.self.inside.segs.ast c.args.uid c.args.page) ≡ true
away g c = cc (word_held c.self.view_is c.args.uid c.args.page)

-- what is true of the page before
may : (g : _) (c : After-look g) → MayDrop (plain g.D.Drive.pages c.self.inside.segs.pages)
    c.self.inside.segs.ast c.self.inside.accounts c.args.uid c.args.page
may g c = may_drop c.look.ensures.kept c.self.invariant (active_held c.self.view_is c.requires.may.active) (away g c)

-- and what was done to it
done : (g : _) (c : After-credit g) → HasDropped (plain g.D.Drive.pages c.self.inside.segs.pages)
    (plain g.D.Drive.pages c.drop_page.new.self.pages) c.self.inside.accounts c.credit.new.self c.args.uid c.args.page
done g c =
    let before = may g (goal.at.returns g c).After-look in
    drop_done _ (home_held c.self.view_is c.args.uid c.requires.may.home) before.there before.filed
    c.drop_page.ensures.effect c.drop_page.ensures.stored c.drop_page.ensures.counts c.credit.ensures

pub drop_page-requires-clause-page : goal.drop_page-requires-clause-page
drop_page-requires-clause-page g c = (may g (goal.at.drop_page-requires-clause-page g c).After-look).within

pub drop_page-requires-clause-home : goal.drop_page-requires-clause-home
drop_page-requires-clause-home g c = inl (rw (home_held c.self.view_is c.args.uid c.requires.may.home)
    (may g (goal.at.drop_page-requires-clause-home g c).After-look).home)

pub credit-requires-clause-segment : goal.credit-requires-clause-segment
credit-requires-clause-segment g c = (may g (goal.at.credit-requires-clause-segment g c).After-look).segment

pub credit-requires-clause-stored : goal.credit-requires-clause-stored
credit-requires-clause-stored g c = (may g (goal.at.credit-requires-clause-stored g c).After-look).some

pub invariant_of-self : goal.invariant_of-self
invariant_of-self g c =
    let old = plain g.D.Drive.pages c.self.inside.segs.pages in
    let now = plain g.D.Drive.pages c.drop_page.new.self.pages in
    rw c.drop_page.ensures.links (store_dropped (done g c) (may g (goal.at.invariant_of-self g c).After-look).some
    (cc (home_held c.self.view_is c.args.uid c.requires.may.home, c.drop_page.ensures.taken)) (cc) (cc)
    c.self.invariant)

pub returns : goal.returns
returns g c =
    let t = held c.self.view_is in
    let kept = (goal.at.returns g c).After-look in
    rw (← c.self.view_is) (record {
      rest = unstores_one g.D.Drive.pages c.args.home
          (active_held c.self.view_is c.requires.may.active) c.look.ensures.kept.places (may g kept)
          (away g kept) c.credit.ensures c.drop_page.ensures.word c.drop_page.ensures.effect c.drop_page.ensures.reads
          c.drop_page.ensures.links c.drop_page.ensures.moving refl c.drop_page.ensures.drives;
      shown = λ p s h. shown_zeroed (done g c) c.self.invariant.housed (cc) refl
          (rw (← home_held c.self.view_is c.args.uid c.requires.may.home) c.drop_page.ensures.words) h;
      exact = dropped_exactly g.D.Drive.pages t (record t { accounts = c.credit.new.self; segs = c.drop_page.new.self })
          c.args.page (home_held c.self.view_is c.args.uid c.requires.may.home) (away g kept) c.drop_page.ensures.effect
          c.drop_page.ensures.word c.credit.ensures;
      others = λ s apart. recount_other c.credit.ensures s apart;
    })
