use Rattle.storage_ops.proofs.Prelude.{◌≡◌, ◌≤◌, ◌-◌, Plan, without_pages, Flat, between, Unstores, CountsOthers, paged, pages_cut, pages_from, Shows, home_of, pages_in}
use Rattle.storage_ops.proofs.store.Store.drop_from.Given as goal

-- the pages before the next one are stored no more
abbrev pub invariant-loop-page : goal.invariant-loop-page
invariant-loop-page g l = ((p : Plan) (s : Flat) → Shows g.D.Drive.pages p s l.fn.self
    → Shows g.D.Drive.pages p (without_pages s l.fn.uid (between l.fn.from l.page)) l.self) ×
    (Unstores l.fn.self l.self l.fn.uid (between l.fn.from l.page)) × (l.fn.from ≤ l.page) ×
    (paged g.D.Drive.pages l.self l.fn.uid ≡ pages_cut (paged g.D.Drive.pages l.fn.self l.fn.uid)
    (home_of l.fn.self.accounts l.fn.uid) l.fn.uid (pages_from l.fn.from l.page)) ×
    (CountsOthers l.fn.self.accounts l.self.accounts l.fn.uid) ×
    (l.page - l.fn.from ≤ pages_in l.fn.self.accounts.nodes l.fn.uid - l.fn.from)
