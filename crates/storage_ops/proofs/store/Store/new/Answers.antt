use Rattle.storage_ops.proofs.Prelude.{◌≡◌, ℕ, None, Some, true, false, length, is_some, replicate, refl, sym, ap, ◌∙◌, arith, length-replicate, length-map, Plan, ProcessPlan, uid_in_place, root_of, after_asked, Plain, plain, Control, AreFresh, Storage}
use Rattle.storage_ops.proofs.Laws.{blank, boot_is, entries_some, entry_first, none_active, none_known, nothing, records_most, root_gains, shown_nothing, store_nothing, HasNewHome, shown_new, store_new, length_inside}
use Rattle.storage_ops.proofs.store.Store.new.Goals.{In-Some, In_ok-segs}
use Rattle.storage_ops.proofs.store.Store.new.Goals as goal

-- the volumes of segment control are fresh
fresh_volumes : (g : _) (c : In_ok-segs g)
    → AreFresh c.args.script.now c.in_ok-segs.segs.pages.volumes.records c.in_ok-segs.segs.pages.volumes.vtocs
fresh_volumes g c = rw c.in_ok-segs.ensures c.requires.fresh

-- so the root has the first entry
first_entry : (g : _) (c : In-Some g)
    → AreFresh c.args.script.now c.in_ok-segs.segs.pages.volumes.records c.in_ok-segs.segs.pages.volumes.vtocs
    → c.in-Some.entry ≡ 0
first_entry g c fresh = entry_first (plain g.D.Drive.pages c.in_ok-segs.segs.pages) fresh.free fresh.unused
    c.in-Some.ensures.least

pub new_home-requires-clause-inactive : goal.new_home-requires-clause-inactive
new_home-requires-clause-inactive g c = record {
  nowhere = λ place e. none_active _ place
      (ap (λ (x : Control g.row.D.Denot). uid_in_place x.ast.entries place) (sym c.in_ok-segs.ensures) ∙ e);
}

pub unreachable-requires : goal.unreachable-requires
unreachable-requires g c =
    let fresh = fresh_volumes g (goal.at.unreachable-requires g c).In_ok-segs in
    let plan = c.processes-processes.ensures.plan in
    let some = entries_some c.args.script.now.volumes plan.volumes plan.some in
    let size = fresh.entries 0 in
    let clash : true ≡ false = sym (c.in_default.ensures.none 0 None (omega arith)) ∙ ap is_some (fresh.free 0 0) in cc

-- the root is the one new node
made : (g : _) (c : In-Some g) → c.in-Some.entry ≡ 0 → HasNewHome nothing c.in_ok-accounts.accounts
    (record (root_of c.args.script.now) { quota = c.quota.result }) c.in-Some.entry
    (plain g.D.Drive.pages c.in_ok-segs.segs.pages) (plain g.D.Drive.pages c.new_home.new.self.pages)
made g c zero = record {
  gains = root_gains c.args.script.now c.quota.result (cc (c.in_ok-accounts.ensures, zero));
  fresh = refl;
  home = c.in-Some.ensures.home;
  least = c.in-Some.ensures.least;
  uids = c.in-Some.ensures.uids;
  maps = c.new_home.ensures.maps;
  flags = ap (λ (x : Plain). x.records) c.in-Some.ensures.effect;
  count = c.in-Some.ensures.used;
}

pub invariant_of-result : goal.invariant_of-result
invariant_of-result g c =
    let at = goal.at.invariant_of-result g c in
    let fresh = fresh_volumes g at.In_ok-segs in
    let plan = c.processes-processes.ensures.plan in
    let old : Plain = plain g.D.Drive.pages c.in_ok-segs.segs.pages in
    let now : Plain = plain g.D.Drive.pages c.new_home.new.self.pages in
    let count : length c.in_ok-whos.whos.items ≡ length c.in_ok-segs.segs.links.known =
    ap length c.in_ok-whos.ensures ∙ length-map c.args.script.now.processes (λ (x : ProcessPlan). x.who)
    ∙ sym (length-replicate (length c.args.script.now.processes) (replicate 256 None))
    ∙ ap (λ (x : Control g.row.D.Denot). length x.links.known) (sym c.in_ok-segs.ensures) in
    let start = store_nothing old fresh.free fresh.unused c.in_ok-segs.segs.ast c.in_ok-segs.segs.links
    c.in_ok-whos.whos.items
    (λ place u e. none_active _ place (ap (λ (x : Control g.row.D.Denot). uid_in_place x.ast.entries place)
    (sym c.in_ok-segs.ensures) ∙ e)) (λ process number u e. none_known _ process number u (ap (λ
    (x : Control g.row.D.Denot). Rattle.known_segs.specs.Known.uid_of
    (Rattle.seg_control.specs.Control.kst_at x.links.known process) number) (sym c.in_ok-segs.ensures) ∙ e))
    count (λ v. rw (← fresh.records v) (records_most c.args.script.now.volumes v plan.volumes)) in
    rw c.new_home.ensures.ast (rw c.new_home.ensures.links (store_new (made g at.In-Some
    (first_entry g at.In-Some fresh)) (omega arith) (λ d. refl) start))

pub returns-clause-shown : goal.returns-clause-shown
returns-clause-shown g c =
    let at = goal.at.returns-clause-shown g c in
    let fresh = fresh_volumes g at.In_ok-segs in
    let p : Plan = c.args.script.now in
    let t : Storage g.row.D.Denot = record {
      accounts = nothing;
      segs = c.in_ok-segs.segs;
      whos = c.in_ok-whos.whos.items;
    } in
    let u = record t { accounts = c.in_ok-accounts.accounts; segs = c.new_home.new.self } in
    let known = ap (λ (x : Control g.row.D.Denot). x.links.known) c.in_ok-segs.ensures in
    rw (← boot_is p {quota = c.quota.result} c.quota.ensures)
    (shown_new {drive = g.D.Drive.pages} {p = p} {s = blank p} {t = t} {u = u} (made g at.In-Some
    (first_entry g at.In-Some fresh)) c.new_home.ensures.links refl c.new_home.ensures.words
    (λ v. length_inside c.in_ok-segs.segs.pages.volumes.vtocs 0 c.in-Some.entry v _ (ap (λ
    (x : Plain). x.vtocs) c.in-Some.ensures.effect)) c.look.ensures.kept
    (λ place e. none_active _ place {u = 1} (ap (λ (x : Control g.row.D.Denot). uid_in_place x.ast.entries place)
    (sym c.in_ok-segs.ensures) ∙ e))
    (shown_nothing {drive = g.D.Drive.pages} {p = p} {t = t} refl fresh known c.in_ok-whos.ensures))

pub returns-clause-accounts : goal.returns-clause-accounts
returns-clause-accounts g c = cc (c.in_ok-accounts.ensures, c.quota.ensures)

pub returns-clause-pages : goal.returns-clause-pages
returns-clause-pages g c =
    let at = goal.at.returns-clause-pages g c in
    let zero = first_entry g at.In-Some (fresh_volumes g at.In_ok-segs) in
    c.in-Some.ensures.effect
    ∙ ap (λ (e : ℕ). after_asked (plain g.D.Drive.pages c.in_ok-segs.segs.pages) 0 1 (Some e)) zero
    ∙ ap (λ (x : Control g.row.D.Denot). after_asked (plain g.D.Drive.pages x.pages) 0 1 (Some 0)) c.in_ok-segs.ensures

pub returns-clause-links : goal.returns-clause-links
returns-clause-links g c = c.new_home.ensures.links ∙ ap (λ (x : Control g.row.D.Denot). x.links) c.in_ok-segs.ensures

pub prove-unreachable-requires : goal.prove-unreachable-requires
prove-unreachable-requires g c =
    let at = goal.at.prove-unreachable-requires g c in
    c.if-prove.true (first_entry g at.In-Some (fresh_volumes g at.In_ok-segs))
