use Rattle.storage_ops.proofs.Prelude.{rules, ◌≡◌, true, false, List, refl, sym, ap, ◌∙◌, Some, eq-eqb, Node, volume_in, node_in, is_out_of_room, is_used_up, is_volume_full, Home, is_full, size, taken, move_target, Shows, Storage, volume_found, Plan, Flat, has_segment, found_uid}
use Rattle.storage_ops.proofs.Laws.{active_held, held, home_held, length_held, shown_held, word_held, node_segment, word_within, shown_made, store_made, none_roomy, room_shown, all_taken, full_told, no_quota, no_record, on_ok, room, used_told}
use Rattle.storage_ops.proofs.store.Store.store_page.Goals.{After-is_full, After-look}
use Rattle.storage_ops.proofs.store.Store.store_page.Goals as goal

-- whether the volume of the node is full
full : (g : _) (c : After-is_full g) (p : Plan) (s : Flat) (n : Node)
    → Shows g.D.Drive.pages p s (held c.self.view_is) → node_in s.nodes c.args.uid ≡ Some n
    → is_volume_full p s n.volume ≡ c.is_full.result
full g c p s n shown found =
    let volume = volume_found s.nodes c.args.uid n found
    ∙ ap (λ (ns : List Node). volume_in ns c.args.uid) shown.tree.nodes ∙ ap (λ (x : Home). x.volume)
    (sym (home_held c.self.view_is c.args.uid c.home-home.ensures.home)) in
    cc (full_told g.D.Drive.pages p s (held c.self.view_is) c.home-home.result.volume c.self.invariant shown)

-- an active segment is no directory
segment : (g : _) (c : After-look g) → has_segment c.self.inside.accounts.nodes c.args.uid ≡ true
segment g c = node_segment c.look.ensures.kept c.self.invariant (active_held c.self.view_is c.requires.active)
    c.args.page (length_held c.self.view_is c.args.uid c.args.page c.requires.page)

pub full_reply-requires : goal.full_reply-requires
full_reply-requires g c = segment g (goal.at.full_reply-requires g c).After-look

pub charge-requires : goal.charge-requires
charge-requires g c = segment g (goal.at.charge-requires g c).After-look

pub returns-then-is_full-clause-answer : goal.returns-then-is_full-clause-answer
returns-then-is_full-clause-answer g c = λ p s n h found.
    let t = held c.self.view_is in
    let shown = shown_held c.self.view_is h in
    let uid = found_uid s.nodes c.args.uid n found in
    let used_up : is_full t.segs.pages.volumes.records (volume_in t.accounts.nodes c.args.uid) ≡ true
    = rw (home_held c.self.view_is c.args.uid c.home-home.ensures.home) at
    (ap (λ (x : Storage g.row.D.Denot). is_full x.segs.pages.volumes.records c.home-home.result.volume) c.self.view_is
    ∙ sym c.is_full.ensures ∙ c.if-is_full.true) in
    cc (
      c.full_reply.ensures s shown.tree,
      no_record p s n (is_used_up s n.uid) (is_out_of_room p s n) refl refl (cc (
        full g (goal.at.returns-then-is_full-clause-answer g c).After-is_full p s n shown found,
        room_shown g.D.Drive.pages p s t shown c.self.invariant c.args.uid c.look.ensures.parts,
        none_roomy t c.args.uid used_up
            (ap (λ (x : Storage g.row.D.Denot). move_target x c.args.uid) c.self.view_is ∙ c.requires.room),
      )),
    )

pub returns-then-is_err-clause-answer : goal.returns-then-is_err-clause-answer
returns-then-is_err-clause-answer g c = λ p s n h found.
    let uid = found_uid s.nodes c.args.uid n found in
    no_quota p s n (cc (used_told c.args.uid (shown_held c.self.view_is h).tree c.charge.ensures.answer))

pub create_page-requires-clause-page : goal.create_page-requires-clause-page
create_page-requires-clause-page g c = word_within c.look.ensures.kept c.self.invariant
    (active_held c.self.view_is c.requires.active) c.args.page
    (length_held c.self.view_is c.args.uid c.args.page c.requires.page)

pub unreachable-requires : goal.unreachable-requires
unreachable-requires g c =
    let t = held c.self.view_is in
    let same : taken t.segs.pages.volumes.records c.home-home.result.volume
    ≡ size t.segs.pages.volumes.records c.home-home.result.volume = all_taken _ (c.in-Err.ensures.full.0 refl) in
    let clash : true ≡ false = cc ((eq-eqb _ _ same), c.self.view_is, c.is_full.ensures, c.if-is_full.false) in
    cc

pub invariant_of-self-2 : goal.invariant_of-self-2
invariant_of-self-2 g c =
    let lt = length_held c.self.view_is c.args.uid c.args.page c.requires.page in
    let null = word_held c.self.view_is c.args.uid c.args.page ∙ c.requires.null in
    let home = home_held c.self.view_is c.args.uid c.home-home.ensures.home in
    rw c.create_page.ensures.links (store_made c.args.f c.args.at c.args.w c.look.ensures.kept c.self.invariant
    (active_held c.self.view_is c.requires.active) home null c.create_page.ensures.counts lt c.in-Ok.ensures.effect
    c.in-Ok.ensures.word c.in-Ok.ensures.stored
    c.in-Ok.ensures.taken (on_ok c.charge.result c.if-is_err.ensures.value c.charge.ensures.ok))

pub returns : goal.returns
returns g c =
    let t = held c.self.view_is in
    let null = word_held c.self.view_is c.args.uid c.args.page ∙ c.requires.null in
    let home = home_held c.self.view_is c.args.uid c.home-home.ensures.home in
    let charged = on_ok c.charge.result c.if-is_err.ensures.value c.charge.ensures.ok in
    rw (← c.self.view_is) (record {
      answer = λ p s n h found.
          let uid = found_uid s.nodes c.args.uid n found in
          room p s n (cc (used_told c.args.uid h.tree c.charge.ensures.answer))
          (cc (full g (goal.at.returns g c).After-is_full p s n h found));
      made = record {
        pages = cc (c.in-Ok.ensures.effect, home);
        word = c.in-Ok.ensures.word;
        words = rw (← home) c.in-Ok.ensures.words;
        stored = rw (← home) c.in-Ok.ensures.stored;
        taken_more = cc (c.in-Ok.ensures.taken, home);
        bound = c.in-Ok.ensures.bound;
        reads = c.create_page.ensures.reads;
        counts = c.create_page.ensures.counts;
        drives = c.create_page.ensures.drives;
        charged = charged;
        links = c.create_page.ensures.links;
        moving = c.create_page.ensures.moving;
        whos = refl;
      };
      shown = λ p s h. shown_made c.args.w c.look.ensures.kept c.self.invariant
          (active_held c.self.view_is c.requires.active) null c.requires.at charged refl c.create_page.ensures.links
          (rw (← home) c.in-Ok.ensures.stored) (rw (← home) c.in-Ok.ensures.words) c.create_page.ensures.counts h;
      err = search rules;
    })
