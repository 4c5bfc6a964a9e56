use Rattle.machine_tables.proofs.Prelude.{◌≡◌, ℕ, Some, refl, ap, subst, sym, ◌∙◌, ◌/◌, ◌%◌, uid_of, kst_at, flat_of, State, Storage, with_created, with_store, Parts, shown, with_state}
use Rattle.machine_tables.proofs.Laws.{created_is, made_surely, stays, inside_shows, stored_is}
use Rattle.machine_tables.proofs.tables.Tables.make.Goals as goal

pub create-made-requires-clause-room : goal.create-made-requires-clause-room
create-made-requires-clause-room g c = λ uid known.
    let s : State = c.args.self.now.state in
    let inner : shown g.D.Drive.pages c.self.inside.store ≡ s.store =
    ap (λ (t : Parts g.row.D.Denot). t.state.store) c.self.view_is in
    stays g.D.Drive.pages s c.self.inside.store c.args.process c.args.f c.args.reference.now uid
    (inside_shows g.D.Drive.pages c.args.self.now c.self.inside.store (flat_of s) inner c.requires.makeable.faithful)
    c.look.ensures.store c.look.ensures.parts c.requires.makeable
    (ap (λ (st : Storage). uid_of (kst_at st.links.known c.args.process) c.args.reference.now.number) (sym inner)
    ∙ known)

pub unreachable-requires : goal.unreachable-requires
unreachable-requires g c =
    let s : State = c.args.self.now.state in
    let inner : shown g.D.Drive.pages c.self.inside.store ≡ s.store =
    ap (λ (t : Parts g.row.D.Denot). t.state.store) c.self.view_is in
    let done = made_surely g.D.Drive.pages c.self.inside.store s.store c.args.process c.args.f c.args.reference.now
    s.plan (flat_of s) c.create-made.result inner c.requires.makeable.place c.requires.makeable.faithful
    c.requires.makeable.room c.create-made.ensures.answer in
    let no = sym c.in-Err.is ∙ done in cc

pub returns-clause-made : goal.returns-clause-made
returns-clause-made g c = λ uid known.
    let s : State = c.args.self.now.state in
    let p : ℕ = c.args.reference.now.offset / 1024 in
    let at : ℕ = c.args.reference.now.offset % 1024 in
    let inner : shown g.D.Drive.pages c.self.inside.store ≡ s.store =
    ap (λ (t : Parts g.row.D.Denot). t.state.store) c.self.view_is in
    let made = c.in-Ok.ensures.made uid (subst (λ (st : Storage). uid_of (kst_at st.links.known c.args.process)
    c.args.reference.now.number ≡ Some uid) (sym inner) known) in
    stored_is g.D.Drive.pages g.D.Drive.faults _ c.args.self.now c.self.inside.store c.create-made.new.self
    (λ st. with_created st c.args.f uid p at c.new_word-word.result) c.self.view_is refl
    (created_is g.D.Drive.pages c.self.inside.store c.create-made.new.self uid p c.args.f at c.new_word-word.result
    c.look.ensures.columns c.accounts.ensures.columns made) made.drives
    ∙ ap (λ (w : ℕ). with_state c.args.self.now (with_store s (with_created s.store c.args.f uid p at w)))
    c.new_word-word.ensures
