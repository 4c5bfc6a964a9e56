use Rattle.machine_tables.proofs.Prelude.{◌∙◌, place_of, Action, look_to_take, with_cut_page, Storage, active_place}
use Rattle.machine_tables.proofs.tables.Tables.look_to_truncate.Goals as goal

pub returns-in-Some : goal.returns-in-Some
returns-in-Some g c =
    let st : Storage = c.args.self.now.state.store in
    c.in-Some.ensures.first c.args.process (with_cut_page st c.args.uid c.args.words
    (look_to_take st c.args.process c.args.uid c.args.command.now))

pub first_cut-requires-clause-active : goal.first_cut-requires-clause-active
first_cut-requires-clause-active g c =
    let st : Storage = c.args.self.now.state.store in
    (place_of st.ast.entries c.args.uid, (active_place st.ast c.args.uid c.in_default.ensures.whole).1)

pub returns-in-Some-first_cut : goal.returns-in-Some-first_cut
returns-in-Some-first_cut g c =
    let st : Storage = c.args.self.now.state.store in
    let take : Action = look_to_take st c.args.process c.args.uid c.args.command.now in
    c.in-Some-first_cut.ensures c.args.process take
    ∙ c.in_default.ensures.first c.args.process (with_cut_page st c.args.uid c.args.words take)

pub returns : goal.returns
returns g c =
    let st : Storage = c.args.self.now.state.store in
    let take : Action = look_to_take st c.args.process c.args.uid c.args.command.now in
    c.look_to_take.ensures ∙ c.in_default-first_cut.ensures c.args.process take
    ∙ c.in_default.ensures.first c.args.process (with_cut_page st c.args.uid c.args.words take)
