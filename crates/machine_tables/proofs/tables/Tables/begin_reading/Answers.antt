use Rattle.machine_tables.proofs.Prelude.{◌∙◌, least_free_frame, Start, into_frame}
use Rattle.machine_tables.proofs.tables.Tables.begin_reading.Goals as goal

pub returns-in-Some : goal.returns-in-Some
returns-in-Some g c = λ k. c.in-Some.ensures k (into_frame c.args.self.now.state.store.pages.core
    (least_free_frame c.args.self.now.state.store.pages.core) (λ f. Start f c.args.uid c.args.page))

pub returns-in-None : goal.returns-in-None
returns-in-None g c = λ k. c.start_in_free.ensures k
    ∙ c.in-None.ensures k (into_frame c.args.self.now.state.store.pages.core
    (least_free_frame c.args.self.now.state.store.pages.core) (λ f. Start f c.args.uid c.args.page))
