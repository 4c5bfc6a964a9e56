use Rattle.machine_tables.proofs.Prelude.{◌∙◌, least_free_frame, Create, into_frame}
use Rattle.machine_tables.proofs.tables.Tables.make_page.Goals as goal

pub returns-in-Some : goal.returns-in-Some
returns-in-Some g c = λ k. c.in-Some.ensures k (into_frame c.args.self.now.state.store.pages.core
    (least_free_frame c.args.self.now.state.store.pages.core) (λ f. Create f c.args.uid c.args.page c.args.reference))

pub returns-in-None : goal.returns-in-None
returns-in-None g c = λ k. c.make_in_free.ensures k
    ∙ c.in-None.ensures k (into_frame c.args.self.now.state.store.pages.core
    (least_free_frame c.args.self.now.state.store.pages.core) (λ f. Create f c.args.uid c.args.page c.args.reference))
