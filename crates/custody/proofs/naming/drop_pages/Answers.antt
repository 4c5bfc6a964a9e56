use Rattle.custody.proofs.Prelude.{rules, not, filter-from_retain, names_use, frame_at}
use Rattle.custody.proofs.naming.drop_pages.Goals as goal

pub returns : goal.returns
returns c = filter-from_retain _ (λ f. not (names_use c.args.what f (frame_at c.args.frames.now f))) _
    (λ x b f' y called. search rules) _ _ c.retain.ensures.filtered
