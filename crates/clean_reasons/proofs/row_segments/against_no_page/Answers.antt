use Rattle.clean_reasons.proofs.Prelude.{frame_at}
use Rattle.clean_reasons.proofs.FrameLaws.{no_pages}
use Rattle.clean_reasons.proofs.row_segments.against_no_page.Goals as goal

pub returns-in-None : goal.returns-in-None
returns-in-None c = λ f. no_pages (frame_at c.args.custody.now.frames f) c.args.uid (λ q. c.in_default.ensures.none f q)
    (λ q. c.in-None.ensures.none f q)
