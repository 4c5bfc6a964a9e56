use Rattle.listing.proofs.Prelude.{◌≡◌, ◌++◌, IfOk-weaker, body_of, listing_of, summary_text}
use Rattle.listing.proofs.CountLaws.{listing_whole}
use Rattle.listing.proofs.listing_text.Goals as goal

pub returns : goal.returns
returns c = IfOk-weaker c.listing_of_summary.result
    (λ text. text.items ≡ body_of c.args.book.now.script.print c.args.book.now.script c.args.book.now.entries
    ++ summary_text c.in_ok-summary.summary)
    (λ text. text.items ≡ listing_of c.args.book.now.script c.args.book.now.entries) (λ text made.
    listing_whole c.args.book.now.entries c.script.ensures
    c.in_ok-summary.ensures c.in_ok-store.ensures made) c.listing_of_summary.ensures
