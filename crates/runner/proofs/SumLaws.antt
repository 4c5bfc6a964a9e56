-- The summary of a machine, by its own counts.
use Rattle.runner.proofs.Prelude.{◌≡◌, List, ◌++◌, ap, Plan, Entry, store_after, Summary, body_of, listing_of, summary_of, summary_text}

-- the listing that ends with the summary of the store after a book
pub listed_by : (p : Plan) (entries : List Entry) (s : Summary) → s ≡ summary_of p (store_after p entries)
    → body_of p.print p entries ++ summary_text s ≡ listing_of p entries
unfolding listing_of
listed_by p entries s is = ap (λ (x : Summary). body_of p.print p entries ++ summary_text x) is
