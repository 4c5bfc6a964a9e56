-- Laws of the texts of how a run ended.
use Rattle.lab_runs.proofs.Prelude.{AccountCount, List, [], account_text, append-nil, flat_map, summary_text, ◌≡◌}

-- a summary without volumes
pub accounts_alone : (accounts : List AccountCount) → summary_text (record { accounts = accounts; volumes = [] })
    ≡ flat_map account_text accounts
unfolding summary_text
accounts_alone accounts = append-nil (flat_map account_text accounts)
