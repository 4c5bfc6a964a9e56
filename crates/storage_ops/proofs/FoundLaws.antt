-- What a tree command is found to be about.
use Rattle.storage_ops.proofs.Prelude.{◌≡◌, ℕ, List, refl, Ok, Node, branch_at, segment_at, node_at, branch_found, only_found, Leads}

pub leads_segment : {ns : List Node} {path : List (List ℕ)} {n : Node} → segment_at ns path ≡ Ok n → Leads ns path n.uid
leads_segment {ns} {path} {n} found =
    record { node = n; found = (only_found (node_at ns path) n found).0; uid_is = refl }

pub leads_branch : {ns : List Node} {path : List (List ℕ)} {n : Node} → branch_at ns path ≡ Ok n → Leads ns path n.uid
leads_branch {ns} {path} {n} found = record { node = n; found = (branch_found ns path n found).0; uid_is = refl }
