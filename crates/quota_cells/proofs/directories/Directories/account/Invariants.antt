use Rattle.quota_cells.proofs.Prelude.{◌≡◌, drop, account, quota_in}
use Rattle.quota_cells.proofs.directories.Directories.account.Given as goal

abbrev pub invariant-loop-directory : goal.invariant-loop-directory
invariant-loop-directory l = account (quota_in l.self) (drop l.directory-index l.up) ≡ account (quota_in l.self) l.up
