-- A segment that is being erased, page by page (own).
use Rattle.std.specs.Prelude.{◌≡◌, ℕ, ◌<◌, ◌+◌, Some, None, is_some, count_by}
use Rattle.page_control.specs.declared.Home.{Home}
use Rattle.page_control.specs.Plain.{Plain, filed}
use Rattle.page_control.specs.Effects.{erased, erased_from}
use Rattle.page_control.specs.Tied.{uid_at, map_at, AreFiled}
use Rattle.page_control.specs.Counts.{taken}

-- the pages before n of segment uid have given their records back since `old`
pub record IsPartErased (old now : Plain) (uid : ℕ) (home : Home) (n : ℕ) : Type 0 where
  pub rest : erased_from now home n ≡ erased old home
  pub gone : (p : ℕ) → p < n → filed now home p ≡ None
  pub at : uid_at now.vtocs home ≡ Some uid
  pub records : AreFiled now.records now.vtocs
  pub count : taken old.records home.volume + count_by is_some (map_at now.vtocs home)
      ≡ taken now.records home.volume + count_by is_some
      (map_at old.vtocs home)
