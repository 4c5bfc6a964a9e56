-- What a run of a script leaves (own).
use Rattle.std.specs.Prelude.{◌≡◌, [], map, sum_by}
use Rattle.script.specs.Plans.{Plan}
use Rattle.custody_model.specs.Clean.{IsClean, custody_after}
use Rattle.flat_model.specs.Legal.{IsComplete, IsLegal, IsSettled, store_after}
use Rattle.bulk_store.specs.AnyDrive.{any_pages}
use Rattle.bulk_store.specs.declared.any_drive.AnyDrive.{AnyDrive}
use Rattle.machine_model.specs.Boot.{first_state, first_store}
use Rattle.machine_tables.specs.Parts.{Parts, first_words}
use Rattle.machine.specs.OnDisk.{IsOnDisk}
use Rattle.machine.specs.Shut.{AreToldBack}
use Rattle.runner.specs.Drives.{AreDrivesOf, AreTold, TellsFaults, faults_in}

-- a machine over drives in core
abbrev pub Machine : Type 0
Machine = Parts AnyDrive

-- its volumes hold the flat store after its book, but for the words of the pages that are in frames
abbrev pub HoldsStore : Machine → Type 0
HoldsStore m = IsOnDisk (map any_pages m.drives) m.state.store.pages.records m.state.store.pages.vtocs
    (store_after m.state.plan m.state.entries) (custody_after m.state.plan m.state.entries)

-- the machine of a script before its first step, over the drives of its volumes: the root alone, every frame free, and
-- nothing in its book
pub record IsBooted (p : Plan) (m : Machine) : Type 0 where
  pub entries : m.state.entries ≡ []
  pub state : m.state ≡ first_state p (first_store p (first_words p.frames) (map any_pages m.drives)) m.state.spare
      (sum_by faults_in m.drives)
  pub drives : AreTold p m.drives

-- What holds of the machine of a run from its boot on: its book is legal and clean, its drives are those of the
-- script's volumes, and its book tells exactly of their failures.
pub record IsRun (m : Machine) : Type 0 where
  pub legal : IsLegal m.state.plan m.state.entries
  pub clean : IsClean m.state.plan m.state.entries
  pub drives : AreDrivesOf m.state.plan m.drives
  pub faults : TellsFaults m.state.plan m.state.entries m.drives

-- each of its frames was visited: no stored page is all zeros, quotas are conserved and no account is over its quota;
-- and a page is in a frame only where the book tells why
pub record HasEmptied (m : Machine) : Type 0 where
  pub settled : IsSettled m.state.plan (store_after m.state.plan m.state.entries)
  pub told : AreToldBack m.state.plan m.state.entries

-- What holds once it is shut down besides: each process has had all its commands answered; quotas are conserved, no
-- account is over its quota and no stored page is all zeros; the volumes hold the store; and a page is in a frame still
-- only where the book tells that a drive failed, and right after it that the page is back.
pub record IsShutDown (m : Machine) : Type 0 where
  pub complete : IsComplete m.state.plan m.state.entries
  pub settled : IsSettled m.state.plan (store_after m.state.plan m.state.entries)
  pub disk : HoldsStore m
  pub told : AreToldBack m.state.plan m.state.entries
