use Rattle.std.specs.Prelude.{ℕ, ◌+◌, List, true, false, slice_set, replicate}
use Rattle.site_io.specs.Faults.{counted}
use Rattle.volumes.specs.declared.drive.FailLine.{FailLine}
use Rattle.volumes.specs.FailLine.{named_calls}

-- a drive in core: its pages, the lines that name the calls that fail, and its reads and writes so far (own)
pub record DriveState : Type 0 where
  pub pages : List (List ℕ)
  pub fails : List FailLine
  pub reads : ℕ
  pub writes : ℕ

-- a drive of as many pages of zeros, which no call has reached
abbrev pub fresh_drive : ℕ → List FailLine → DriveState
fresh_drive records fails = record {
  pages = replicate records (replicate 1024 0);
  fails = fails;
  reads = 0;
  writes =
      0;
}

-- the faults so far are the calls so far that the lines name
abbrev pub faults_of : DriveState → ℕ
faults_of d = named_calls d.fails false d.reads + named_calls d.fails true d.writes

-- the drive after one more read, and after one more write
abbrev pub after_read : DriveState → DriveState
after_read d = record d { reads = counted d.reads }

abbrev pub after_write : DriveState → DriveState
after_write d = record d { writes = counted d.writes }

-- the drive after one more write, which was done
abbrev pub after_done_write : DriveState → ℕ → List ℕ → DriveState
after_done_write d r words = record d { pages = slice_set d.pages r words; writes = counted d.writes }
