-- The pages of a segment that moves are copied from its old records to its new ones (own).
use Rattle.std.specs.Prelude.{◌≡◌, ◌≢◌, ◌⊎◌, ℕ, zero, suc, ◌+◌, ◌-◌, ◌<◌, ◌≤◌, Bool, false, not, ◌&&◌, if◌then◌else◌, List, [], Option, None, Some, Result, Ok, Err, is_some, length, map, sum_by, slice_get, slice_index_or, IfOk, OnOk, OnErr, true}
use Rattle.site_io.specs.Faults.{Rose}
use Rattle.volumes.specs.FailLine.{IsOneMore}
use Rattle.volumes.specs.Volumes.{Vols, faults_at, with_page}
use Rattle.seg_mover.specs.declared.Mover.{Mover}
use Rattle.seg_mover.specs.Homes.{map_at, place_at, words_filed, words_of}
use Rattle.seg_mover.specs.Moves.{number_or_zero}

-- whether page p is to be copied: it has a record, and isn't to be skipped
abbrev pub is_to_copy : List (Option ℕ) → List Bool → ℕ → Bool
is_to_copy places skip p = is_some (slice_index_or places p None) && not (slice_index_or skip p false)

-- the first of so many pages, from page p on, that is to be copied
unfoldable pub first_to_copy : List (Option ℕ) → List Bool → ℕ → ℕ → Option ℕ
first_to_copy places skip zero p = None
first_to_copy places skip (suc count) p =
    if is_to_copy places skip p then Some p else first_to_copy places skip count (p + 1)

-- the page that is copied next: the least of the 256 pages, from page `next` of the mover on, that is to be copied
abbrev pub page_to_copy : {D : Type 0} → Vols D → Mover → List Bool → Option ℕ
page_to_copy vols m skip = first_to_copy (map_at vols m.from) skip (256 - m.next) m.next

-- p is the least page from page n on that is to be copied
pub record IsLeastToCopy (places : List (Option ℕ)) (skip : List Bool) (n p : ℕ) : Type 0 where
  pub late : n ≤ p
  pub within : p < 256
  pub wanted : is_to_copy places skip p ≡ true
  pub before : (q : ℕ) → n ≤ q → q < p → is_to_copy places skip q ≡ false

-- what the drives hold after page p was copied: its new record has the words of its old one
abbrev pub copied : {D : Type 0} → List (List (List ℕ)) → Vols D → Mover → ℕ → List (List (List ℕ))
copied disks vols m p =
    with_page disks m.to.0 (number_or_zero (place_at vols m.to p))
    (words_filed (slice_index_or disks m.from.0 []) (place_at vols m.from p))

-- ---- by the page that is copied next, if there is one, and how the call ended

-- what the drives hold
abbrev pub after_copy : {D T E : Type 0} → List (List (List ℕ)) → Vols D → Mover → Option ℕ → Result T E
    → List (List (List ℕ))
after_copy disks vols m None result = disks
after_copy disks vols m (Some p) (Ok x) = copied disks vols m p
after_copy disks vols m (Some p) (Err e) = disks

-- the mover, which goes on past the page that was copied
abbrev pub moved_on : {T E : Type 0} → Mover → Option ℕ → Result T E → Mover
moved_on m None result = m
moved_on m (Some p) (Ok x) = record m { next = p + 1 }
moved_on m (Some p) (Err e) = m

-- The volumes held `disks` and hold `now`, and the mover was `old` and is `new`, after a call that looked for the next
-- page to copy.
pub record HasCopied {D E : Type 0} (disks now : List (List (List ℕ))) (vols : Vols D) (old new : Mover)
    (page : Option ℕ) (result : Result Bool E) : Type 0 where
  pub answer : IfOk result (λ some. some ≡ is_some page)
  pub mover : new ≡ moved_on old page result
  pub pages : now ≡ after_copy disks vols old page result

-- each page before page `next` of the mover that is to be copied has the same words at both homes
pub record AreCopied {D : Type 0} (pages : D → List (List ℕ)) (vols : Vols D) (m : Mover) (skip : List Bool) :
    Type 0 where
  pub words : (p : ℕ) → p < m.next → is_to_copy (map_at vols m.from) skip p ≡ true → words_of pages vols m.to p
      ≡ words_of pages vols m.from p

-- ---- what a copy keeps of the drives

-- the drive of volume v counted one failure more, and every other count of `faults` is as before
pub record FailedAt {D : Type 0} (faults : D → ℕ) (old new : List D) (v : ℕ) : Type 0 where
  pub once : IsOneMore (faults_at faults old v) (faults_at faults new v)
  pub rose : Rose (faults_at faults old v) (faults_at faults new v)
  pub others : (w : ℕ) → w ≢ v → faults_at faults new w ≡ faults_at faults old w

-- Every drive but those of volumes v and w is as before, and so are the plans and the places of all. Where the copy was
-- done no count of failures changed, and where it failed just one of the two drives counted one more.
pub record CallsDrives {D Plan T E : Type 0} (plan : D → Plan) (places faults : D → ℕ) (old new : List D) (v w : ℕ)
    (result : Result T E) : Type 0 where
  pub plans : map plan new ≡ map plan old
  pub stores : map places new ≡ map places old
  pub count : length new ≡ length old
  pub others : (u : ℕ) → u ≢ v → u ≢ w → slice_get new u ≡ slice_get old u
  pub grows : sum_by faults old ≤ sum_by faults new
  pub told : OnOk result (map faults new ≡ map faults old)
  pub failed : OnErr result ((FailedAt faults old new v) ⊎ (FailedAt faults old new w))
  pub rose : OnErr result (Rose (sum_by faults old) (sum_by faults new))
