pub use Rattle.volumes.proofs.Prelude.{All-get_or, All-push, All-set, Bool, Entry, Err, FailLine, Failed, HasFewFaults, HasParts, HaveFewFaults, HaveFull, HaveFullPages, IfNone, IfSome, IsOneMore, KeepsOthers, List, None, Ok, OnErr, OnOk, Option, Part, Result, Rose, Some, Vols, [], ap, arith, common_steps, false, get_or, get_or-le-sum_by, get_or-map, get_or-set_same, length, length-map, length-replicate, length-set, map, map-append, map-set, refl, replicate, set, set-get_or, slice_get, suc, sum_by, sum_by-set, sym, true, zero, ℕ, ◌++◌, ◌<◌, ◌^◌, ◌∙◌, ◌∷◌, ◌≡◌, ◌≢◌, ◌≤◌}

-- a write of what is there already
set_same : {X : Type 0} {xs : List X} (v : ℕ) {x : X} → x ≡ get_or xs v x → set xs v x ≡ xs
set_same {xs} v {x} read = ap (set xs v) read ∙ set-get_or xs v x

-- the lengths are as before where the new element has the length of the old one
lengths_with : {X : Type 0} (xs : List (List X)) (v : ℕ) {x : List X} (y : List X) → x ≡ get_or xs v x
    → length y ≡ length x → map length (set xs v y) ≡ map length xs
lengths_with xs v {x} y read long =
    map-set length xs v y ∙ ap (set (map length xs) v) long ∙ sym (map-set length xs v x)
    ∙ ap (map length) (set_same v read)

pub parts_with_records : {disks : List (List (List ℕ))} {records : List (List Bool)}
    {vtocs : List (List (Option Entry))} (v : ℕ) {x : List Bool} (y : List Bool) → HasParts disks records vtocs
    → x ≡ get_or records v x → length y ≡ length x → HasParts disks (set records v y) vtocs
parts_with_records {records} v {x} y h read long = assumption (lengths_with records v y read long ∙ h.sizes)

pub parts_with_drive : {D : Type 0} (pages : D → List (List ℕ)) (drives : List D) {records : List (List Bool)}
    {vtocs : List (List (Option Entry))} (v : ℕ) {x : D} (y : D) → HasParts (map pages drives) records vtocs
    → x ≡ get_or drives v x → length (pages y) ≡ length (pages x) → HasParts (map pages (set drives v y)) records vtocs
parts_with_drive pages drives v {x} y h read long =
    let count = length-map (set drives v y) pages ∙ length-set drives v y ∙ sym (length-map drives pages) in
    record {
      few = rw count h.few;
      sizes = h.sizes ∙ sym (ap (map length) (map-set pages drives v y) ∙ map-set length (map pages drives) v (pages y)
          ∙ ap (set (map length (map pages drives)) v) long ∙ sym (map-set length (map pages drives) v (pages x))
          ∙ ap (map length) (sym (map-set pages drives v x) ∙ ap (map pages) (set_same v read)));
      tables = h.tables ∙ sym count;
    }

-- the length of what a call changed
pub length_after_withdraw : (result : Option ℕ) (x y : List Bool) → IfSome result (λ r. y ≡ set x r true)
    → IfNone result (y ≡ x) → length y ≡ length x
length_after_withdraw None x y some none = ap length none
length_after_withdraw (Some r) x y some none = ap length some ∙ length-set x r true

pub length_after_write : (result : Result (Unit {0}) Failed) (x y : List (List ℕ)) (r : ℕ) (words : List ℕ)
    → OnOk result (y ≡ set x r words) → OnErr result (y ≡ x) → length y ≡ length x
length_after_write (Ok u) x y r words ok err = ap length ok ∙ length-set x r words
length_after_write (Err e) x y r words ok err = ap length err

-- the drives but one are as before
get_other : {D : Type 0} (drives : List D) (v w : ℕ) (y : D) → w ≢ v → slice_get (set drives v y) w ≡ slice_get drives w
get_other [] v w y ne = refl
get_other (x ∷ drives) zero zero y ne = absurd (ne refl)
get_other (x ∷ drives) zero (suc w) y ne = refl
get_other (x ∷ drives) (suc v) zero y ne = refl
get_other (x ∷ drives) (suc v) (suc w) y ne = get_other drives v w y (λ e. ne (ap suc e))

pub keeps_others : {D : Type 0} (drives : List D) (v : ℕ) (y : D) → KeepsOthers drives (set drives v y) v
keeps_others drives v y = record { same = λ w ne. get_other drives v w y ne }

-- a volume has as many flags as its drive has pages
pub size_of_records : {D : Type 0} (pages : D → List (List ℕ)) (drives : List D) {records : List (List Bool)}
    {vtocs : List (List (Option Entry))} (v : ℕ) {x : D} → HasParts (map pages drives) records vtocs
    → v < length drives → x ≡ get_or drives v x → length (pages x) ≡ length (get_or records v [])
size_of_records pages drives {records} v {x} h lt read =
    let many : length records ≡ length drives = sym (length-map records length) ∙ ap length h.sizes
    ∙ length-map (map pages drives) length ∙ length-map drives pages in
    let there : v < length records = omega (arith, many) in
    ap (λ (d : _). length (pages d)) read ∙ sym (ap length (get_or-map pages drives v x [] lt))
    ∙ sym (get_or-map length (map pages drives) v [] 0 (omega (arith, length-map drives pages)))
    ∙ ap (λ (ns : List ℕ). get_or ns v 0) (sym h.sizes) ∙ get_or-map length records v [] 0 there

-- volumes that were just made
sizes_made : {D : Type 0} (pages : D → List (List ℕ)) (parts : List (Part D))
    → map length (map (λ (part : Part D). replicate (length (pages part.drive)) false) parts) ≡ map length
    (map pages (map (λ (part : Part D). part.drive) parts))
sizes_made pages [] = refl
sizes_made pages (part ∷ parts) = rw (length-replicate (length (pages part.drive)) false, sizes_made pages parts) refl

pub parts_made : {D : Type 0} (pages : D → List (List ℕ)) (parts : List (Part D)) {drives : List D} {records : List
    (List Bool)} {vtocs : List (List (Option Entry))} → length parts < 2 ^ 32 → drives ≡ map (λ (part : Part D).
    part.drive) parts → records ≡ map (λ (part : Part D). replicate (length (pages part.drive)) false) parts
    → vtocs ≡ map (λ (part : Part D). replicate part.entries None) parts → HasParts (map pages drives) records vtocs
parts_made pages parts {drives} few ds rs vs =
    let count = length-map drives pages ∙ ap length ds ∙ length-map parts (λ (part : Part _). part.drive) in
    record {
      few = rw count few;
      sizes = rw (ds, rs) (sizes_made pages parts);
      tables = ap length vs ∙ length-map parts (λ (part : Part _). replicate part.entries None) ∙ sym count;
    }

-- one drive is written, and a meaning of it is as before
pub same_with : {D X : Type 0} (t : D → X) (drives : List D) (v : ℕ) (x y : D) → x ≡ get_or drives v x → t y ≡ t x
    → map t (set drives v y) ≡ map t drives
same_with t drives v x y read same = map-set t drives v y ∙ ap (set (map t drives) v) same ∙ sym (map-set t drives v x)
    ∙ ap (map t) (set_same v read)

-- its count of faults is higher, and so the sum of all
pub sum_grows : {D : Type 0} (t : D → ℕ) (drives : List D) (v : ℕ) (x y : D) → v < length drives → x
    ≡ get_or drives v x → t x ≤ t y → sum_by t drives ≤ sum_by t (set drives v y)
sum_grows t drives v x y lt read more = let same = ap t read in omega (arith, sum_by-set t drives v y x lt, same, more)

pub sum_rose : {D : Type 0} (t : D → ℕ) (result : Result (Unit {0}) Failed) (drives : List D) (v : ℕ) (x y : D)
    → v < length drives → x ≡ get_or drives v x
    → OnErr result (Rose (t x) (t y)) → OnErr result (Rose (sum_by t drives) (sum_by t (set drives v y)))
sum_rose t (Ok u) drives v x y lt read rose = tt
sum_rose t (Err e) drives v x y lt read rose =
    let same = ap t read in
    omega (arith, sum_by-set t drives v y x lt, same, get_or-le-sum_by t drives v x lt, rose)

-- what a failure says of the count of its drive, said of the counts of all drives
failed_count : {D : Type 0} (R : ℕ → ℕ → Type 0) (t : D → ℕ) (result : Result (Unit {0}) Failed) (drives : List D)
    (v : ℕ) {x : D} (y : D) → v < length drives → x ≡ get_or drives v x
    → OnErr result (R (t x) (t y)) → OnErr result (R (get_or (map t drives) v 0) (get_or (map t (set drives v y)) v 0))
failed_count R t (Ok u) drives v y lt read says = tt
failed_count R t (Err e) drives v {x} y lt read says =
    let now = get_or-map t (set drives v y) v y 0 (rw (length-set drives v y) lt)
    ∙ ap t (get_or-set_same drives v y y lt) in
    rw ((get_or-map t drives v x 0 lt ∙ sym (ap t read)), now) says

pub its_rose : {D : Type 0} (t : D → ℕ) (result : Result (Unit {0}) Failed) (drives : List D) (v : ℕ) (x y : D)
    → v < length drives → x ≡ get_or drives v x → OnErr result (Rose (t x) (t y))
    → OnErr result (Rose (get_or (map t drives) v 0) (get_or (map t (set drives v y)) v 0))
its_rose t result drives v x y lt read rose = failed_count Rose t result drives v y lt read rose

pub its_once : {D : Type 0} (t : D → ℕ) (result : Result (Unit {0}) Failed) (drives : List D) (v : ℕ) (x y : D)
    → v < length drives → x ≡ get_or drives v x → OnErr result (IsOneMore (t x) (t y))
    → OnErr result (IsOneMore (get_or (map t drives) v 0) (get_or (map t (set drives v y)) v 0))
its_once t result drives v x y lt read once = failed_count IsOneMore t result drives v y lt read once

-- a call that was done leaves the counts of all
pub told_with : {D : Type 0} (t : D → ℕ) (result : Result (Unit {0}) Failed) (drives : List D) (v : ℕ) (x y : D)
    → x ≡ get_or drives v x → OnOk result (t y ≡ t x) → OnOk result (map t (set drives v y) ≡ map t drives)
told_with t (Ok u) drives v x y read same = same_with t drives v x y read same
told_with t (Err e) drives v x y read same = tt

-- its place in the list
pub drives_within : {D : Type 0} (drives : List D) (records : List (List Bool)) (vtocs : List (List (Option Entry)))
    {vols : Vols D} (v : ℕ)
    → record { drives = drives; records = records; vtocs = vtocs } ≡ vols → v < length vols.drives → v < length drives
drives_within drives records vtocs v view lt = let same =
    ap (λ (vs : Vols _). length vs.drives) view in omega (arith, same, lt)

pub few_with : {D : Type 0} (plan : D → Option (List FailLine)) (faults : D → ℕ) (drives : List D) (v : ℕ) (y : D)
    → HaveFewFaults plan faults drives → HasFewFaults (plan y) (faults y) → HaveFewFaults plan faults (set drives v y)
few_with plan faults drives v y all few = All-set (λ d. HasFewFaults (plan d) (faults d)) drives v y few all

pub few_more : {D : Type 0} (plan : D → Option (List FailLine)) (faults : D → ℕ) (drives : List D) {now : List D}
    (d : D) → now ≡ drives ++ d ∷ [] → HaveFewFaults plan faults drives
    → HasFewFaults (plan d) (faults d) → HaveFewFaults plan faults now
few_more plan faults drives d is all few = rw is (All-push (λ d. HasFewFaults (plan d) (faults d)) drives d all few)

-- the pages of each drive are full
pub full_with : {D : Type 0} (pages : D → List (List ℕ)) (drives : List D) (v : ℕ) (y : D) → HaveFull pages drives
    → HaveFullPages (pages y) → HaveFull pages (set drives v y)
full_with pages drives v y all full = All-set (λ d. HaveFullPages (pages d)) drives v y full all

pub full_more : {D : Type 0} (pages : D → List (List ℕ)) (drives : List D) {now : List D} (d : D)
    → now ≡ drives ++ d ∷ [] → HaveFull pages drives → HaveFullPages (pages d) → HaveFull pages now
full_more pages drives d is all full = rw is (All-push (λ d. HaveFullPages (pages d)) drives d all full)

pub full_of_drive : {D : Type 0} (pages : D → List (List ℕ)) (drives : List D) (v : ℕ) {x : D} (y : D)
    → HaveFull pages drives → v < length drives → x ≡ get_or drives v x → pages y ≡ pages x → HaveFullPages (pages y)
full_of_drive pages drives v {x} y all lt read same =
    let old : HaveFullPages (pages (get_or drives v x)) = All-get_or (λ d. HaveFullPages (pages d)) drives v x lt all in
    rw (same, read) old

pub full_read : {D : Type 0} (pages : D → List (List ℕ)) (result : Result (Unit {0}) Failed) (drives : List D)
    (v : ℕ) (x : D) (r : ℕ) (words : List ℕ) → HaveFull pages drives → v < length drives → x ≡ get_or drives v x
    → r < length (pages x) → OnOk result (words ≡ get_or (pages x) r []) → OnOk result (length words ≡ 1024)
full_read pages (Err e) drives v x r words all lt read within is = tt
full_read pages (Ok u) drives v x r words all lt read within is =
    ap length is ∙ All-get_or (λ ws. length ws ≡ 1024) (pages x) r [] within
    (full_of_drive pages drives v x all lt read refl)

-- one more part is made
pub made_more : {X Y : Type 0} (f : X → Y) (xs : List X) (x : X) {ys now : List Y} {y : Y} → ys ≡ map f xs → now ≡ ys
    ++ y ∷ [] → y ≡ f x → now ≡ map f (xs ++ x ∷ [])
made_more f xs x all is one = rw (is, all, one) (sym (map-append f xs (x ∷ [])))
