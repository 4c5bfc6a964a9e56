-- What each call of page control does (Bensoussan, Clingen and Daley 1972).
use Rattle.std.specs.Prelude.{◌≡◌, ◌⊎◌, ℕ, ◌-◌, List, [], ◌∷◌, ◌++◌, drop, Bool, true, false, if◌then◌else◌, Option, None, Some, Result, Ok, Err, replicate, take, slice_set}
use Rattle.bitmap.specs.Bitmap.{least_free}
use Rattle.core_map.specs.declared.Frame.{Frame}
use Rattle.core_map.specs.declared.Frame.TheVariants.{Free, Bound}
use Rattle.core_map.specs.CoreMap.{with_frame, after_reference, is_modified}
use Rattle.mword.specs.Words.{AreZero}
use Rattle.page_table.specs.declared.Ptw.{Ptw}
use Rattle.page_table.specs.declared.Ptw.TheVariants.{Null, Out, Here, Leaving}
use Rattle.vtoc.specs.Vtoc.{with_record, fresh_entry}
use Rattle.volumes.specs.Volumes.{with_page}
use Rattle.page_control.specs.declared.Home.{Home}
use Rattle.page_control.specs.declared.Left.{Left}
use Rattle.page_control.specs.declared.Left.TheVariants.{Released, Kept}
use Rattle.page_control.specs.Plain.{Plain, frame_in, words_in, flags_of, vtoc_of, words_on, entry_of, file_map_of, record_of, number_or_zero}

-- frame f becomes what is given
abbrev pub framed : Plain → ℕ → Frame → Plain
framed s f frame = record s { core = with_frame s.core f frame }

-- the words in frame f become these
abbrev pub worded : Plain → ℕ → List ℕ → Plain
worded s f words = record s { frames = slice_set s.frames f words }

-- a reference through frame f turns its used mark on, and one that writes its modified mark too
abbrev pub referred : Plain → ℕ → Bool → Plain
referred s f wrote = framed s f (after_reference (frame_in s f) wrote)

-- word `at` of frame f becomes w
abbrev pub word_put : Plain → ℕ → ℕ → ℕ → Plain
word_put s f at w = worded (referred s f true) f (slice_set (words_in s f) at w)

-- the words of frame f from `at` on become 0
abbrev pub cut : Plain → ℕ → ℕ → Plain
cut s f at = worded (referred s f true) f (take at (words_in s f) ++ replicate (1024 - at) 0)

-- the file map at a home names this record for page p, or none
abbrev pub refiled : Plain → Home → ℕ → Option ℕ → Plain
refiled s home p place = record s {
  vtocs = slice_set s.vtocs home.volume (slice_set (vtoc_of s home.volume) home.entry
      (with_record (entry_of s home) p place));
}

-- whether record r of volume v is in use becomes what is given
abbrev pub flagged : Plain → ℕ → ℕ → Bool → Plain
flagged s v r flag = record s { records = slice_set s.records v (slice_set (flags_of s v) r flag) }

-- page p at a home is stored no more: its record is given back
abbrev pub unstored : Plain → Home → ℕ → Plain
unstored s home p = refiled (flagged s home.volume (record_of s home p) false) home p None

-- the page is in frame f as record r of the volume has it
abbrev pub brought_in : Plain → ℕ → ℕ → ℕ → ℕ → ℕ → Plain
brought_in s uid p v r f = worded (framed s f (Bound uid p false false)) f (words_on s v r)

-- the drives after the page of frame f is written to record r of volume v, which is needed only where its modified mark
-- is on
abbrev pub saved : Plain → ℕ → ℕ → ℕ → Plain
saved s f v r = record s {
  disks = if is_modified (frame_in s f) then with_page s.disks v r (words_in s f)
      else s.disks;
}

-- the page in frame f is all zeros, or as its record has it
abbrev pub NeedsNoWrite : Plain → ℕ → Type 0
NeedsNoWrite s f = (AreZero (words_in s f)) ⊎ (is_modified (frame_in s f) ≡ false)

-- frame f is bound to page p of segment uid, written through it, and all zeros but word `at`, which is w
abbrev pub filled : Plain → ℕ → ℕ → ℕ → ℕ → ℕ → Plain
filled s uid p f at w = worded (framed s f (Bound uid p true true)) f (slice_set (replicate 1024 0) at w)

-- page p of segment uid, which had no record, is in frame f and on record r: all zeros but word `at`, which is w
abbrev pub created : Plain → ℕ → ℕ → Home → ℕ → ℕ → ℕ → ℕ → Plain
created s uid p home r f at w = filled (refiled (flagged s home.volume r true) home p (Some r)) uid p f at w

-- the record that the next page at a home gets: the least free one of its volume
abbrev pub next_record : Plain → Home → ℕ
next_record s home = number_or_zero (least_free (flags_of s home.volume))

-- page p at a home, which the word names, is stored no more and in no frame
abbrev pub dropped : Plain → Home → ℕ → Ptw → Plain
dropped s home p Null = unstored s home p
dropped s home p (Out r) = unstored s home p
dropped s home p (Here f) = unstored s home p
dropped s home p (Leaving f) = framed (unstored s home p) f Free

-- page p at a home has left frame f: it was all zeros and is stored no more, or it is on its record
abbrev pub evicted : Plain → Home → ℕ → ℕ → Left → Plain
evicted s home p f Released = framed (unstored s home p) f Free
evicted s home p f Kept = framed (saved s f home.volume (record_of s home p)) f Free

-- the word of a page that has left its frame, where r is its record
abbrev pub word_of_left : Left → ℕ → Ptw
word_of_left Released r = Null
word_of_left Kept r = Out r

-- ---- by how a call ended

-- page p at a home has left frame f, or nothing has changed
abbrev pub after_evict : {E : Type 0} → Plain → Home → ℕ → ℕ → Result Left E → Plain
after_evict s home p f (Ok left) = evicted s home p f left
after_evict s home p f (Err e) = s

-- its word, where r is its record
abbrev pub words_left : {E : Type 0} → List Ptw → ℕ → ℕ → Result Left E → List Ptw
words_left t p r (Ok left) = slice_set t p (word_of_left left r)
words_left t p r (Err e) = t

-- page p is in frame f as its record has it, or frame f is free
abbrev pub after_read : {T E : Type 0} → Plain → ℕ → ℕ → Home → ℕ → Result T E → Plain
after_read s uid p home f (Ok x) = brought_in s uid p home.volume (record_of s home p) f
after_read s uid p home f (Err e) = framed s f Free

-- page p is made in frame f, or nothing has changed
abbrev pub after_create : {T E : Type 0} → Plain → ℕ → ℕ → Home → ℕ → ℕ → ℕ → Result T E → Plain
after_create s uid p home f at w (Ok x) = created s uid p home (next_record s home) f at w
after_create s uid p home f at w (Err e) = s

-- the word of a page that is in frame f now, where the call didn't fail
abbrev pub words_here : {T E : Type 0} → List Ptw → ℕ → ℕ → Result T E → List Ptw
words_here t p f (Ok x) = slice_set t p (Here f)
words_here t p f (Err e) = t

-- entry e of volume v is taken for uid, with an empty file map
abbrev pub allocated : Plain → ℕ → ℕ → ℕ → Plain
allocated s v e uid = record s { vtocs = slice_set s.vtocs v (slice_set (vtoc_of s v) e (fresh_entry uid)) }

-- the same where an entry was found, and nothing where there is none
abbrev pub after_asked : Plain → ℕ → ℕ → Option ℕ → Plain
after_asked s v uid (Some e) = allocated s v e uid
after_asked s v uid None = s

-- the flags of a volume after the records that a file map names are given back
abbrev pub freed : List Bool → List (Option ℕ) → List Bool
freed flags [] = flags
freed flags (None ∷ places) = freed flags places
freed flags (Some r ∷ places) = freed (slice_set flags r false) places

-- each record that the file map at a home names is given back, and the entry is free
abbrev pub erased : Plain → Home → Plain
erased s home = record s {
  records = slice_set s.records home.volume (freed (flags_of s home.volume) (file_map_of s home));
  vtocs = slice_set s.vtocs home.volume (slice_set (vtoc_of s home.volume) home.entry None);
}

-- the same where only the pages from n on are looked at
abbrev pub erased_from : Plain → Home → ℕ → Plain
erased_from s home n = record s {
  records = slice_set s.records home.volume (freed (flags_of s home.volume) (drop n (file_map_of s home)));
  vtocs = slice_set s.vtocs home.volume (slice_set (vtoc_of s home.volume) home.entry None);
}
