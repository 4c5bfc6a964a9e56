-- Volumes as they are made of a script's lines and their drives: nothing of them is in use.
use Rattle.machine.proofs.Prelude.{◌≡◌, ◌<◌, ℕ, zero, suc, false, List, ◌∷◌, ◌++◌, length, map, Option, Some, None, refl, sym, ap, ◌∙◌, arith, IfSome, slice_get, length-map, length-replicate, Plan, VolumeLine, entries_in, records_in, in_use, Part, Vols, made_of, size, flags_in, vtoc_in, AreFresh, none_some, parts_of, all_same, [], Vtoc_Entry as Entry, Vtoc_entry_at as entry_at}

-- there is one at each place
get_some : (lines : List VolumeLine) (place : ℕ) → place < length lines
    → (l : VolumeLine) × (slice_get lines place ≡ Some l)
get_some [] place lt = absurd (omega arith)
get_some (x ∷ xs) zero lt = (x, refl)
get_some (x ∷ xs) (suc place) lt = get_some xs place (omega arith)

pub parts_none : {D : Type 0} (lines : List VolumeLine) → parts_of {D = D} lines [] ≡ []
parts_none [] = refl
parts_none (v ∷ vs) = refl

-- one part more
pub parts_more : {D : Type 0} (lines : List VolumeLine) (ys : List D) (d : D) (l : VolumeLine)
    → slice_get lines (length ys) ≡ Some l
    → parts_of lines (ys ++ d ∷ []) ≡ parts_of lines ys ++ record { drive = d; entries = l.entries } ∷ []
parts_more [] ys d l e = cc
parts_more (v ∷ vs) [] d l e = (let same : v ≡ l = cc in by vs same)
  where
    by : (us : List VolumeLine) → v ≡ l → record { drive = d; entries = v.entries } ∷ parts_of us []
        ≡ record { drive = d; entries = l.entries } ∷ []
    by [] same = cc
    by (u ∷ us) same = cc
parts_more (v ∷ vs) (y ∷ ys) d l e = cc (parts_more vs ys d l e)

pub part_told : {D : Type 0} (lines : List VolumeLine) (ys : List D) (d : D) (x : Part D) (parts now : List (Part D))
    (place : ℕ) → parts ≡ parts_of lines ys → place ≡ length ys → place < length lines
    → IfSome (slice_get lines place) (λ line. x ≡ record { drive = d; entries = line.entries })
    → now ≡ parts ++ x ∷ [] → now ≡ parts_of lines (ys ++ d ∷ [])
part_told lines ys d x parts now place are at lt told is = by (slice_get lines place) refl told
  where
    by : (o : Option VolumeLine) → slice_get lines place ≡ o
        → IfSome o (λ line. x ≡ record { drive = d; entries = line.entries }) → now ≡ parts_of lines (ys ++ d ∷ [])
    by None e i = absurd (let past = get_some lines place lt in none_some (sym e ∙ past.1))
    by (Some l) e i = cc (parts_more lines ys d l (sym (ap (slice_get lines) at) ∙ e))

module _ {D : Type 0} (pages : D → List (List ℕ)) where
  abbrev of : List VolumeLine → List D → Vols D
  of lines ds = made_of pages (parts_of lines ds)

  pub drives_are : (lines : List VolumeLine) (ds : List D) → length ds ≡ length lines → (of lines ds).drives ≡ ds
  drives_are [] [] h = refl
  drives_are [] (d ∷ ds) h = absurd (omega arith)
  drives_are (v ∷ vs) [] h = absurd (omega arith)
  drives_are (v ∷ vs) (d ∷ ds) h = cc (drives_are vs ds (omega (arith, h)))

  abbrev HaveSizes : List VolumeLine → List D → Type 0
  HaveSizes lines ds = map (λ d. length (pages d)) ds ≡ map (λ v. v.records) lines

  pub as_many : (lines : List VolumeLine) (ds : List D) → HaveSizes lines ds → length ds ≡ length lines
  as_many lines ds h = grind (arith, length-map)

  head_is : {a b : ℕ} {xs ys : List ℕ} → a ∷ xs ≡ b ∷ ys → a ≡ b
  head_is h = cc

  tail_is : {a b : ℕ} {xs ys : List ℕ} → a ∷ xs ≡ b ∷ ys → xs ≡ ys
  tail_is h = cc

  size_is : (lines : List VolumeLine) (ds : List D) → HaveSizes lines ds → (v : ℕ)
      → records_in (slice_get lines v) ≡ size (of lines ds).records v
  size_is [] ds h v = refl
  size_is (x ∷ xs) [] h v = cc
  size_is (x ∷ xs) (d ∷ ds) h zero = sym (head_is h) ∙ sym (length-replicate (length (pages d)) false)
  size_is (x ∷ xs) (d ∷ ds) h (suc v) = size_is xs ds (tail_is h) v

  entry_is : (lines : List VolumeLine) (ds : List D) → HaveSizes lines ds → (v : ℕ)
      → entries_in (slice_get lines v) ≡ length (vtoc_in (of lines ds).vtocs v)
  entry_is [] ds h v = refl
  entry_is (x ∷ xs) [] h v = cc
  entry_is (x ∷ xs) (d ∷ ds) h zero = sym (length-replicate {A = Option Entry} x.entries None)
  entry_is (x ∷ xs) (d ∷ ds) h (suc v) = entry_is xs ds (tail_is h) v

  unused_is : (lines : List VolumeLine) (ds : List D) (v r : ℕ) → in_use (flags_in (of lines ds).records v) r ≡ false
  unused_is [] ds v r = refl
  unused_is (x ∷ xs) [] v r = refl
  unused_is (x ∷ xs) (d ∷ ds) zero r = all_same (length (pages d)) r false
  unused_is (x ∷ xs) (d ∷ ds) (suc v) r = unused_is xs ds v r

  free_is : (lines : List VolumeLine) (ds : List D) (v e : ℕ) → entry_at (vtoc_in (of lines ds).vtocs v) e ≡ None
  free_is [] ds v e = refl
  free_is (x ∷ xs) [] v e = refl
  free_is (x ∷ xs) (d ∷ ds) zero e = all_same x.entries e None
  free_is (x ∷ xs) (d ∷ ds) (suc v) e = free_is xs ds v e

  pub are_fresh : (p : Plan) (ds : List D) → HaveSizes p.volumes ds
      → AreFresh p (of p.volumes ds).records (of p.volumes ds).vtocs
  are_fresh p ds h = grind (arith, size_is, entry_is, unused_is, free_is)
