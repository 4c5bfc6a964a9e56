-- What the test of a segment that moves goes by: volumes and tables of which nothing is in use, and file maps.
pub use Rattle.layer_tests.proofs.Prelude.{AreFiled, Core, DriveState, Entry, Err, Free, IfOk, IsBlank, IsNotStarted, List, None, Null, Ok, Option, Part, Ptw, Result, Some, Started, Vols, [], all_same, ap, arith, entry_at, false, flags_in, frame_at, get_or, get_or-map, has_record, is_some, length, length-replicate, made_of, map, no_record, off_and_on, ptw_at, reads_of, record_at, records_in, refl, replicate, started_page, suc, sym, vtoc_in, zero, ℕ, ◌<◌, ◌∙◌, ◌∷◌, ◌≡◌, ◌≢◌}

abbrev no_entry : Option Entry
no_entry = None

abbrev no_place : Option ℕ
no_place = None

-- volumes as they are made
vtoc_made : {D : Type 0} (parts : List (Part D)) (v e : ℕ)
    → entry_at (vtoc_in (map (λ (part : Part D). replicate part.entries no_entry) parts) v) e ≡ None
vtoc_made [] v e = refl
vtoc_made (x ∷ parts) zero e = all_same x.entries e no_entry
vtoc_made (x ∷ parts) (suc v) e = vtoc_made parts v e

flags_made : {D : Type 0} (pages : D → List (List ℕ)) (parts : List (Part D)) (v r : ℕ)
    → get_or (flags_in (map (λ (part : Part D). replicate (length (pages part.drive)) false) parts) v) r false ≡ false
flags_made pages [] v r = refl
flags_made pages (x ∷ parts) zero r = all_same (length (pages x.drive)) r false
flags_made pages (x ∷ parts) (suc v) r = flags_made pages parts v r

not_some : (x : Option ℕ) (r : ℕ) → x ≡ None → x ≡ Some r → ⊥
not_some x r none some = cc

pub filed_made : {D : Type 0} (pages : D → List (List ℕ)) (parts : List (Part D))
    → AreFiled (made_of pages parts).records (made_of pages parts).vtocs
filed_made {D} pages parts = record {
  used = λ v e p r is. absurd (never v e p r is);
  once = λ v e p g q r is also. absurd (never v e p r is);
  named = λ v r on. absurd (off_and_on _ (flags_made pages parts v r) on);
}
  where
    never : (v e p r : ℕ) → record_at (vtoc_in (made_of pages parts).vtocs v) e p ≡ Some r → ⊥
    never v e p r is = not_some _ r
        (ap (λ (entry : Option Entry). get_or (records_in entry) p None) (vtoc_made parts v e) ∙ no_record p) is

-- a page table of no page
pub blank : (n : ℕ) → n ≡ 256 → IsBlank (replicate n Null)
blank n is = record { pages = omega (arith, is, length-replicate n Null); null = λ p. all_same n p Null }

-- no frame is started where none was
pub idle : (core : Core) (n uid p : ℕ) → reads_of core ≡ replicate n None → IsNotStarted core uid p
idle core n uid p reads = record { none = λ f is. started f is }
  where
    no_page : Option (ℕ × ℕ)
    no_page = None

    started : (f : ℕ) → frame_at core f ≢ Started uid p
    started f is =
        let none : started_page (frame_at core f) ≡ None =
        sym (get_or-map started_page core.frames f Free)
        ∙ ap (λ (reads : List (Option (ℕ × ℕ))). get_or reads f None) reads ∙ all_same n f no_page in
        let some : started_page (frame_at core f) ≡ Some (uid, p) = ap started_page is in
        cc

-- the file map of an entry names a record for those of the first pages that the table says have one
pub record NamesPages (vtoc : List (Option Entry)) (entry : ℕ) (t : List Ptw) (n : ℕ) : Type 0 where
  pub pages : (p : ℕ) → p < n → is_some (record_at vtoc entry p) ≡ has_record (ptw_at t p)

pub names_none : (vtoc : List (Option Entry)) (entry : ℕ) (t : List Ptw) → NamesPages vtoc entry t 0
names_none vtoc entry t = record { pages = λ p lt. absurd (omega (arith, lt)) }

-- volumes are filed as they are made, if they are
pub filed_new : {D E : Type 0} (pages : D → List (List ℕ)) (parts : List (Part D)) (result : Result (Vols D) E)
    → IfOk result (λ v. v ≡ made_of pages parts) → IfOk result (λ v. AreFiled v.records v.vtocs)
filed_new pages parts (Ok v) is = rw is (filed_made pages parts)
filed_new pages parts (Err e) is = tt
