-- How many places and drives there are stays where a tree command takes effect.
use Rattle.machine.proofs.Prelude.{◌≡◌, ◌%◌, ◌/◌, ℕ, Bool, true, false, cond, eqb, length, List, ◌∷◌, Option, Some, None, refl, ◌∙◌, length-set, Command, Row, bound_page, Ptw, cut, erased, framed, Plain, frame_in, words_in, place_of, word_of, frames_freed, pages_past, with_cut, with_cut_in, with_deleted, with_effect, with_made, with_truncated, without_page, without_pages, are_zeros, here_if, with_here, with_inactive, home_in, is_active, Storage, with_pages, [], Command as command, Frame as frame, Ptw as ptw}
use Rattle.flat_model.specs.Branches.{parts_of}

-- how many places the active segment table has, and how many drives there are
abbrev pub counts : Storage → ℕ × ℕ
counts st = (length st.ast.entries, length st.pages.disks)

-- a page that is here again changes neither
pub here : (st : Storage) (f : ℕ) → counts (with_here st f) ≡ counts st
here st f = by (bound_page (frame_in st.pages f))
  where
    by : (x : Option (ℕ × ℕ)) → counts (here_if st f x) ≡ counts st
    by None = refl
    by (Some page) = refl

made : (st : Storage) (directory : Bool) (pages volume : ℕ) (rows : List Row) (x : Option (List (List ℕ) × List ℕ))
    → counts (with_made st directory pages volume rows x) ≡ counts st
made st directory pages volume rows None = refl
made st directory pages volume rows (Some parts) = refl

page_cut : (st : Storage) (u p : ℕ) (w : Ptw) → counts (without_page st u p w) ≡ counts st
page_cut st u p ptw.Null = refl
page_cut st u p _ = refl

pages_cut : (st : Storage) (u : ℕ) (ps : List ℕ) → counts (without_pages st u ps) ≡ counts st
pages_cut st u [] = refl
pages_cut st u (p ∷ ps) = pages_cut (without_page st u p (word_of st.ast u p)) u ps
    ∙ page_cut st u p (word_of st.ast u p)

cut_in : (st : Storage) (u p at f : ℕ) → counts (with_cut_in st u p at f) ≡ counts st
cut_in st u p at f = by (are_zeros (words_in (cut st.pages f at) f))
  where
    by : (b : Bool) → counts (cond b (without_page (with_pages st (cut st.pages f at)) u p (ptw.Leaving f))
        (with_here (with_pages st (cut st.pages f at)) f)) ≡ counts st
    by true = refl
    by false = here (with_pages st (cut st.pages f at)) f

word_cut : (st : Storage) (u p at : ℕ) (w : Ptw) → counts (with_cut st u p at w) ≡ counts st
word_cut st u p at (ptw.Leaving f) = cut_in st u p at f
word_cut st u p at _ = refl

truncated : (st : Storage) (u words : ℕ) → counts (with_truncated st u words) ≡ counts st
truncated st u words = by (eqb (words % 1024) 0)
  where
    by : (b : Bool) → counts (without_pages (cond b st (with_cut st u (words / 1024) (words % 1024)
        (word_of st.ast u (words / 1024)))) u (pages_past st u words)) ≡ counts st
    by true = pages_cut st u (pages_past st u words)
    by false = pages_cut _ u (pages_past st u words)
        ∙ word_cut st u (words / 1024) (words % 1024) (word_of st.ast u (words / 1024))

freed : (pages : Plain) (fs : List ℕ) → length (frames_freed pages fs).disks ≡ length pages.disks
freed pages [] = refl
freed pages (f ∷ fs) = freed (framed pages f frame.Free) fs

deleted : (st : Storage) (u : ℕ) (frames : List ℕ) → counts (with_deleted st u frames) ≡ counts st
deleted st u frames = by (is_active st.ast u)
  where
    by : (b : Bool) → counts
        (cond b (with_inactive (with_pages st (erased (frames_freed st.pages frames) (home_in st u))) u)
        (with_pages st (erased (frames_freed st.pages frames) (home_in st u)))) ≡ counts st
    by true = λ i. (length-set st.ast.entries (place_of st.ast.entries u) None i, freed st.pages frames i)
    by false = λ i. (length st.ast.entries, freed st.pages frames i)

pub effect : (st : Storage) (k u : ℕ) (frames : List ℕ) (c : Command) → counts (with_effect st k u frames c) ≡ counts st
effect st k u frames (command.MkDir path volume) = made st true 0 volume [] (parts_of path)
effect st k u frames (command.MkSeg path pages volume) = made st false pages volume _ (parts_of path)
effect st k u frames (command.Truncate path words) = truncated st u words
effect st k u frames (command.Delete path) = deleted st u frames
effect st k u frames _ = refl
