-- A page that the shutdown takes: what is true of it then, and what stays.
use Rattle.machine_tables.proofs.Prelude.{◌≡◌, ℕ, true, Option, Some, refl, ap, ◌∙◌, bound_page, is_bound, Here, Leaving, frame_in, word_of, worded, page_in, page_or_zero, with_leaving, Storage, word_within, IsLeaving, AreHere}
use Rattle.machine_tables.proofs.ChoiceLaws.{bound_is, chosen_here}
use Rattle.machine_tables.proofs.TakeLaws.{word_put}

-- the page of a bound frame is on its way out once it is taken
pub taken_leaving : (st : Storage) (f : ℕ) → is_bound (frame_in st.pages f) ≡ true → AreHere st
    → IsLeaving (with_leaving st f) f
taken_leaving st f bound here = rw page (record {
  bound = bound;
  leaving = ap (λ (o : Option (ℕ × ℕ)). word_of (worded st.ast x.0 x.1 (Leaving f)) (page_or_zero o).0
      (page_or_zero o).1) page ∙ word_put st.ast x.0 x.1 (Leaving f) (word_within st.ast x.0 x.1 (λ e. cc word)).1;
})
  where
    x : ℕ × ℕ
    x = page_in st f

    page : bound_page (frame_in st.pages f) ≡ Some x
    page = bound_is (frame_in st.pages f) bound

    word : word_of st.ast x.0 x.1 ≡ Here f
    word = chosen_here st st f here refl refl bound
