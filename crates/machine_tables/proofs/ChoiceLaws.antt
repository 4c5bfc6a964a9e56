-- The clock's choice, where no page is on its way out.
use Rattle.machine_tables.proofs.Prelude.{◌≡◌, ℕ, true, List, Option, Some, sym, ap, ◌∙◌, get_or-map, Frame, Free, bound_page, is_bound, Here, binding_at, bindings, frame_in, word_of, page_in, page_or_zero, Storage, AreHere, arith}

pub bound_is : (x : Frame) → is_bound x ≡ true → bound_page x ≡ Some (page_or_zero (bound_page x))
bound_is x h1 = grind arith

pub chosen_here : (st now : Storage) (f : ℕ) → AreHere st → bindings now.pages.core ≡ bindings st.pages.core
    → now.ast ≡ st.ast → is_bound (frame_in now.pages f) ≡ true
    → word_of now.ast (page_in now f).0 (page_in now f).1 ≡ Here f
chosen_here st now f here same ast bound =
    cc (here.here f (page_in now f).0 (page_in now f).1 (ap (λ (b : List (Option (ℕ × ℕ))). binding_at b f) (sym same)
    ∙ get_or-map bound_page now.pages.core.frames f Free ∙ bound_is (frame_in now.pages f) bound))
