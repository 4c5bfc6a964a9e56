-- What it tells of a frame, a descriptor or a processor that it is looked for, or isn't.
use Rattle.clean_reasons.proofs.Prelude.{◌≡◌, ◌≢◌, ℕ, true, Option, Some, None, refl, sym, ap, subst, unwrap_or, bound_page, is_uid, page_of, uid_of_page, FrameUse, not_both, eqb_self}
use Rattle.custody_model.specs.declared.FrameUse.TheVariants as frame

-- ---- tests of pages

pub uid_passes : (o : Option ℕ) (u : ℕ) → o ≡ Some u → is_uid u o ≡ true
uid_passes o u e = subst (λ (x : Option ℕ). is_uid u x ≡ true) (sym e) (eqb_self u)

-- ---- frames

pub no_pages : (x : FrameUse) (u : ℕ) → ((q : ℕ) → bound_page x ≡ Some (u, q) → ⊥)
    → ((q : ℕ) → x ≡ frame.Started u q → ⊥) → uid_of_page (page_of x) ≢ Some u
no_pages frame.Free u b r = λ e. not_both (uid_passes None u e) refl
no_pages (frame.Started v p) u b r = λ e. r p (ap (λ (o : Option ℕ). frame.Started (unwrap_or o v) p) e)
no_pages (frame.Current v p) u b r = λ e. b p (ap (λ (o : Option ℕ). Some (unwrap_or o v, p)) e)
no_pages (frame.Going v p) u b r = λ e. b p (ap (λ (o : Option ℕ). Some (unwrap_or o v, p)) e)
