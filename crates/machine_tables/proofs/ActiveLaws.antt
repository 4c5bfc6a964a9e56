-- A segment is active where a search finds it.
use Rattle.machine_tables.proofs.Prelude.{◌≡◌, ℕ, Bool, true, false, is_some, List, Option, Some, None, refl, sym, ◌↔◌, ActiveSegs, uid_at, place_of, EmptyVictim, any_page, empty_victim, unless_read, frame_reading, is_active, or_zero, Storage, active_place, active_at}

pub search_tells : (ast : ActiveSegs) (u : ℕ) (o : Option ℕ)
    → ((place : ℕ) → (o ≡ Some place) ↔ (uid_at ast.entries place ≡ Some u)) → is_some o ≡ is_active ast u
search_tells ast u (Some place) only = sym (active_at ast place u ((only place).0 refl))
search_tells ast u None only = by (is_active ast u) refl
  where
    by : (b : Bool) → is_active ast u ≡ b → false ≡ b
    by false e = refl
    by true e = cc ((only (place_of ast.entries u)).1 (active_place ast u e).1)

-- a victim that is emptied once no page of it is being read in
pub victim_read : (st : Storage) (pool : ℕ) (chain : List ℕ) (uid place : ℕ) (x : Option ℕ) → x ≡ Some place
    → uid ≡ or_zero (uid_at st.ast.entries place)
    → unless_read (frame_reading st.pages.core uid any_page) (EmptyVictim pool chain uid) ≡ empty_victim st pool chain x
victim_read st pool chain uid place x found is = cc
