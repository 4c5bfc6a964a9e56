-- Where a descriptor leads, where a segment is active, and which page is in a frame.
use Rattle.machine_tables.proofs.Prelude.{◌≡◌, ◌<◌, ℕ, List, Option, Some, None, length, sym, ap, ◌∙◌, refl, get_or-map, Entry, Free, bound_page, Here, Plain, frame_in, frame_of, ActiveSegs, IsActive, IsTree, uid_at, Links, leads_at, place_of, word_of, AreLinked, IsKept, active_place, active_at, shown_within, Active_uid_in as uid_in}

-- a descriptor leads to a place of the table
pub leads_within : (entries : List (Option Entry)) (links : Links) (k n place : ℕ) → AreLinked entries links
    → leads_at links.descriptors k n ≡ Some place → place < length entries
leads_within entries links k n place linked e =
    let known = linked.known k n place e in shown_within uid_in entries place None known.uid refl known.active

-- a segment is active in one place
pub place_found : (ast : ActiveSegs) (place u : ℕ) → IsTree ast.entries → uid_at ast.entries place ≡ Some u
    → place_of ast.entries u ≡ place
place_found ast place u tree at =
    tree.once (place_of ast.entries u) place u (active_place ast u (active_at ast place u at)).1 at

-- the segment of a page that is in a frame is active
pub active_in : (now : Plain) (ast : ActiveSegs) (links : Links) (f u p : ℕ) → IsKept now ast links
    → bound_page (frame_in now f) ≡ Some (u, p) → IsActive ast.entries u
active_in now ast links f u p kept bound = kept.paged.bound f u p (get_or-map bound_page now.core.frames f Free ∙ bound)

-- a page that is here is in the frame that its word names
pub bound_in : (now : Plain) (ast : ActiveSegs) (links : Links) (u p f : ℕ) → IsKept now ast links
    → IsActive ast.entries u → word_of ast u p ≡ Here f → bound_page (frame_in now f) ≡ Some (u, p)
bound_in now ast links u p f kept active here =
    let at = place_found ast active.0 u kept.tree active.1 in
    let table = kept.paged.tables (place_of ast.entries u) u (rw (← (sym at)) active.1) in
    sym (get_or-map bound_page now.core.frames f Free) ∙ table.back f p (ap frame_of here)
