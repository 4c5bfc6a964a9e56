-- A store of which fewer descriptors are connected, or fewer segments active.
use Rattle.storage_ops.proofs.Prelude.{◌≡◌, ℕ, List, [], map, Option, Some, None, set, refl, sym, ◌∙◌, inl, inr, cases_eq, get_or-set_other, get_or-map, Mode, Who, Plan, AccountMaps, Store, Sdw, Fault, Present, sdw_at, Entry, ActiveSegs, deactivated, superior_in, uid_in_place, uid_in, Plain, Links, sdws_at, all_cut, faulting, unlinked, IsStore, Shows, Storage, arith}
use Rattle.storage_ops.proofs.Known.{set_told}

-- each descriptor that is connected was so before
AreFewer : Links → Links → Type 0
AreFewer old new = (process number place pages : ℕ) (mode : Mode)
    → sdw_at (sdws_at new.descriptors process) number ≡ Present place mode pages
    → sdw_at (sdws_at old.descriptors process) number ≡ Present place mode pages

store_less : {now : Plain} {ast : ActiveSegs} {links new : Links} {a : AccountMaps} {whos : List Who}
    → new.known ≡ links.known → AreFewer links new → IsStore now ast links a whos → IsStore now ast new a whos
unfolding AreFewer
store_less known fewer h = grind arith

-- what is shown has no descriptor
pub shown_linked : {D : Type 0} {drive : D → List (List ℕ)} {p : Plan} {s : Store} {t : Storage D} (new : Links)
    → new.known ≡ t.segs.links.known
    → Shows drive p s t → Shows drive p s (record t { segs = record t.segs { links = new } })
shown_linked new known h = assumption (h.known ∙ sym known)

-- ---- one descriptor is cut

pub one_known : (links : Links) (process number : ℕ) (o : Option ℕ)
    → (unlinked links process number o).known ≡ links.known
one_known links process number None = refl
one_known links process number (Some place) = refl

one_fewer : (links : Links) (process number : ℕ) (o : Option ℕ) → AreFewer links (unlinked links process number o)
unfolding AreFewer
one_fewer links process number None q n place pages mode e = e
one_fewer links process number (Some x) q n place pages mode e = elim (cases_eq q process) [
  | inr ne ↦ sym (cc (get_or-set_other links.descriptors process q (set (sdws_at links.descriptors process) number
      Fault) [] ne)) ∙ e
  | inl same ↦
      set_told (λ (words : List Sdw). sdw_at words n ≡ Present place mode pages
      → sdw_at (sdws_at links.descriptors q) n ≡ Present place mode pages) links.descriptors process q []
      (λ is. cc (set_told (λ (w : Sdw). w ≡ Present place mode pages → sdw_at (sdws_at links.descriptors process) n
      ≡ Present place mode pages) (sdws_at links.descriptors process) number n Fault (λ no. cc) (λ at. at) is))
      (λ is. is) e
]

pub store_cut : (now : Plain) (ast : ActiveSegs) (links : Links) (a : AccountMaps) (whos : List Who)
    (process number : ℕ) (o : Option ℕ)
    → IsStore now ast links a whos → IsStore now ast (unlinked links process number o) a whos
store_cut now ast links a whos process number o h = store_less (one_known links process number o)
    (one_fewer links process number o) h

-- ---- all descriptors of a place are cut

still_there : (place : ℕ) (w : Sdw) (x pages : ℕ) (mode : Mode) → faulting place w ≡ Present x mode pages
    → w ≡ Present x mode pages
still_there place w x pages mode h1 = grind arith

all_fewer : (links : Links) (place : ℕ) → AreFewer links (all_cut links place)
unfolding AreFewer all_cut
all_fewer links place q n x pages mode e = still_there place (sdw_at (sdws_at links.descriptors q) n) x pages mode (cc (
  get_or-map (map (faulting place)) links.descriptors q [],
  get_or-map (faulting place) (sdws_at links.descriptors q) n Fault,
))

pub store_all_cut : (now : Plain) (ast : ActiveSegs) (links : Links) (a : AccountMaps) (whos : List Who) (place : ℕ)
    → IsStore now ast links a whos → IsStore now ast (all_cut links place) a whos
unfolding all_cut
store_all_cut now ast links a whos place h = store_less refl (all_fewer links place) h

pub shown_all_cut : {D : Type 0} {drive : D → List (List ℕ)} {p : Plan} {s : Store} {t : Storage D} (place : ℕ)
    → Shows drive p s t → Shows drive p s (record t { segs = record t.segs { links = all_cut t.segs.links place } })
unfolding all_cut
shown_all_cut {drive} {p} {s} {t} place h = shown_linked (all_cut t.segs.links place) refl h

-- ---- a segment becomes inactive

pub was_active : (entries : List (Option Entry)) (place q : ℕ) {u : ℕ}
    → uid_in_place (set entries place None) q ≡ Some u → uid_in_place entries q ≡ Some u
was_active entries place q {u} =
    set_told (λ (o : Option Entry). uid_in o ≡ Some u → uid_in_place entries q ≡ Some u) entries place q None
    (λ e. cc) (λ e. e)

pub store_inactive : {now : Plain} {ast : ActiveSegs} {links : Links} {a : AccountMaps} {whos : List Who} (place : ℕ)
    → IsStore now ast links a whos → IsStore now (deactivated ast place) links a whos
store_inactive {ast} place h = record {
  housed = h.housed;
  counted = h.counted;
  taken = h.taken;
  active = record {
    there = λ q u e. h.active.there q u (was_active ast.entries place q e);
    superiors = λ q u n e found. set_told (λ (o : Option Entry). uid_in o ≡ Some u
        → superior_in o ≡ n.superior) ast.entries place q None (λ no. cc) (λ at. h.active.superiors q u n at found) e;
    pools = λ q u n e found. h.active.pools q u n (was_active ast.entries place q e) found;
  };
  rights = record {
    modes = λ process number q pages u mode n d e found. h.rights.modes process number q pages u mode n d
        (was_active ast.entries place q e) found;
    lengths = λ process number q pages u mode n d e found. h.rights.lengths process number q pages u mode n d
        (was_active ast.entries place q e) found;
  };
  known = h.known;
}
