-- Descriptors are connected, with the rights of their processes.
use Rattle.storage_ops.proofs.Prelude.{◌≡◌, ℕ, suc, ◌<◌, List, [], ◌∷◌, length, Some, get_or, set, refl, sym, ap, ◌∙◌, arith, inl, inr, cases_eq, get_or-set_other, Mode, Who, AccountMaps, access_of, Node, node_in, Sdw, Fault, Present, sdw_at, ActiveSegs, uid_in_place, Plain, Links, sdws_at, linked, reconnected, pair_at, IsRight, IsStore, who_at, Mode as mode}
use Rattle.storage_ops.proofs.Known.{set_told}

same_place : {p q m n : ℕ} {x y : Mode} → ◌≡◌ {A = Sdw} (Present p x m) (Present q y n) → (p ≡ q) × (x ≡ y) × (m ≡ n)
same_place e = (cc, cc, cc)

-- what a descriptor of a store is, once one more is connected: as it was, or the new one
told_linked : (links : Links) {process : ℕ} (number : ℕ) {place pages : ℕ} {m : Mode} (P : ℕ → Sdw → Type 0)
    → P process (Present place m pages) → ((q k : ℕ) → P q (sdw_at (sdws_at links.descriptors q) k)) → {q : ℕ} (k : ℕ)
    → P q (sdw_at (sdws_at (linked links process number place m pages).descriptors q) k)
told_linked links {process} number {place} {pages} {m} P new old {q} k = elim (cases_eq q process) [
  | inr ne ↦ rw (get_or-set_other links.descriptors process q (set (sdws_at links.descriptors process) number
      (Present place m pages)) [] ne) (old q k)
  | inl is ↦ set_told (λ (words : List Sdw). P q (sdw_at words k)) links.descriptors process q []
      (set_told (λ (w : Sdw). P q w) (sdws_at links.descriptors process) number k Fault
      (rw is new) (rw (← is) (old q k))) (old q k)
]

module _ (now : Plain) (ast : ActiveSegs) (a : AccountMaps) (whos : List Who) where
  pub store_linked : (links : Links) (process number place pages uid : ℕ) (m : Mode)
      → uid_in_place ast.entries place ≡ Some uid → IsRight a.nodes whos process uid m pages
      → IsStore now ast links a whos → IsStore now ast (linked links process number place m pages) a whos
  store_linked links process number place pages uid m at right h = record {
    housed = h.housed;
    counted = h.counted;
    taken = h.taken;
    active = h.active;
    rights = record {
      modes = λ q k x count u y n d e found. told_linked links number
          (λ (j : ℕ) (w : Sdw). w ≡ Present x y count → y ≡ access_of (who_at whos j) n.rows)
          (λ same. (let is = same_place same in
          sym is.1 ∙ right.mode_is n (own x u n is.0 e found)))
          (λ j i w. h.rights.modes j i x count u y n w e found) k d;
      lengths = λ q k x count u y n d e found. told_linked links number
          (λ (j : ℕ) (w : Sdw). w ≡ Present x y count → count ≡ n.pages) (λ same. (let is = same_place same in
          sym is.2 ∙ right.pages_are n (own x u n is.0 e found)))
          (λ j i w. h.rights.lengths j i x count u y n w e found) k d;
    };
    known = h.known;
  }
    where
      own : (x u : ℕ) (n : Node) → place ≡ x → uid_in_place ast.entries x ≡ Some u → node_in a.nodes u ≡ Some n
          → node_in a.nodes uid ≡ Some n
      own x u n is e found = (let same : uid ≡ u = cc (at, ap (uid_in_place ast.entries) is) in rw same found)

  -- one after the other
  pub store_reconnected : (place pages uid : ℕ) → uid_in_place ast.entries place ≡ Some uid
      → (list : List (ℕ × ℕ)) (modes : List Mode) (links : Links)
      → ((i : ℕ) → i < length list → IsRight a.nodes whos (pair_at list i).0 uid (get_or modes i mode.Null) pages)
      → IsStore now ast links a whos → IsStore now ast (reconnected links place list modes pages) a whos
  unfolding reconnected
  store_reconnected place pages uid at [] modes links each h = h
  store_reconnected place pages uid at (pair ∷ list) [] links each h = h
  store_reconnected place pages uid at (pair ∷ list) (m ∷ modes) links each h =
      store_reconnected place pages uid at list modes (linked links pair.0 pair.1 place m pages)
      (λ i lt. each (suc i) (omega arith))
      (store_linked links pair.0 pair.1 place pages uid m at (each 0 (omega arith)) h)

pub known_reconnected : (place pages : ℕ) (list : List (ℕ × ℕ)) (modes : List Mode) (links : Links)
    → (reconnected links place list modes pages).known ≡ links.known
unfolding reconnected
known_reconnected place pages [] modes links = refl
known_reconnected place pages (pair ∷ list) [] links = refl
known_reconnected place pages (pair ∷ list) (m ∷ modes) links =
    known_reconnected place pages list modes (linked links pair.0 pair.1 place m pages)
