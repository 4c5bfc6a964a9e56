-- What the numbers of a process stand for is changed.
use Rattle.storage_ops.proofs.Prelude.{◌≡◌, ℕ, zero, suc, ◌<◌, List, [], ◌∷◌, Option, Some, None, Ok, set, get_or, refl, ap, length-set, set-get_or, Who, Plan, Reply, number_for, uid_of, with_number, without_number, AccountMaps, Node, segment_at, after_initiate, after_terminate, known_or_full, Store, ActiveSegs, Plain, Links, kst_at, AreKnown, IsStore, Shows, Storage, answered, with_known, length, cases_eq, get_or-set_other, inl, inr, arith}

-- what holds of all elements holds of them once one is changed to such
pub set_told : {A : Type 0} (P : A → Type 0) (xs : List A) (i j : ℕ) {x : A} (d : A) → P x → P (get_or xs j d)
    → P (get_or (set xs i x) j d)
set_told P [] i j d px pg = pg
set_told P (y ∷ ys) zero zero d px pg = px
set_told P (y ∷ ys) zero (suc j) d px pg = pg
set_told P (y ∷ ys) (suc i) zero d px pg = pg
set_told P (y ∷ ys) (suc i) (suc j) {x} d px pg = set_told P ys i j d px pg

-- a table in place of one of the same length
pub size_set : {X : Type 0} (xs : List (List X)) (v : ℕ) (ys : List X) → length ys ≡ length (get_or xs v []) → (w : ℕ)
    → length (get_or (set xs v ys) w []) ≡ length (get_or xs w [])
size_set {X} xs v ys same w = elim (cases_eq w v) [
  | inr ne ↦ ap length (get_or-set_other xs v w ys [] ne)
  | inl is ↦ rw is (set_told (λ (zs : List X). length zs ≡ length (get_or xs v [])) xs v v [] same refl)
]

-- each number that is known stands for a uid below this one
AreUnder : ℕ → List (Option ℕ) → Type 0
AreUnder next kst = (number u : ℕ) → uid_of kst number ≡ Some u → u < next

under_set : {next : ℕ} (kst : List (Option ℕ)) (n : ℕ) {o : Option ℕ} → ((u : ℕ) → o ≡ Some u → u < next)
    → AreUnder next kst → AreUnder next (set kst n o)
unfolding AreUnder
under_set {next} kst n {o} new old number =
    set_told (λ (x : Option ℕ). (u : ℕ) → x ≡ Some u → u < next) kst n number None new (λ u e. old number u e)

pub under_with : (next : ℕ) (kst : List (Option ℕ)) (uid : ℕ) (r : Option ℕ) → uid < next
    → ((number u : ℕ) → uid_of kst number ≡ Some u → u < next) → (number u : ℕ)
    → uid_of (with_number kst uid r) number ≡ Some u → u < next
unfolding AreUnder
under_with next kst uid None lt old = old
under_with next kst uid (Some n) lt old = under_set kst n (λ u e. (let same : uid ≡ u = cc in rw (← same) lt)) old

pub known_set : {next : ℕ} {known : List (List (Option ℕ))} {whos : List Who} (k : ℕ) (kst : List (Option ℕ))
    → AreKnown next known whos
    → ((number u : ℕ) → uid_of kst number ≡ Some u → u < next) → AreKnown next (set known k kst) whos
known_set {next} {known} k kst h under = record {
  older = λ process. set_told (λ (x : List (Option ℕ)). (number u : ℕ) → uid_of x number ≡ Some u
      → u < next) known k process [] under (h.older process);
  processes = cc (length-set known k kst);
}

pub known_store : {now : Plain} {ast : ActiveSegs} {links : Links} {a : AccountMaps} {whos : List Who} (k : ℕ)
    (kst : List (Option ℕ)) → IsStore now ast links a whos → ((number u : ℕ) → uid_of kst number ≡ Some u → u < a.next)
    → IsStore now ast (record links { known = set links.known k kst }) a whos
known_store {links} {a} {whos} k kst h under = assumption (known_set k kst h.known under)

pub known_shown : {D : Type 0} {drive : D → List (List ℕ)} {p : Plan} {s : Store} {t : Storage D} (known : List
    (List (Option ℕ))) → Shows drive p s t → Shows drive p (record s { known = known }) (with_known t known)
known_shown known h = assumption

-- ---- by the command

pub initiate_shown : {D : Type 0} {drive : D → List (List ℕ)} {p : Plan} {s : Store} {t : Storage D} (process : ℕ)
    (path : List (List ℕ)) {n : Node} {r : Option ℕ} → Shows drive p s t → segment_at t.accounts.nodes path ≡ Ok n
    → r ≡ number_for (kst_at t.segs.links.known process) n.uid → Shows drive p (after_initiate s process path)
    (with_known t (set t.segs.links.known process (with_number (kst_at t.segs.links.known process) n.uid r)))
unfolding after_initiate
initiate_shown {drive} {p} {s} {t} process path {n} {r} h found is = grind (arith, known_shown)

pub terminate_shown : {D : Type 0} {drive : D → List (List ℕ)} {p : Plan} {s : Store} {t : Storage D}
    (process number : ℕ) → Shows drive p s t → Shows drive p (after_terminate s process number)
    (with_known t (set t.segs.links.known process (without_number (kst_at t.segs.links.known process) number)))
unfolding after_terminate
terminate_shown {drive} {p} {s} {t} process number h = grind (arith, known_shown)

-- where there is no number, nothing is changed
pub none_known : (known : List (List (Option ℕ))) (k uid : ℕ)
    → set known k (with_number (kst_at known k) uid None) ≡ known
none_known known k uid = set-get_or known k []

-- the same where it is known whether there is a number
pub initiate_answered : {D : Type 0} (drive : D → List (List ℕ)) (p : Plan) (s : Store) (t : Storage D)
    (process : ℕ) (path : List (List ℕ)) (n : Node)
    (r : Option ℕ) (given : Reply) → Shows drive p s t → segment_at t.accounts.nodes path ≡ Ok n
    → r ≡ number_for (kst_at t.segs.links.known process) n.uid → given ≡ known_or_full r
    → Shows drive p (answered given s (after_initiate s process path))
    (with_known t (set t.segs.links.known process (with_number (kst_at t.segs.links.known process) n.uid r)))
initiate_answered drive p s t process path n None given h found is told =
    rw told (rw (none_known t.segs.links.known process n.uid) h)
initiate_answered drive p s t process path n (Some i) given h found is told =
    rw told (initiate_shown {drive = drive} {p = p} {s = s} {t = t} process path {n = n} {r = Some i} h found is)
