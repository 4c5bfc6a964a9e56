-- All descriptors of a place are cut, or connected again.
pub use Rattle.seg_control.proofs.Prelude.{AreLinked, Control, Entry, Fault, Links, List, MayReconnect, Mode, None, Option, Present, Sdw, Some, [], all_cut, ap, append-nil, append_assoc, arith, cut_one, drop, eq-eqb, faulting, get_or, get_or-map, get_or-set_same, get_or_from_slice_get, kst_at, leads, leads_at, leads_to, length, length-set, linked, map, map-set_same, ne_eqb, one_left, pair_at, reconnected, refl, rules, same_Some, sdw_at, sdws_at, set, set-get_or, set-set, slice_get, suc, sym, times_few, trailers_of, uid_at, uid_of, unlinked, without_trailer, zero, ℕ, ◌++◌, ◌+◌, ◌<◌, ◌∙◌, ◌∷◌, ◌≡◌, ◌≢◌, ◌≤◌}
pub use Rattle.seg_control.proofs.Connected.{count_two, leads_to_itself, leads_within, times_same, trailer_leads, without_shorter}

-- ---- the oldest trailer

pub first_leads : {entries : List (Option Entry)} {links : Links} (place : ℕ) (pair : ℕ × ℕ) → AreLinked entries links
    → 0 < length (trailers_of links.trailers place)
    → slice_get (trailers_of links.trailers place) 0 ≡ Some pair → leads_at links.descriptors pair.0 pair.1 ≡ Some place
first_leads {links} place pair k some e = rw (get_or_from_slice_get (trailers_of links.trailers place) 0 pair (0, 0) e)
    at (trailer_leads links.trailers links.descriptors place 0 k.exact some)

-- ---- none is left

map_same : {X : Type 0} (f : X → X) (xs : List X) (d : X)
    → ((i : ℕ) → i < length xs → f (get_or xs i d) ≡ get_or xs i d) → map f xs ≡ xs
map_same f [] d same = refl
map_same f (x ∷ xs) d same = rw (same 0 (omega arith), map_same f xs d (λ i lt. same (suc i) (omega arith)))

not_faulting : (place : ℕ) (w : Sdw) → leads w ≢ Some place → faulting place w ≡ w
not_faulting place Fault ne = refl
not_faulting place (Present aste mode pages) ne = rw (ne_eqb aste place (λ same. ne (rw same)))

no_trailer : (xs : List (ℕ × ℕ)) → length xs ≡ 0 → xs ≡ []
no_trailer [] e = refl
no_trailer (x ∷ xs) e = absurd (omega arith)

pub none_left : {entries : List (Option Entry)} {links : Links} (place : ℕ) → AreLinked entries links
    → length (trailers_of links.trailers place) ≡ 0 → all_cut links place ≡ links
unfolding all_cut
none_left {links} place k none =
    let empty = no_trailer (trailers_of links.trailers place) none in
    let not_led : (q n : ℕ) → leads_at links.descriptors q n ≢ Some place =
    λ q n e. (let count = rw (empty, e, times_same place) at (k.exact place q n) in omega arith) in
    let words : map (map (faulting place)) links.descriptors ≡ links.descriptors =
    map_same (map (faulting place)) links.descriptors [] (λ q lt. map_same (faulting place) (sdws_at
    links.descriptors q) Fault (λ n less. not_faulting place (sdw_at (sdws_at links.descriptors q) n) (not_led q n))) in
    rw (words, rw empty at (set-get_or links.trailers place []))

-- ---- one is cut, and then the rest

faulting_led : (place : ℕ) (w : Sdw) → leads w ≡ Some place → faulting place w ≡ Fault
faulting_led place Fault e = refl
faulting_led place (Present aste mode pages) e = rw (eq-eqb aste place (same_Some _ _ e))

one_less : (links : Links) (process number place : ℕ) → leads_at links.descriptors process number ≡ Some place
    → all_cut (unlinked links process number (Some place)) place ≡ all_cut links place
unfolding all_cut
one_less links process number place leading =
    let words : map (faulting place) (set (sdws_at links.descriptors process) number Fault)
    ≡ map (faulting place) (sdws_at links.descriptors process) =
    map-set_same (faulting place) (sdws_at links.descriptors process) number Fault Fault
    (sym (faulting_led place (sdw_at (sdws_at links.descriptors process) number) leading)) in
    rw (
      map-set_same (map (faulting place)) links.descriptors process
          (set (sdws_at links.descriptors process) number Fault) [] words,
      set-set links.trailers place (without_trailer (trailers_of links.trailers place) process number) [],
    )

pub cut_step : {D : Type 0} (start : Control D) {s now : Control D} {place : ℕ} (process number : ℕ)
    → leads_at s.links.descriptors process number ≡ Some place → all_cut s.links place ≡ all_cut start.links place
    → s ≡ record start { links = s.links } → now ≡ record s { links = cut_one s.links process number }
    → (all_cut now.links place ≡ all_cut start.links place) × (now ≡ record start { links = now.links })
cut_step start {s} {place} process number leading cut rest effect =
    (rw (effect, leading, one_less s.links process number place leading) cut, rw (effect, rest))

pub cut_smaller : {D : Type 0} (s now : Control D) {entries : List (Option Entry)} (place process number : ℕ)
    → AreLinked entries s.links → leads_at s.links.descriptors process number ≡ Some place
    → now ≡ record s { links = cut_one s.links process number } → length (trailers_of now.links.trailers place) < length
    (trailers_of s.links.trailers place)
cut_smaller s now place process number k leading effect = rw (effect, leading)
    (without_shorter process number k leading)

-- ---- all are connected again

again_none : (links : Links) (place pages : ℕ) (modes : List Mode) → reconnected links place [] modes pages ≡ links
unfolding reconnected
again_none links place pages modes = refl

again_more : (links : Links) (place pages : ℕ) (pair : ℕ × ℕ) (list : List (ℕ × ℕ)) (mode : Mode) (modes : List Mode)
    → reconnected links place (pair ∷ list) (mode ∷ modes) pages
    ≡ reconnected (linked links pair.0 pair.1 place mode pages) place list modes pages
unfolding reconnected
again_more links place pages pair list mode modes = refl

drop_end : {X : Type 0} (i : ℕ) (xs : List X) → length xs ≤ i → drop i xs ≡ []
drop_end zero [] le = refl
drop_end (suc i) [] le = refl
drop_end zero (x ∷ xs) le = absurd (omega arith)
drop_end (suc i) (x ∷ xs) le = drop_end i xs (omega arith)

pub reconnect_step : {D : Type 0} (start s now : Control D) (place i pages : ℕ) (list : List (ℕ × ℕ))
    (modes : List Mode) (d : Mode) → i < length list → length modes ≡ length list → reconnected s.links place (drop
    i list) (drop i modes) pages ≡ reconnected start.links place list modes pages → s ≡ record start { links = s.links }
    → now ≡ record s { links = linked s.links (pair_at list i).0 (pair_at list i).1 place (get_or modes i d) pages }
    → (reconnected now.links place (drop (i + 1) list) (drop (i + 1) modes) pages
    ≡ reconnected start.links place list modes pages) × (now ≡ record start { links = now.links })
reconnect_step start s now place i pages list modes d lt long all rest effect = (
  rw effect (rw (one_left list i (0, 0) lt, one_left modes i d (omega arith), again_more) at all),
  rw (effect, rest),
)

pub reconnect_end : {D : Type 0} (start s : Control D) (place i pages : ℕ) (list : List (ℕ × ℕ)) (modes : List Mode)
    → length list ≤ i
    → reconnected s.links place (drop i list) (drop i modes) pages ≡ reconnected start.links place list modes pages → s
    ≡ record start { links = s.links } → s ≡ record start { links = reconnected start.links place list modes pages }
reconnect_end start s place i pages list modes past all rest = rw (← all, drop_end i list past, again_none) rest

-- the next pair may be connected
pub may_here : {links : Links} {uid : Option ℕ} (list : List (ℕ × ℕ)) (i : ℕ) → i < length list → MayReconnect links uid
    (drop i list) → ((pair_at list i).0 < length links.known) × (uid_of (kst_at links.known (pair_at list i).0)
    (pair_at list i).1 ≡ uid) × (leads_at links.descriptors (pair_at list i).0 (pair_at list i).1 ≡ None)
may_here list i lt may =
    let may' = rw (one_left list i (0, 0) lt) at may in
    (may'.processes 0 (omega arith), may'.known 0 (omega arith), may'.cut 0 (omega arith))

-- and then the rest
pub may_next : {links : Links} (now : Links) {uid : Option ℕ} (list : List (ℕ × ℕ)) (i : ℕ) → i < length list
    → MayReconnect links uid (drop i list) → now.known ≡ links.known
    → ((q n : ℕ) → (q ≡ (pair_at list i).0 → n ≢ (pair_at list i).1)
    → leads_at now.descriptors q n ≡ leads_at links.descriptors q n) → MayReconnect now uid (drop (i + 1) list)
may_next now list i lt may known others =
    let may' = rw (one_left list i (0, 0) lt) at may in
    record {
      processes = λ j less. rw known (may'.processes (suc j) (omega arith));
      known = λ j less. rw known (may'.known (suc j) (omega arith));
      cut = λ j less. others (pair_at (drop (i + 1) list) j).0 (pair_at (drop (i + 1) list) j).1 (λ e f. may'.once 0
          (suc j) (omega arith) (omega arith) (λ t. (sym e t, sym f t))) ∙ may'.cut (suc j) (omega arith);
      once = λ a b less within. may'.once (suc a) (suc b) (omega arith) (omega arith);
    }

-- ---- what was cut may be connected again, and has its trailers then

cut_there_leads : (links : Links) (place q n : ℕ) → leads_at links.descriptors q n ≡ Some place
    → leads_at (all_cut links place).descriptors q n ≡ None
unfolding all_cut
cut_there_leads links place q n e = rw (
  get_or-map (map (faulting place)) links.descriptors q [],
  get_or-map (faulting place) (sdws_at links.descriptors q) n Fault,
  faulting_led place (sdw_at (sdws_at links.descriptors q) n) e,
)

known_cut_all : (links : Links) (place : ℕ) → (all_cut links place).known ≡ links.known
unfolding all_cut
known_cut_all links place = refl

trailers_cut_all : (links : Links) (place : ℕ) → (all_cut links place).trailers ≡ set links.trailers place []
unfolding all_cut
trailers_cut_all links place = refl

pub may_again : {entries : List (Option Entry)} {links : Links} (place : ℕ) → AreLinked entries links
    → MayReconnect (all_cut links place) (uid_at entries place) (trailers_of links.trailers place)
may_again {links} place k =
    let xs : List (ℕ × ℕ) = trailers_of links.trailers place in
    let leads : (i : ℕ) → i < length xs → leads_at links.descriptors (pair_at xs i).0 (pair_at xs i).1 ≡ Some place =
    λ i lt. trailer_leads links.trailers links.descriptors place i k.exact lt in
    record {
      processes = λ i lt. rw (known_cut_all links place, ← k.lists.processes)
          (leads_within links.descriptors (pair_at xs i).0 (pair_at xs i).1 place (leads i lt));
      known = λ i lt. (let was = k.known (pair_at xs i).0 (pair_at xs i).1 place (leads i lt) in
          rw (known_cut_all links place) (cc));
      cut = λ i lt. cut_there_leads links place (pair_at xs i).0 (pair_at xs i).1 (leads i lt);
      once = λ i j less lt same. (let x : ℕ × ℕ = pair_at xs i in
          let itself = leads_to_itself x.0 x.1 in
          let twice = count_two (leads_to x.0 x.1) xs i j (0, 0) less lt itself (rw (← same) itself) in
          omega (arith, k.exact place x.0 x.1, times_few (leads_at links.descriptors x.0 x.1) place));
    }

-- the trailers of the place after some pairs are connected
trailers_again : (list : List (ℕ × ℕ)) (links : Links) (place pages : ℕ) (modes : List Mode) → length modes
    ≡ length list → place < length links.trailers → (reconnected links place list modes pages).trailers
    ≡ set links.trailers place (trailers_of links.trailers place ++ list)
trailers_again [] links place pages modes long lt = rw (
  again_none links place pages modes,
  append-nil (trailers_of links.trailers place),
  set-get_or links.trailers place [],
)
trailers_again (pair ∷ list) links place pages [] long lt = absurd (omega arith)
trailers_again (pair ∷ list) links place pages (mode ∷ modes) long lt =
    let those : List (ℕ × ℕ) = trailers_of links.trailers place in
    let more : List (ℕ × ℕ) = those ++ (pair.0, pair.1) ∷ [] in
    rw (
      again_more links place pages pair list mode modes,
      trailers_again list (linked links pair.0 pair.1 place mode
          pages) place pages modes (omega arith) (rw (length-set links.trailers place more) lt),
      get_or-set_same links.trailers place more [] lt,
      set-set links.trailers place more (more ++ list),
      append_assoc those ((pair.0, pair.1) ∷ []) list,
    )

pub trailers_back : (links : Links) (place pages : ℕ) (modes : List Mode) → place < length links.trailers
    → length modes ≡ length (trailers_of links.trailers place)
    → (reconnected (all_cut links place) place (trailers_of links.trailers place) modes pages).trailers ≡ links.trailers
trailers_back links place pages modes lt long =
    let xs : List (ℕ × ℕ) = trailers_of links.trailers place in
    let cut = trailers_cut_all links place in
    rw (
      trailers_again xs (all_cut links place) place pages modes long (rw (cut, length-set links.trailers place []) lt),
      cut,
      get_or-set_same links.trailers place [] [] lt,
      set-set links.trailers place [] xs,
      set-get_or links.trailers place [],
    )
