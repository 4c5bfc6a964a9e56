-- What is kept after a call of page control.
use Rattle.seg_control.specs.Effects.{worded}
pub use Rattle.seg_control.proofs.Paged.{ActiveSegs, AreFiled, AreLinked, ArePaged, Entry, Err, HasNoFrame, HasTable, HaveSizes, Here, Home, IfSome, IsActive, IsBlank, IsHomeFor, IsHomeOf, IsInPool, IsInactive, IsKept, IsTied, KeepMarks, KeepReads, KeepsOthers, KeepsTies, Leaving, Left, Links, List, None, Null, Ok, OnErr, OnOk, Option, Plain, Ptw, Result, Some, [], after_asked, after_evict, ap, arith, bindings, bound_now, cases_eq, each_set, erased, false, get_or-set_other, inl, inr, is_out, least_free_entry, length, length-set, none-some, none_read, page_is, paged_call, paged_same, paged_started, place_of, ptw_at, read_at, reads_of, refl, same_Some, set, set-get_or, subst, sym, table_at, table_here, table_left, table_of, true, uid_at, uid_homed, uid_in, uid_of_home, vtoc_of, with_table, word_of_left, words_here, words_left, ℕ, ◌+◌, ◌<◌, ◌^◌, ◌∙◌, ◌≡◌, ◌≢◌, ◌⊎◌}

-- a table of the same length
pub sizes_kept : (sizes : List ℕ) (ptws : List (List Ptw)) (place : ℕ) (t : List Ptw) → place < length ptws → length t
    ≡ length (table_at ptws place) → HaveSizes sizes ptws → HaveSizes sizes (set ptws place t)
sizes_kept sizes ptws place t lt same h pool q pl = each_set ptws t [] (λ n those. IsInPool sizes pool n → length those
    ≡ 4 ^ (pool + 1)) lt (λ there. same ∙ h pool place pl there) (λ n ne. h pool n pl) q

-- the table of one place has changed
pub kept_table : {old now : Plain} {ast : ActiveSegs} {links : Links} (place : ℕ) (t : List Ptw) → IsKept old ast links
    → place < length ast.entries → length t ≡ length (table_at ast.tables place) → (place < length ast.tables
    → ArePaged now ast.entries (set ast.tables place t)) → IsKept now (with_table ast place t) links
kept_table {ast} place t k within same paged =
    let lt : place < length ast.tables = (omega arith) in
    assumption
    (paged lt, length-set ast.tables place t ∙ k.places, sizes_kept ast.sizes ast.tables place t lt same k.sized)

-- page p of the segment of a place was concerned by a call, which set that word of its table
pub kept_call : {old now : Plain} {ast : ActiveSegs} {links : Links} {uid : ℕ} {home : Home} {t u : List Ptw}
    (place p : ℕ) → IsKept old ast links → uid_at ast.entries place ≡ Some uid → place < length ast.entries → t
    ≡ table_at ast.tables place → IsTied now uid home u → KeepsOthers old now uid home → ((w : Ptw) × (u ≡ set t p w))
    → KeepMarks old now uid → KeepReads old now uid p → IsKept now (with_table ast place u) links
kept_call {t} {u} place p k at within table tie others word marks reads =
    kept_table place u k within (cc (length-set t p word.0)) (λ lt. paged_call k.paged k.tree (record {
      at = at;
      within = lt;
      tie = tie;
      others = others;
      marks = marks;
      reads = reads;
      words = λ q ne. rw (word.1, get_or-set_other t p q word.0 Null ne, table) refl;
    }))

-- pages and links share the list of active entries alone, and the hands of the pools are in neither
pub kept_with : {old now : Plain} {ast : ActiveSegs} {links those : Links} (hands : List ℕ) → IsKept old ast links
    → ArePaged now ast.entries ast.tables → AreLinked ast.entries those
    → IsKept now (record ast { hands = hands }) those
kept_with hands k paged linked = assumption (paged, linked, k)

-- a change of page control alone
pub kept_paged : {old now : Plain} {ast : ActiveSegs} {links : Links} → IsKept old ast links
    → ArePaged now ast.entries ast.tables → IsKept now ast links
kept_paged {ast} k paged = kept_with ast.hands k paged k.linked

-- the home of an active segment agrees with its page table, and so does one that is given for a segment that is moved
pub tied_home : {now : Plain} {ast : ActiveSegs} {links : Links} {place uid : ℕ} {home : Home} {t : List Ptw}
    → IsKept now ast links → uid_at ast.entries place ≡ Some uid → place ≡ place_of ast.entries uid
    → t ≡ table_at ast.tables place → IsHomeFor now uid home (table_of ast uid) → IsTied now uid home t
tied_home {place} {uid} {home} k at is table h = elim h [
  | inl only ↦ rw table (k.paged.ties place uid home at only)
  | inr tie ↦ rw (table, is) tie
]

-- ---- a page leaves its frame, or comes into it

-- its word is set, also where the call has failed: then to what it was
left_word : {E : Type 0} (result : Result Left E) (t u : List Ptw) (p r : ℕ) → u ≡ words_left t p r result
    → (w : Ptw) × (u ≡ set t p w)
left_word (Ok left) t u p r is = (word_of_left left r, is)
left_word (Err e) t u p r is = (ptw_at t p, is ∙ sym (set-get_or t p Null))

pub here_word : {T E : Type 0} (result : Result T E) (t u : List Ptw) (p f : ℕ) → u ≡ words_here t p f result
    → (w : Ptw) × (u ≡ set t p w)
here_word (Ok x) t u p f is = (Here f, is)
here_word (Err e) t u p f is = (ptw_at t p, is ∙ sym (set-get_or t p Null))

-- its frame is bound to no page, or to one of its segment
pub marks_set : {T E : Type 0} (result : Result T E) (old now : Plain) (uid f : ℕ) (x : Option (ℕ × ℕ))
    → ((u q : ℕ) → x ≡ Some (u, q) → u ≡ uid) → OnOk result (bindings now.core ≡ set (bindings old.core) f x)
    → OnErr result (bindings now.core ≡ bindings old.core) → KeepMarks old now uid
marks_set (Ok y) old now uid f x its ok err g u q e =
    elim (bound_now (bindings old.core) f x g (u, q) (rw ok at e)) [ inl h ↦ inl (its u q h.1) | inr h ↦ inr h.1 ]
marks_set (Err y) old now uid f x its ok err g u q e = inr (rw err at e)

-- a page whose word isn't that of one on its record alone was being read into no frame, and isn't now
pub reads_kept : {old : Plain} (now : Plain) {ast : ActiveSegs} {links : Links} (place uid p : ℕ) → IsKept old ast links
    → uid_at ast.entries place ≡ Some uid → is_out (ptw_at (table_at ast.tables place) p) ≡ false
    → reads_of now.core ≡ reads_of old.core → KeepReads old now uid p
reads_kept now place uid p k at off reads f u q e =
    (let was = rw reads at e in (was, none_read place uid p f u q k.paged k.tree at off was))

pub kept_evicted : {E : Type 0} (result : Result Left E) {old now : Plain} {ast : ActiveSegs} {links : Links}
    (place : ℕ) {uid : ℕ} (p f r : ℕ) {home : Home} {t u : List Ptw} → IsKept old ast links
    → uid_at ast.entries place ≡ Some uid → place < length ast.entries → t ≡ table_at ast.tables place → ptw_at t p
    ≡ Leaving f → IsTied now uid home u → KeepsOthers old now uid home → u ≡ words_left t p r result → OnOk result
    (bindings now.core ≡ set (bindings old.core) f None) → OnErr result (bindings now.core ≡ bindings old.core)
    → reads_of now.core ≡ reads_of old.core → IsKept now (with_table ast place u) links
kept_evicted result {old} {now} place {uid} p f r {t} {u} k at within table leaving tie others word freed kept reads =
    kept_call place p k at within table tie others (left_word result t u p r word) (marks_set result old now uid f None
    (λ v q e. cc) freed kept) (reads_kept now place uid p k at (rw (← table, leaving)) reads)

-- a word that is set, as the active segments are seen
pub table_is_set : (ast : ActiveSegs) {place : ℕ} (uid p : ℕ) (w : Ptw) {t u : List Ptw} → place ≡ place_of
    ast.entries uid → t ≡ table_at ast.tables place → u ≡ set t p w → with_table ast place u ≡ worded ast uid p w
table_is_set ast uid p w is table word = rw (word, table, is)

-- the word of a page that leaves, as the active segments are seen
pub table_is_left : {E : Type 0} (result : Result Left E) (ast : ActiveSegs) {place : ℕ} (uid p r : ℕ) {t u : List Ptw}
    → place ≡ place_of ast.entries uid → t ≡ table_at ast.tables place → u ≡ words_left t p r result
    → with_table ast place u ≡ table_left ast uid p r result
table_is_left (Ok left) ast uid p r is table word = table_is_set ast uid p (word_of_left left r) is table word
table_is_left (Err e) ast {place} uid p r is table word = rw (word, table, set-get_or ast.tables place [])

-- and of one that comes
pub table_is_here : {T E : Type 0} (result : Result T E) (ast : ActiveSegs) {place : ℕ} (uid p f : ℕ) {t u : List Ptw}
    → place ≡ place_of ast.entries uid → t ≡ table_at ast.tables place → u ≡ words_here t p f result
    → with_table ast place u ≡ table_here ast uid p f result
table_is_here (Ok x) ast uid p f is table word = table_is_set ast uid p (Here f) is table word
table_is_here (Err e) ast {place} uid p f is table word = rw (word, table, set-get_or ast.tables place [])

-- a page that was being read into frame f
pub kept_read : {T E : Type 0} (result : Result T E) {old now : Plain} {ast : ActiveSegs} {links : Links} (place : ℕ)
    {uid : ℕ} (p f : ℕ) {home : Home} {t u : List Ptw} → IsKept old ast links → uid_at ast.entries place ≡ Some uid
    → place < length ast.entries → t ≡ table_at ast.tables place → read_at (reads_of old.core) f ≡ Some (uid, p)
    → IsTied now uid home u → KeepsOthers old now uid home → u ≡ words_here t p f result → OnOk result (bindings
    now.core ≡ set (bindings old.core) f (Some (uid, p))) → OnErr result (bindings now.core ≡ bindings old.core)
    → reads_of now.core ≡ set (reads_of old.core) f None → IsKept now (with_table ast place u) links
kept_read result {old} {now} place {uid} p f {t} {u} k at within table started tie others word bound lost reads =
    kept_call place p k at within table tie others (here_word result t u p f word)
    (marks_set result old now uid f (Some (uid, p)) (λ v q e. sym (page_is uid p v q e).0) bound lost)
    (λ g v q e. elim (bound_now (reads_of old.core) f None g (v, q) (rw reads at e)) [
      | inl h ↦ cc
      | inr h ↦ (h.1, λ same page. h.0 (k.paged.once g f uid p (rw (same, page) at h.1) started))
    ])

-- a page that is being read is on its record alone
pub out_of : {now : Plain} {ast : ActiveSegs} {links : Links} (place : ℕ) {uid : ℕ} (p f : ℕ) {t : List Ptw}
    → IsKept now ast links → uid_at ast.entries place ≡ Some uid → t ≡ table_at ast.tables place
    → read_at (reads_of now.core) f ≡ Some (uid, p) → is_out (ptw_at t p) ≡ true
out_of place {uid} p f k at is started =
    let out = k.paged.started f uid p started in
    rw (is, ← k.tree.once out.place place uid out.active at) out.out

pub lost_bindings : {E : Type 0} (result : Result Left E) (old : Plain) {now : Plain} (home : Home) (p f : ℕ)
    → now ≡ after_evict old home p f result → OnErr result (bindings now.core ≡ bindings old.core)
lost_bindings (Ok left) old home p f e = tt
lost_bindings (Err e') old home p f e = rw e
