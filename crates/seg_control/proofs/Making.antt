-- What is kept after a page is made, dropped, taken or given back.
use Rattle.vtoc.specs.Vtoc.{uid_of}
use Rattle.seg_control.proofs.Frames.{ActiveSegs, ArePaged, Core, Entry, Err, Free, Here, Home, IsHomeFor, IsKept, IsNotStarted, IsOutAt, IsTableOf, IsTied, KeepsOthers, Leaving, Links, List, None, Null, Ok, OnErr, OnOk, Option, Paging, Plain, Ptw, Result, Some, VtocEntry, [], after_create, ap, binding_at, bindings, bound_now, bound_page, cases_eq, dropped, entry_at, false, frame_at, get_or-set_other, inl, inr, is_out, length, length-set, map-set, none-some, none_started, number_in, page_is, place_of, plain, ptw_at, reads_of, same_Some, set, sym, table_at, table_of, true, uid_at, uid_framed, uid_of_home, uid_or_zero, with_frame, with_table, word_of, words_here, ℕ, ◌<◌, ◌∙◌, ◌≡◌}
pub use Rattle.seg_control.proofs.Calls.{each_set, here_word, kept_call, kept_table, marks_set, reads_kept, tied_home, uid_in}

-- ---- a page is made

pub lost_created : {T E : Type 0} (result : Result T E) (old : Plain) {now : Plain} (uid p : ℕ) (home : Home) (f
    at w : ℕ) → now ≡ after_create old uid p home f at w result → OnErr result (bindings now.core ≡ bindings old.core)
lost_created (Ok x) old uid p home f at w e = tt
lost_created (Err e') old uid p home f at w e = rw e

pub kept_created : {T E : Type 0} (result : Result T E) {old now : Plain} {ast : ActiveSegs} {links : Links}
    (place : ℕ) {uid : ℕ} (p f : ℕ) {home : Home} {t u : List Ptw} → IsKept old ast links
    → uid_at ast.entries place ≡ Some uid → place < length ast.entries → t ≡ table_at ast.tables place
    → ptw_at t p ≡ Null → IsTied now uid home u → KeepsOthers old now uid home → u ≡ words_here t p f result
    → OnOk result (bindings now.core ≡ set (bindings old.core) f (Some (uid, p))) → OnErr result (bindings now.core
    ≡ bindings old.core) → reads_of now.core ≡ reads_of old.core → IsKept now (with_table ast place u) links
kept_created result {old} {now} place {uid} p f {t} {u} k at within table null tie others word bound lost reads =
    kept_call place p k at within table tie others (here_word result t u p f word)
    (marks_set result old now uid f (Some (uid, p)) (λ v q e. sym (page_is uid p v q e).0) bound lost)
    (reads_kept now place uid p k at (rw (← table, null)) reads)

-- ---- a page is dropped

-- an active segment is the one of its home
pub homed_active : {now : Plain} {ast : ActiveSegs} {links : Links} {place uid : ℕ} {home : Home} {t : List Ptw}
    → IsKept now ast links → uid_at ast.entries place ≡ Some uid → place ≡ place_of ast.entries uid
    → t ≡ table_at ast.tables place → IsHomeFor now uid home (table_of ast uid) → uid_of_home now home ≡ uid
homed_active {uid} k at is table h = of_entry _ (tied_home k at is table h).used
  where
    of_entry : (entry : Option VtocEntry) → uid_of entry ≡ Some uid → uid_or_zero entry ≡ uid
    of_entry None e = cc
    of_entry (Some entry) e = same_Some _ _ e

marks_core : (old now : Core) (f : ℕ) → now ≡ with_frame old f Free → (g u q : ℕ) → binding_at (bindings now) g
    ≡ Some (u, q) → binding_at (bindings old) g ≡ Some (u, q)
marks_core old now f e g u q h =
    elim (bound_now (bindings old) f None g (u, q) (rw (e, map-set bound_page old.frames f Free) at h))
    [ inl none ↦ cc | inr was ↦ was.1 ]

marks_dropped : (word : Ptw) (old now : Plain) (home : Home) (p : ℕ) → now ≡ dropped old home p word → (g u q : ℕ)
    → binding_at (bindings now.core) g ≡ Some (u, q) → binding_at (bindings old.core) g ≡ Some (u, q)
marks_dropped (Here f) old now home p e g u q h = rw e at h
marks_dropped (Leaving f) old now home p e g u q h = marks_core old.core now.core f (cc) g u q h
marks_dropped _ old now home p e g u q h = rw e at h

pub kept_dropped : {old now : Plain} {ast : ActiveSegs} {links : Links} (place : ℕ) {uid p : ℕ} {home : Home}
    (word : Ptw) {t u : List Ptw} → IsKept old ast links → uid_at ast.entries place ≡ Some uid
    → place < length ast.entries → t ≡ table_at ast.tables place → IsNotStarted old.core uid p → IsTied now uid home u
    → KeepsOthers old now uid home → u ≡ set t p Null → now ≡ dropped old home p word
    → reads_of now.core ≡ reads_of old.core → IsKept now (with_table ast place u) links
kept_dropped {old} {now} place {p} {home} word k at within table idle tie others is effect reads =
    kept_call place p k at within table tie others (Null, is) (λ g v q e. inr (marks_dropped word old now home p effect
    g v q e)) (λ g v q e. (let was = rw reads at e in (was, λ same page. none_started idle g (rw (same, page) at was))))

-- ---- a page is taken, or given back

-- words of one table change, and no page that is on its record alone
module _ {now : Plain} {entries : List (Option Entry)} {ptws : List (List Ptw)} (place : ℕ) (u : List Ptw)
    (k : ArePaged now entries ptws) (within : place < length ptws) (table : (uid : ℕ) → uid_at entries place ≡ Some uid
    → IsTableOf (bindings now.core) uid u) (tie : (uid : ℕ) (home : Home) → uid_at entries place ≡ Some uid → IsTied now
    uid home (table_at ptws place) → IsTied now uid home u) (null : (q : ℕ) → entry_at entries place ≡ None → ptw_at u q
    ≡ Null) (out : (q : ℕ) → is_out (ptw_at (table_at ptws place) q) ≡ true → is_out (ptw_at u q) ≡ true) where
  pub paged_words : ArePaged now entries (set ptws place u)
  paged_words = record {
    tables = λ q v e. each_set ptws u [] (λ n those. uid_at entries n ≡ Some v → IsTableOf (bindings now.core) v those)
        within (table v) (λ n ne. k.tables n v) q e;
    ties = λ q v h e is. each_set ptws u [] (λ n those. uid_at entries n ≡ Some v → IsTied now v h those) within
        (λ at. tie v h at (k.ties place v h at is)) (λ n ne at. k.ties n v h at is) q e;
    rest = k.rest;
    blank = λ q n e. each_set ptws u [] (λ m those. entry_at entries m ≡ None → ptw_at those n ≡ Null) within (null n)
        (λ m ne. k.blank m n) q e;
    bound = k.bound;
    started = λ f v p e. (let was : IsOutAt entries ptws v p = k.started f v p e in
        record {
          place = was.place;
          active = was.active;
          out = each_set ptws u [] (λ m those. is_out (ptw_at (table_at ptws m) p) ≡ true
              → is_out (ptw_at those p) ≡ true) within (out p) (λ m ne yes. yes) was.place was.out;
        });
    once = k.once;
    filed = k.filed;
  }

pub out_kept : (t u : List Ptw) (p : ℕ) (w : Ptw) → u ≡ set t p w → is_out (ptw_at t p) ≡ false → (q : ℕ)
    → is_out (ptw_at t q) ≡ true → is_out (ptw_at u q) ≡ true
out_kept t u p w is off q out = elim (cases_eq q p) [
  | inl same ↦ (let yes = rw same at out in cc)
  | inr ne ↦ rw (is, get_or-set_other t p q w Null ne) out
]

-- the word of the page in frame f changes, and page control nothing else
pub moved_word : {D : Type 0} {old now : Paging D} {ast : ActiveSegs} {links : Links} {place uid : ℕ} {t u : List Ptw}
    (pages : D → List (List ℕ)) (f : ℕ) (was word : Ptw) → IsKept (plain pages old) ast links → now ≡ old
    → uid_framed (frame_at old.core f) ≡ uid → word_of ast uid (number_in (frame_at old.core f)) ≡ was → is_out was
    ≡ false → uid_at ast.entries place ≡ Some uid → place < length ast.entries → place ≡ place_of ast.entries uid
    → t ≡ table_at ast.tables place → u ≡ set t (number_in (frame_at old.core f)) word → IsTableOf (bindings now.core)
    (uid_framed (frame_at old.core f)) u → ((v : ℕ) (home : Home) → IsTied (plain pages old) v home t
    → IsTied (plain pages now) v home u) → IsKept (plain pages now) (with_table ast place u) links
moved_word {old} {ast} {place} {uid} {t} {u} pages f was word k same own its off at within is table words tied tie =
    let p : ℕ = number_in (frame_at old.core f) in
    let off : is_out (ptw_at t p) ≡ false = rw (table, is, its) off in
    rw same (kept_table place u k within (cc (length-set t p word)) (λ lt. paged_words place u k.paged lt (λ v e. rw
    (same_Some _ _ (sym e ∙ at), ← own) (rw same at tied)) (λ v h e tied. rw same at (tie v h (rw table tied)))
    (λ q e. absurd (none-some uid (sym (ap uid_in e) ∙ at))) (λ q out. out_kept t u p word words off q (rw table out))))
