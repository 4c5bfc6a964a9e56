-- What a word that names a frame tells of the frame and of the page.
pub use Rattle.page_control.proofs.Prelude.{AreZero, Core, Frame, Home, IsBoundTo, IsSeen, IsTableOf, IsTied, List, None, Null, Option, Out, Plain, Ptw, Some, ap, arith, bindings, bound_page, disk_of, false, filed, frame_at, frame_of, has_record, is_filed_at, is_out, is_some, is_stored, not_none, number_in, plain, ptw_at, record_of, refl, sym, true, uid_in, words_at, words_filed, words_in, ℕ, ◌∙◌, ◌≡◌}
use Rattle.page_control.proofs.Counting.{binding_is, bound_from_page, bound_to, fewer_at, filed_in_use, frame_same, number_of, tied_filed}
use Rattle.page_control.proofs.Pictures.{shown_in, shown_out, uid_part}

told : (frame : Frame) (uid p : ℕ) → bound_page frame ≡ Some (uid, p)
    → ◌≡◌ {A = Option (ℕ × ℕ)} (Some (uid_in frame, number_in frame)) (Some (uid, p))
told frame uid p at = sym (bound_to frame (bound_from_page frame uid p at)) ∙ at

pub frame_named : (core : Core) {uid p f : ℕ} {t : List Ptw} → IsTableOf (bindings core) uid t → frame_of (ptw_at t p)
    ≡ Some f → IsBoundTo (frame_at core f) uid p
frame_named core {uid = uid} {p = p} {f = f} table word =
    let page : bound_page (frame_at core f) ≡ Some (uid, p) = sym (binding_is core f) ∙ table.back f p word in
    assumption (
      bound_from_page (frame_at core f) uid p page,
      ap uid_part (told (frame_at core f) uid p page),
      ap number_of (told (frame_at core f) uid p page),
    )

pub words_named : (s : Plain) (uid p f : ℕ) (home : Home) (t : List Ptw) → IsTableOf (bindings s.core) uid t
    → frame_of (ptw_at t p) ≡ Some f → words_at s uid home p ≡ words_in s f
words_named s uid p f home t table word =
    shown_in s uid p f home (table.back f p word) (λ g at. frame_same (frame_of (ptw_at t p)) g f (table.named g p at)
    word)

-- a page whose word names no frame has the words of its record
words_away : {s : Plain} {uid : ℕ} (p : ℕ) {home : Home} {t : List Ptw} → IsTied s uid home t
    → frame_of (ptw_at t p) ≡ None → words_at s uid home p ≡ words_filed (disk_of s home.volume) (filed s home p)
words_away {s} {uid} p {home} {t} tie none = shown_out s uid p home
    (λ g at. not_none (frame_of (ptw_at t p)) g none (tie.table.named g p at))

none_from : {place : Option ℕ} {w : Ptw} → is_some place ≡ has_record w → w ≡ Null → place ≡ None
none_from {place = None} same null = refl
none_from {place = (Some r)} {w = w} same null = (let no : has_record w ≡ false = ap has_record null in cc)

out_full : {s : Plain} {uid : ℕ} (p : ℕ) {home : Home} {t : List Ptw} {w : Ptw} → IsTied s uid home t → ptw_at t p ≡ w
    → is_out w ≡ true → is_stored s home p ≡ true → AreZero (words_at s uid home p) → ⊥
out_full p {w = Null} tie is out stored all = cc
out_full p {t = t} {w = (Out r)} tie is out stored all =
    let there = tie.zeros p stored all in
    not_none (frame_of (ptw_at t p)) there.0 (ap frame_of is) (tie.table.named there.0 p there.1)
out_full p tie is out stored all = cc

pub stored_out : (w : Ptw) → is_out w ≡ true → has_record w ≡ true
stored_out Null out = cc
stored_out (Out r) out = refl
stored_out _ out = cc

pub seen : {s : Plain} {uid : ℕ} (p : ℕ) {home : Home} {t : List Ptw} (w : Ptw) → w ≡ ptw_at t p → IsTied s uid home t
    → IsSeen s uid home p w
unfolding is_filed_at
seen {s} {uid} p {home} {t} w is tie = rw is (record {
  stored = tie.map.stored p;
  null = λ null. cc (words_away p tie (ap frame_of null), none_from (tie.map.stored p) null);
  taken = λ has. omega (
    arith,
    fewer_at s.records home.volume (record_of s home p) (filed_in_use s home p tie.records (tied_filed p tie has)),
  );
  out = λ r out. cc (words_away p tie (ap frame_of out), tie.map.out p r out);
  full = λ out all. out_full p tie refl out (tie.map.stored p ∙ stored_out (ptw_at t p) out) all;
  bound = λ f word. tie.table.back f p word;
  frame = λ f word. frame_named s.core tie.table word;
  words = λ f word. words_named s uid p f home t tie.table word;
})
