-- A segment that gets a home.
pub use Rattle.page_control.proofs.Prelude.{AreFiled, Entry, HasAsked, HasNoFrame, Home, IfNone, IfSome, IsBlank, IsLeastFreeEntry, IsMapOf, IsTableOf, IsTied, KeepsTies, List, None, Null, Option, Out, Plain, Ptw, Some, [], after_asked, allocated, ap, bindings, disk_of, frame_of, fresh_entry, get_or, inl, inr, is_filed_at, is_some, is_stored, length, list_within, map_at, no_record, no_records, not_none, off_and_on, one_more, plain, ptw_at, put_here, put_other, records_in, refl, replicate, rules, set, set-get_or, uid_at, uid_of, used, vtoc_in, words_at, words_filed, ℕ, ◌<◌, ◌∙◌, ◌≡◌, ◌≢◌}
pub use Rattle.page_control.proofs.Counting.{at_or_other, other_home, plain_volume, used_more}
use Rattle.page_control.proofs.Marks.{shown_out, tie_mapped, words_by}
use Rattle.page_control.proofs.Naming.{filed_mapped}

-- where no frame is bound to a page of the segment, a table of no page is its table
pub table_blank : {bound : List (Option (ℕ × ℕ))} {uid : ℕ} {t : List Ptw} → HasNoFrame bound uid → IsBlank t
    → IsTableOf bound uid t
table_blank {t} none blank = record {
  named = λ f p is. absurd (none.none f p is);
  back = λ f p is. absurd (not_none (frame_of (ptw_at t p)) f (ap frame_of (blank.null p)) is);
}

pub map_blank : {t : List Ptw} → IsBlank t → IsMapOf no_records t
map_blank {t = t} blank = record {
  stored = λ p. cc (no_record p, blank.null p);
  out = λ p r out. absurd (not_out (blank.null p) out);
}
  where
    not_out : {w : Ptw} {r : ℕ} → w ≡ Null → w ≡ Out r → ⊥
    not_out null out = cc

-- what an entry that was asked for leaves
pub record IsAsked (s now : Plain) (v uid : ℕ) (result : Option ℕ) : Type 0 where
  pub maps : (home : Home) → map_at now.vtocs home ≡ map_at s.vtocs home
  pub home : IfSome result (λ e. uid_at now.vtocs (record { volume = v; entry = e }) ≡ Some uid)
  -- an entry that was used still is, and every other is as before
  pub homes : (u : ℕ) (h : Home) → uid_at s.vtocs h ≡ Some u → uid_at now.vtocs h ≡ Some u
  pub uids : (other : Home) → IfSome result (λ e. other ≢ record { volume = v; entry = e })
      → uid_at now.vtocs other ≡ uid_at s.vtocs other
  pub records : AreFiled s.records s.vtocs → AreFiled now.records now.vtocs
  pub stored : is_stored now ≡ is_stored s
  pub words : words_at now ≡ words_at s
  pub ties : KeepsTies s now
  pub tie : IfSome result (λ e. (words : List Ptw) → IsBlank words → HasNoFrame (bindings s.core) uid
      → AreFiled s.records s.vtocs → IsTied now uid (record { volume = v; entry = e }) words)
  pub zeros : IfSome result (λ e. (p : ℕ) → HasNoFrame (bindings s.core) uid
      → words_at now uid (record { volume = v; entry = e }) p ≡ replicate 1024 0)
  pub used : IfSome result (λ e. used now.vtocs ≡ one_more (used s.vtocs) v)

asked_some : {s : Plain} {v : ℕ} (uid : ℕ) {e : ℕ} → IsLeastFreeEntry (vtoc_in s.vtocs v) e → v < length s.disks
    → IsAsked s (allocated s v e uid) v uid (Some e)
unfolding is_filed_at
asked_some {s = s} {v = v} uid {e = e} least vd =
    let now = allocated s v e uid in
    let it : Home = record { volume = v; entry = e } in
    let vl = list_within s.vtocs v e least.within in
    let here = put_here s.vtocs v e (fresh_entry uid) None vl least.within in
    let maps : (home : Home) → map_at now.vtocs home ≡ map_at s.vtocs home = λ home. elim (at_or_other v e home) [
      | inl at ↦ rw (at.0, at.1) (cc)
      | inr n ↦ ap records_in (put_other s.vtocs v e (fresh_entry uid) None home.volume home.entry vl n)
    ] in
    let homes : (u : ℕ) (h : Home) → uid_at s.vtocs h ≡ Some u → uid_at now.vtocs h ≡ Some u =
    λ u h used. elim (at_or_other v e h) [
      | inl at ↦ absurd (not_none (uid_at s.vtocs h) u (rw (at.0, at.1) (ap uid_of least.free)) used)
      | inr n ↦ ap uid_of (put_other s.vtocs v e (fresh_entry uid) None h.volume h.entry vl n) ∙ used
    ] in
    let filed = filed_mapped maps in
    let map = maps it ∙ ap records_in least.free in
    let none_filed : (p : ℕ) → get_or (map_at now.vtocs it) p None ≡ None = λ p. rw map (no_record p) in
    record {
      maps = maps;
      home = ap uid_of here;
      homes = homes;
      uids = λ other n. ap uid_of (put_other s.vtocs v e (fresh_entry uid) None other.volume other.entry vl
          (other_home n));
      records = filed;
      stored = λ i. λ h p. is_some (get_or (maps h i) p None);
      words = λ i. λ u h p. words_by s now u h p refl refl refl (maps h) i;
      ties = record {
        ties = λ u h words tie. tie_mapped refl refl refl (homes u h tie.used) (maps h) (filed tie.records) tie;
      };
      tie = λ words blank none old. record {
        volume = vd;
        used = ap uid_of here;
        pages = blank.pages;
        table = table_blank none blank;
        map = rw map (map_blank blank);
        records = filed old;
        clean = λ g q off at. absurd (none.none g q at);
        zeros = λ q on all. absurd (off_and_on (is_stored now it q) (ap is_some (none_filed q)) on);
      };
      zeros = λ p none. shown_out now uid p it (λ g at. none.none g p at)
          ∙ ap (words_filed (disk_of now v)) (none_filed p);
      used = used_more s.vtocs v uid least.within least.free;
    }

pub is_asked : {result : Option ℕ} {s now : Plain} {v uid : ℕ} → HasAsked s now v uid result → v < length s.disks
    → IsAsked s now v uid result
is_asked {result = Some e} {s} {v} {uid} a vd = rw a.effect (asked_some uid a.least vd)
is_asked {result = None} a vd = rw a.effect (record {
  maps = λ home. refl;
  home = tt;
  homes = λ u h used. used;
  uids = λ other n. refl;
  records = λ filed. filed;
  stored = refl;
  words = refl;
  ties = record { ties = λ u h words tie. tie };
  tie = tt;
  zeros = tt;
  used = tt;
})

-- what the steps give: the VTOC that was lent, as it came back
pub asks : (s : Plain) {now : Plain} (v uid : ℕ) (result : Option ℕ) (table : List (Option Entry)) → now ≡ record s {
  vtocs = set s.vtocs v table;
} → IfSome result (λ e. table ≡ set (vtoc_in s.vtocs v) e (fresh_entry uid)) → IfNone
    result (table ≡ vtoc_in s.vtocs v) → now ≡ after_asked s v uid result
asks s v uid None table is taken same = is ∙ rw (same, set-get_or s.vtocs v [])
asks s v uid (Some e) table is taken same = rw taken at is
