-- What frames are bound to, and what is being read into them.
pub use Rattle.seg_control.proofs.Prelude.{ActiveSegs, ArePaged, Bound, Core, Entry, Err, Frame, Free, Here, Home, IsActive, IsBoundOnce, IsHomeFor, IsKept, IsNotStarted, IsOutAt, IsTableOf, IsTied, KeepsOthers, Leaving, Links, List, None, Null, Ok, OnErr, OnOk, Option, Paging, Plain, Ptw, Result, Some, Started, Vols, VtocEntry, [], after_create, ap, binding_at, bindings, bound_now, bound_page, bound_to as page_of_bound, cases_eq, dropped, entry_at, false, frame_at, get_or-map, get_or-set_other, inl, inr, is_bound, is_out, length, length-set, map-set, none-some, number_in, page_is, place_of, plain, ptw_at, read_at, reads_of, rules, same_Some, set, started_page, sym, table_at, table_of, true, uid_at, uid_framed as uid_in, uid_framed, uid_of_home, uid_or_zero, volumes_of, with_frame, with_table, word_of, words_here, ℕ, ◌<◌, ◌∙◌, ◌≡◌, ◌≢◌}

pub read_is : (core : Core) (f : ℕ) → read_at (reads_of core) f ≡ started_page (frame_at core f)
read_is core f = get_or-map started_page core.frames f Free

-- a bound frame has its page
pub bound_to : (core : Core) (f : ℕ) → is_bound (frame_at core f) ≡ true → binding_at (bindings core) f
    ≡ Some (uid_in (frame_at core f), number_in (frame_at core f))
bound_to core f e = get_or-map bound_page core.frames f Free ∙ page_of_bound (frame_at core f) e

-- no other frame has it
pub bound_once : {now : Plain} {ast : ActiveSegs} {links : Links} {f : ℕ} → IsKept now ast links
    → is_bound (frame_at now.core f) ≡ true → IsBoundOnce (bindings now.core) f
bound_once {now = now} {ast = ast} {f = f} kept e =
    let k = kept.paged in
    let u : ℕ = uid_in (frame_at now.core f) in
    let p : ℕ = number_in (frame_at now.core f) in
    let at : binding_at (bindings now.core) f ≡ Some (u, p) = bound_to now.core f e in
    let active : IsActive ast.entries u = k.bound f u p at in
    let table = k.tables active.0 u active.1 in
    record { only = λ g same. same_Some _ _ (sym (table.named g p (same ∙ at)) ∙ table.named f p at) }

pub started_from : (frame : Frame) (uid p : ℕ) → started_page frame ≡ Some (uid, p) → frame ≡ Started uid p
started_from (Started u q) uid p e = (let same = page_is u q uid p e in rw (same.0, same.1))
started_from _ uid p e = cc

-- a page that no frame is started for is being read into none
pub none_started : {core : Core} {uid p : ℕ} → IsNotStarted core uid p → (f : ℕ)
    → read_at (reads_of core) f ≢ Some (uid, p)
none_started {core} {uid} {p} h f e = h.none f (started_from (frame_at core f) uid p (sym (read_is core f) ∙ e))

-- a frame that is started for a page
pub started_for : (core : Core) (f uid p : ℕ) → frame_at core f ≡ Started uid p → read_at (reads_of core) f
    ≡ Some (uid, p)
started_for core f uid p e = cc (read_is core f)

pub same_vtocs : {D : Type 0} (new old : Vols D) → new ≡ old → new.vtocs ≡ old.vtocs
same_vtocs new old e = rw e

pub same_records : {D : Type 0} (new old : Vols D) → new ≡ old → new.records ≡ old.records
same_records new old e = rw e
