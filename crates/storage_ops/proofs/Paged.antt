-- An active segment: its home, its page table, and which of its pages are stored.
use Rattle.storage_ops.proofs.Prelude.{◌≡◌, ◌≢◌, ℕ, zero, suc, ◌/◌, ◌%◌, ◌≤◌, true, false, ◌↔◌, List, [], eqb, ◌∷◌, Option, Some, None, replicate, refl, sym, ap, ◌∙◌, arith, inl, inr, position_or_len, cases_Bool, eqb-true, common_steps, same_Some, Who, Plan, AccountMaps, Store, IsBlank, VtocEntry, Entry, ActiveSegs, IsActive, uid_in_place, uid_in, Ptw, Here, Leaving, Home, Plain, binding_at, bindings, plain, frame_of, has_record, IsTied, words_at, Links, is_for, place_of, table_of, word_of, IsHomeOf, IsKept, IsStore, Shows, Storage, home_of, is_filed, is_there, pages_in, picture, all_same, passed_there, eq-eqb}
use Rattle.storage_ops.proofs.Homes.{filed_map, words_none}
use Rattle.storage_ops.proofs.Lengths.{filed_there}

not_for : {u : ℕ} (e : Option Entry) → is_for u e ≡ false → uid_in e ≢ Some u
not_for None h is = cc
not_for {u} (Some e) h is = (cc (eq-eqb e.uid u cc))

-- an active segment is in the place that is found for it
found_at : (xs : List (Option Entry)) (u place : ℕ) → uid_in_place xs place ≡ Some u
    → uid_in_place xs (position_or_len (is_for u) xs) ≡ Some u
found_at [] u place at = cc
found_at (x ∷ xs) u place at = elim (cases_Bool (is_for u x)) [
  | inl is ↦ (let first : position_or_len (is_for u) (x ∷ xs) ≡ 0 = grind (arith, common_steps) in
      let own = passed_there (λ (e : Entry). eqb e.uid u) x is in
      ap (uid_in_place (x ∷ xs)) first ∙ ap uid_in own.1 ∙ ap Some (eqb-true own.0.uid u own.2))
  | inr isnt ↦
      (let next : position_or_len (is_for u) (x ∷ xs) ≡ suc (position_or_len (is_for u) xs) =
      grind (arith, common_steps) in
      ap (uid_in_place (x ∷ xs)) next ∙ later (λ n e. found_at xs u n e) place at isnt)
]
  where
    later : ((n : ℕ) → uid_in_place xs n ≡ Some u → uid_in_place xs (position_or_len (is_for u) xs) ≡ Some u)
        → (place : ℕ) → uid_in_place (x ∷ xs) place ≡ Some u → is_for u x ≡ false
        → uid_in_place xs (position_or_len (is_for u) xs) ≡ Some u
    later ih zero at isnt = absurd (not_for x isnt at)
    later ih (suc n) at isnt = ih n at

pub active_place : (entries : List (Option Entry)) (u : ℕ) → IsActive entries u
    → uid_in_place entries (place_of entries u) ≡ Some u
unfolding place_of
active_place entries u active = found_at entries u active.0 active.1

module _ {now : Plain} {ast : ActiveSegs} {links : Links} {a : AccountMaps} {whos : List Who} (k : IsKept now ast links)
    (h : IsStore now ast links a whos) {u : ℕ} (active : IsActive ast.entries u) where
  pub active_there : is_there a.nodes u ≡ true
  active_there = h.active.there active.0 u active.1

  pub active_home : IsHomeOf now.vtocs u (home_of a u)
  active_home = record { used = h.housed.homes u active_there; only = λ other e. h.housed.only other u e }

  pub active_tie : IsTied now u (home_of a u) (table_of ast u)
  active_tie = k.paged.ties (place_of ast.entries u) u (home_of a u) (active_place ast.entries u active) active_home

  -- a page of it is stored where its word says so
  pub word_filed : (q : ℕ) → is_filed a now.vtocs u q ≡ has_record (word_of ast u q)
  word_filed q = filed_there a now.vtocs u q active_there ∙ filed_map now.vtocs (home_of a u) q
      ∙ active_tie.map.stored q

pub framed_recorded : (w : Ptw) {f : ℕ} → frame_of w ≡ Some f → has_record w ≡ true
framed_recorded (Here g) e = refl
framed_recorded (Leaving g) e = refl
framed_recorded _ e = cc

-- a page that isn't stored is in no frame
pub unfiled_unframed : {now : Plain} {ast : ActiveSegs} {links : Links} {a : AccountMaps} {whos : List Who}
    → IsKept now ast links → IsStore now ast links a whos → (u q : ℕ) → is_filed a now.vtocs u q ≡ false → (f : ℕ)
    → binding_at (bindings now.core) f ≢ Some (u, q)
unfiled_unframed {now} {ast} {links} {a} {whos} k h u q off f e =
    let active = k.paged.bound f u q e in
    cc (
      framed_recorded (word_of ast u q) ((active_tie k h active).table.named f q e),
      word_filed k h active q,
    )

-- a page that isn't stored is all zeros
pub picture_none : {now : Plain} {ast : ActiveSegs} {links : Links} {a : AccountMaps} {whos : List Who}
    → IsKept now ast links → IsStore now ast links a whos → (u q : ℕ) → is_filed a now.vtocs u q ≡ false
    → picture a (words_at now) u q ≡ replicate 1024 0
unfolding picture
picture_none {now} {ast} {links} {a} {whos} k h u q off = grind (arith, words_none, unfiled_unframed, filed_there)

-- the words of what isn't stored are 0 in each flat store that is shown
pub blank_shown : {D : Type 0} {drive : D → List (List ℕ)} {p : Plan} {s : Store} {t : Storage D}
    → IsKept (plain drive t.segs.pages) t.segs.ast t.segs.links
    → IsStore (plain drive t.segs.pages) t.segs.ast t.segs.links t.accounts t.whos → Shows drive p s t → IsBlank s
blank_shown {drive} {t} k h shown u o off = cc (
  shown.pages.words u o,
  all_same {X = ℕ} 1024 (o % 1024) 0,
  picture_none k h u (o / 1024) (sym (shown.pages.stored u (o / 1024)) ∙ off),
)

-- ---- what is there, and what isn't

pub picture_there : (a : AccountMaps) (image : ℕ → Home → ℕ → List ℕ) (u q : ℕ) → is_there a.nodes u ≡ true
    → picture a image u q ≡ image u (home_of a u) q
unfolding picture
picture_there a image u q t = cc

pub picture_absent : (a : AccountMaps) (image : ℕ → Home → ℕ → List ℕ) (u q : ℕ) → is_there a.nodes u ≡ false
    → picture a image u q ≡ replicate 1024 0
unfolding picture
picture_absent a image u q t = cc

pub filed_absent : (a : AccountMaps) (vtocs : List (List (Option VtocEntry))) (u q : ℕ) → is_there a.nodes u ≡ false
    → is_filed a vtocs u q ≡ false
unfolding is_filed
filed_absent a vtocs u q t = cc

-- no page from the length of a segment on is stored
pub past_unfiled : {now : Plain} {ast : ActiveSegs} {links : Links} {a : AccountMaps} {whos : List Who}
    → IsKept now ast links → IsStore now ast links a whos → {u : ℕ} → IsActive ast.entries u → (page : ℕ)
    → pages_in a.nodes u ≤ page → (q : ℕ) → page ≤ q → is_filed a now.vtocs u q ≡ false
past_unfiled {now} {ast} {links} {a} {whos} k h {u} active page past q le = grind (arith, active_there, filed_there)

-- the place that is found for an active segment is its place
pub place_found : (entries : List (Option Entry)) (u place : ℕ) (r : Option ℕ) → IsActive entries u
    → ((n : ℕ) → (r ≡ Some n) ↔ (uid_in_place entries n ≡ Some u)) → r ≡ Some place → place_of entries u ≡ place
place_found entries u place r active only is = same_Some (place_of entries u) place
    (sym ((only (place_of entries u)).1 (active_place entries u active)) ∙ is)
