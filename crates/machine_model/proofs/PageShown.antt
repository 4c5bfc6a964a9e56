-- What the flat store says of a page, by the word of the page: whether it is stored, and which words it has.
use Rattle.machine_model.proofs.Basics.{◌≡◌, ℕ, true, false, ◌&&◌, eqb, is_some, [], get_or, position, replicate, Option, Some, None, inl, inr, refl, sym, ◌∙◌, ◌/◌, ◌%◌, eqb_tells, uid_at, is_binding, is_filed_at, words_at, words_held, words_of_page, bindings, words_in, has_record, vtoc_in, place_of, table_of, word_of, IsHomeOf, record_at, is_stored, is_filed, is_there, picture, seen, Keeps, flat_of, home_in, is_active, State, and_both, zeros_read, Ptw as ptw}
use Rattle.page_control.specs.Ties.{IsTied}
use Rattle.machine_model.proofs.ActiveSeen.{active_place}
use Rattle.machine_model.proofs.FindLaws.{position_at, position_none}

both_same : (a b c d : ℕ) → a ≡ c → b ≡ d → (eqb a c && eqb b d) ≡ true
both_same a b c d x y = elim (eqb_tells a c) [
  | inl e ↦ elim (eqb_tells b d) [ inl i ↦ rw (e.0, i.0) refl | inr n ↦ absurd (n.1 y) ]
  | inr n ↦ absurd (n.1 x)
]

pub bound_tells : (u p : ℕ) (x : Option (ℕ × ℕ)) → is_binding u p x ≡ true → x ≡ Some (u, p)
bound_tells u p None h = cc
bound_tells u p (Some page) h = let both = and_both page.0 page.1 u p h in λ i. Some (both.0 i, both.1 i)

module _ (s : State) (k : Keeps s) where
  -- a page in a frame has the words of the frame
  pub frame_words : (u f p : ℕ) → (seen s).bound f ≡ Some (u, p)
      → words_at s.store.pages u (home_in s.store u) p ≡ words_in s.store.pages f
  unfolding words_of_page
  frame_words u f p bound = by (position (is_binding u p) (bindings s.store.pages.core)) refl
    where
      filed : Option ℕ
      filed = record_at (vtoc_in s.store.pages.vtocs (home_in s.store u).volume) (home_in s.store u).entry p

      by : (x : Option ℕ) → position (is_binding u p) (bindings s.store.pages.core) ≡ x
          → words_held s.store.pages.frames (get_or s.store.pages.disks (home_in s.store u).volume []) filed x
          ≡ words_in s.store.pages f
      by None e = cc (
        both_same u p u p refl refl,
        position_none (is_binding u p) (bindings s.store.pages.core) None f e refl,
      )
      by (Some g) e = cc (same)
        where
          there : (seen s).bound g ≡ Some (u, p)
          there = bound_tells u p ((seen s).bound g)
              (position_at (is_binding u p) (bindings s.store.pages.core) None g e).1

          same : g ≡ f
          same = let one = sym (k.book.tied.named g u p there) ∙ k.book.tied.named f u p bound in cc

module _ (s : State) (k : Keeps s) (u : ℕ) (active : is_active s.store.ast u ≡ true) where
  place_is : uid_at s.store.ast.entries (place_of s.store.ast.entries u) ≡ Some u
  place_is = (active_place s.store.ast u active).1

  -- what is active is in the tree
  pub active_there : is_there s.store.accounts.nodes u ≡ true
  active_there = k.store.counted.active.there (place_of s.store.ast.entries u) u place_is

  home_is : IsHomeOf s.store.pages.vtocs u (home_in s.store u)
  home_is = record {
    used = k.store.counted.housed.homes u active_there;
    only = λ other e. k.store.counted.housed.only other u e;
  }

  tie : IsTied s.store.pages u (home_in s.store u) (table_of s.store.ast u)
  tie = k.store.kept.paged.ties (place_of s.store.ast.entries u) u (home_in s.store u) place_is home_is

  -- a page is stored where its word says that it has a record
  pub stored_is : (p : ℕ) → is_stored (flat_of s).stored u p ≡ has_record (word_of s.store.ast u p)
  unfolding is_filed is_filed_at
  stored_is p = cc (k.faithful.pages.stored u p, active_there, tie.map.stored p)

  -- its words are those of the picture
  pub words_are : (o : ℕ) → (flat_of s).words u o
      ≡ get_or (words_at s.store.pages u (home_in s.store u) (o / 1024)) (o % 1024) 0
  unfolding picture
  words_are o = cc (k.faithful.pages.words u o, active_there)

  pub bound_word : (f o : ℕ) → (seen s).bound f ≡ Some (u, o / 1024)
      → (flat_of s).words u o ≡ get_or (words_in s.store.pages f) (o % 1024) 0
  bound_word f o bound = cc (words_are o, frame_words s k u f (o / 1024) bound)

  -- a page that has no record is all zeros
  null_words : (p : ℕ) → word_of s.store.ast u p ≡ ptw.Null
      → words_at s.store.pages u (home_in s.store u) p ≡ replicate 1024 0
  unfolding words_of_page
  null_words p null = by (position (is_binding u p) (bindings s.store.pages.core)) refl
    where
      filed : Option ℕ
      filed = record_at (vtoc_in s.store.pages.vtocs (home_in s.store u).volume) (home_in s.store u).entry p

      none_filed : filed ≡ None
      none_filed = none filed (cc (tie.map.stored p))
        where
          none : (x : Option ℕ) → is_some x ≡ false → x ≡ None
          none None h = refl
          none (Some r) h = cc

      by : (x : Option ℕ) → position (is_binding u p) (bindings s.store.pages.core) ≡ x
          → words_held s.store.pages.frames (get_or s.store.pages.disks (home_in s.store u).volume []) filed x
          ≡ replicate 1024 0
      by None e = cc (none_filed)
      by (Some g) e = cc (k.book.tied.named g u p (bound_tells u p ((seen s).bound g)
          (position_at (is_binding u p) (bindings s.store.pages.core) None g e).1))

  pub null_word : (o : ℕ) → word_of s.store.ast u (o / 1024) ≡ ptw.Null → (flat_of s).words u o ≡ 0
  null_word o null = cc (words_are o, null_words (o / 1024) null, zeros_read 1024 (o % 1024))
