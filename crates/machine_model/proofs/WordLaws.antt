-- One page table word is changed: the words of all pages as a function.
use Rattle.machine_model.proofs.Prelude.{◌≡◌, ◌≢◌, ◌<◌, ℕ, Bool, true, not, List, [], length, set, get_or, Option, Some, None, inl, inr, refl, sym, ◌∙◌, position_or_len, eqb_tells, leb_tells, get_or_past, prefix_len_stops, Ptw, ActiveSegs, is_for, place_of, word_of, table_of, worded, at_put_two, by_not, Ptw as ptw, Active as Entry}
use Rattle.machine_model.proofs.ListLaws.{put_list}
use Rattle.machine_model.proofs.Places.{put_other}

-- what is found passes the test
pub found : {X : Type 0} (p : X → Bool) (xs : List X) (d : X) → position_or_len p xs < length xs
    → p (get_or xs (position_or_len p xs) d) ≡ true
found p xs d h = by_not (p (get_or xs (position_or_len p xs) d)) (prefix_len_stops (λ x. not (p x)) xs d h)

pub is_for_same : (u v : ℕ) (o : Option Entry) → is_for u o ≡ true → is_for v o ≡ true → u ≡ v
is_for_same u v None h i = cc
is_for_same u v (Some e) h i = elim (eqb_tells e.uid u) [
  | inl a ↦ elim (eqb_tells e.uid v) [
    | inl b ↦ sym a.1 ∙ b.1
    | inr n ↦
        cc
  ]
  | inr n ↦ cc
]

-- two segments that are active in one place are one
pub place_only : (entries : List (Option Entry)) (u v : ℕ) → place_of entries u < length entries
    → place_of entries v ≡ place_of entries u → v ≡ u
unfolding place_of
place_only entries u v within same = is_for_same v u (get_or entries (position_or_len (is_for u) entries) None)
    (cc (found (is_for v) entries None (rw same within))) (found (is_for u) entries None within)

-- the word of one page of an active segment is changed
pub word_put : (ast : ActiveSegs) (u p : ℕ) (w : Ptw) → place_of ast.entries u < length ast.entries
    → place_of ast.entries u < length ast.tables → p < length (table_of ast u) → (v q : ℕ)
    → word_of (worded ast u p w) v q ≡ at_put_two (λ x y. word_of ast x y) u p w v q
word_put ast u p w active there within v q = elim (eqb_tells v u) [
  | inl e ↦ rw e.0 (cc (here, put_list (table_of ast u) p w ptw.Null q within))
  | inr n ↦ rw n.0 (cc (other n.1))
]
  where
    now : List (List Ptw)
    now = set ast.tables (place_of ast.entries u) (set (table_of ast u) p w)

    here : get_or now (place_of ast.entries u) [] ≡ set (table_of ast u) p w
    here = put_list ast.tables (place_of ast.entries u) (set (table_of ast u) p w) [] (place_of ast.entries u) there
        ∙ elim (eqb_tells (place_of ast.entries u) (place_of ast.entries u)) [
          | inl e ↦ rw e.0 refl
          | inr n ↦
              absurd (n.1 refl)
        ]

    other : v ≢ u → get_or now (place_of ast.entries v) [] ≡ table_of ast v
    other n = put_list ast.tables (place_of ast.entries u) (set (table_of ast u) p w) [] (place_of ast.entries v) there
        ∙ put_other (λ k. get_or ast.tables k []) (place_of ast.entries u) (set (table_of ast u) p w)
        (place_of ast.entries v) (λ e. n (place_only ast.entries u v active e))

-- a page whose word isn't `Null` is within the table of its place
pub word_within : (ast : ActiveSegs) (u p : ℕ) → word_of ast u p ≢ ptw.Null
    → (place_of ast.entries u < length ast.tables) × (p < length (table_of ast u))
word_within ast u p n = (outer, inner)
  where
    inner : p < length (table_of ast u)
    inner = elim (leb_tells (length (table_of ast u)) p) [
      | inl e ↦
          absurd (n (get_or_past (table_of ast u) p ptw.Null e.1))
      | inr m ↦ m.1
    ]

    outer : place_of ast.entries u < length ast.tables
    outer = elim (leb_tells (length ast.tables) (place_of ast.entries u)) [
      | inl e ↦ absurd (n (rw (get_or_past ast.tables (place_of ast.entries u) [] e.1)))
      | inr m ↦ m.1
    ]
