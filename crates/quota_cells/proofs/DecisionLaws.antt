-- What a move is refused for, by the numbers of three directories.
use Rattle.quota_cells.proofs.Prelude.{◌≡◌, ◌≢◌, ℕ, ◌+◌, ◌-◌, true, false, eqb, ltb, not, ◌&&◌, List, refl, ◌∙◌, inl, inr, cases_Bool, cases_lt, le-ltb, lt-ltb, above, account, superior_of, Node, shapes, CellMaps, quota_in, load_in, move_answer, cell_in, load_grown, is_account_over, is_giver_over, refusal_down, refusal_up}
use Rattle.quota_cells.proofs.TransferLaws.{Between, above_yes, above_no, over_s, over_d, first_is_s, first_is_d, none_down, down_is, up_is, up_over_s, up_over_d, up_first_s, up_first_d, up_none}

module _ {nodes : List Node} {c : CellMaps} {d s n : ℕ} (between : Between nodes c d s n)
    (is : superior_of (above (shapes nodes)) d ≡ s) where
  abbrev q : ℕ → ℕ
  q = quota_in c

  abbrev f : ℕ → List ℕ
  f = above (shapes nodes)

  pub down_decided : refusal_down (cell_in c d) (cell_in c s) (cell_in c (account q (f s))) n ≡ move_answer c f d true n
  down_decided = elim (cases_lt (q s) n) [
    | inl few ↦ rw is (rw (lt-ltb (q s) n few) refl)
    | inr enough ↦
        (let giver = over_s between enough in
        let getter = over_d between enough in
        let none = above_no between enough in
        rw (le-ltb (q s) n enough, down_is between enough is)
        (elim (cases_Bool (is_account_over (cell_in c d) (cell_in c s) (cell_in c (account q (f s))) n)) [
          | inl y ↦ rw (y, above_yes between enough y) refl
          | inr quiet ↦ elim (cases_Bool (is_giver_over (cell_in c d) (cell_in c s) n)) [
            | inl y ↦ rw (quiet, y, first_is_s between enough (none quiet) (giver ∙ y)) refl
            | inr not_s ↦ elim (cases_Bool (ltb (q d + n) (load_in c d))) [
              | inl y ↦ rw (
                quiet,
                not_s,
                y,
                first_is_d between enough (none quiet) (cc) (getter ∙ y),
              ) refl
              | inr not_d ↦ rw (
                quiet,
                not_s,
                not_d,
                none_down between enough (none quiet) (cc) (cc),
              ) refl
            ]
          ]
        ]))
  ]

  pub up_decided : d ≢ 1 → refusal_up (cell_in c d) (cell_in c s) n ≡ move_answer c f d false n
  up_decided ne = elim (cases_lt (q d) n) [
    | inl few ↦ rw is (rw (lt-ltb (q d) n few) refl)
    | inr enough ↦
        (let getter = up_over_s between enough in
        let giver = up_over_d between enough ne in
        rw (up_is between enough is, le-ltb (q d) n enough)
        (elim (cases_Bool (ltb (q s + n) (load_grown (cell_in c d) (cell_in c s) n))) [
          | inl y ↦ rw (y, up_first_s between enough (getter ∙ y)) refl
          | inr not_s ↦ elim (cases_Bool (not (eqb (q d - n) 0) && ltb (q d - n) (load_in c d))) [
            | inl y ↦ rw (not_s, y, up_first_d between enough (cc) (giver ∙ y)) refl
            | inr not_d ↦ rw (not_s, not_d, up_none between enough (cc) (cc)) refl
          ]
        ]))
  ]
