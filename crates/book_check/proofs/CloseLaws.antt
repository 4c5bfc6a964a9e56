-- What follows the entries (own).
use Rattle.book_check.proofs.Prelude.{◌≡◌, ◌≢◌, ℕ, ◌+◌, ◌<◌, ◌≤◌, Bool, true, false, List, length, Result, Ok, Err, refl, sym, ap, subst, ◌∙◌, arith, inl, inr, cases_Bool, Decides, lines_of, Plan, Entry, all_within, IsComplete, IsSettled, store_after, is_stored, is_zero_page, quota_in, used_by, IsTree, Store, progress_of, Kept, Shows, HasZeroPage, Tables, summary_of, summary_text, Closes, HaveEnded, IsAfter, Judged, IsWhole, due_lines, same_lines, CheckFault}
use Rattle.book_check.specs.declared.offences.Rule.TheVariants as rule
use Rattle.book_check.specs.declared.offences.CheckFault.TheVariants as fault
use Rattle.book_check.proofs.EndLaws.{complete_told, ended_told}

pub not_ended : (p : Plan) (s : Store) (k : ℕ) (r : Bool) → k < length p.processes → r ≡ (progress_of s k).ended → r
    ≡ false → Decides false (HaveEnded p s)
unfolding HaveEnded
not_ended p s k r lt is no_ = (λ e. cc, λ all. let clash : false ≡ true = sym no_ ∙ is ∙ all k lt in cc)

pub all_ended : (p : Plan) (s : Store) (k : ℕ) → length p.processes ≤ k
    → ((j : ℕ) → j < k → (progress_of s j).ended ≡ true) → Decides true (HaveEnded p s)
unfolding HaveEnded
all_ended p s k most all = (λ e j lt. all j (omega (arith, lt, most)), λ h. refl)

-- each stored page has a word other than 0
no_zeros : (s : Store) → (HasZeroPage s → ⊥) → (u q : ℕ) → is_stored s.stored u q ≡ true
    → is_zero_page s.words u q ≡ false
unfolding HasZeroPage
no_zeros s none u q there = elim (cases_Bool (is_zero_page s.words u q)) [
  | inl e ↦ absurd (none (u, q, record { there = there; zeros = e }))
  | inr m ↦ m
]

module _ (p : Plan) (k : Kept) (t : Tables) (n : ℕ) (j : Judged)
    (is : record { script = p; store = k; custody = t; entries = n } ≡ j) (first : ℕ) (summary : List (List ℕ))
  where
    -- the same of the parts of what is kept
    to_parts : (v : Result ℕ CheckFault) → Closes (record { script = p; store = k; custody = t; entries = n }) first
        summary v → Closes j first summary v
    to_parts v h = subst (λ (x : Judged). Closes x first summary v) is h

    pub closed_early : (ended : Bool) (f : CheckFault) → ((s : Store) → Shows p k s → Decides ended (HaveEnded p s))
        → ended ≡ false
        → f ≡ fault.Refused (record { line = first + n; rule = rule.Incomplete }) → Closes j first summary (Err f)
    unfolding Closes
    closed_early ended f told no_ same = subst (λ (x : CheckFault). Closes j first summary (Err x)) (sym same)
        (to_parts (Err (fault.Refused (record { line = first + n; rule = rule.Incomplete }))) (λ es after. (
          ap (λ (m : ℕ). first + m) after.count,
          λ complete. let clash : false ≡ true = sym no_
              ∙ (told (store_after p es) after.shown).1 (ended_told p es after.ends complete) in cc,
        )))

    module _ (ended : Bool) (told : (s : Store) → Shows p k s → Decides ended (HaveEnded p s)) (yes_ : ended ≡ true)
      where
        complete : (es : List Entry) → IsAfter (record { script = p; store = k; custody = t; entries = n }) es
            → IsComplete p es
        complete es after = complete_told p es after.ends ((told (store_after p es) after.shown).0 yes_)

        pub closed_zeros : (has : Bool) (f : CheckFault)
            → ((q : Plan) (s : Store) → Shows q k s → Decides has (HasZeroPage s)) → has ≡ true
            → f ≡ fault.Refused (record { line = first + n; rule = rule.ZeroPage }) → Closes j first summary (Err f)
        unfolding Closes
        closed_zeros has f zeros found same = subst (λ (x : CheckFault). Closes j first summary (Err x)) (sym same)
            (to_parts (Err (fault.Refused (record { line = first + n; rule = rule.ZeroPage }))) (λ es after. (
              ap (λ (m : ℕ). first + m) after.count,
              complete es after,
              (zeros p (store_after p es) after.shown).0 found,
            )))

        module _ (has : Bool) (zeros : (q : Plan) (s : Store) → Shows q k s → Decides has (HasZeroPage s))
            (none : has ≡ false) (text : List ℕ)
            (due : (s : Store) → Shows p k s → text ≡ summary_text (summary_of p s))
            (tree : (s : Store) → Shows p k s → IsTree s.nodes)
            (within : (s : Store) → Shows p k s → (a : ℕ) → used_by s.nodes s.stored a ≤ quota_in s.nodes a)
          where
            whole : (es : List Entry) → IsAfter (record { script = p; store = k; custody = t; entries = n }) es
                → IsWhole p es
            whole es after = record {
              complete = complete es after;
              zeros = λ h. let clash : false ≡ true = sym none ∙ (zeros p (store_after p es) after.shown).1 h in cc;
            }

            lines : (es : List Entry) → IsAfter (record { script = p; store = k; custody = t; entries = n }) es
                → lines_of text ≡ due_lines p es
            lines es after = ap lines_of (due (store_after p es) after.shown)

            settled : (es : List Entry) → IsAfter (record { script = p; store = k; custody = t; entries = n }) es
                → IsSettled p (store_after p es)
            settled es after = record {
              quotas = after.total;
              within = all_within (store_after p es) (tree (store_after p es) after.shown)
                  (within (store_after p es) after.shown);
              words = no_zeros (store_after p es) (whole es after).zeros;
            }

            pub closed_well : summary ≡ lines_of text → Closes j first summary (Ok n)
            unfolding Closes
            closed_well same = to_parts (Ok n) (λ es after. (
              after.count,
              whole es after,
              same ∙ lines es after,
              settled es after,
            ))

            pub closed_wrong : (same : ℕ) (f : CheckFault) → same ≡ same_lines summary (lines_of text)
                → summary ≢ lines_of text → f ≡ fault.Refused (record { line = first + n + same; rule = rule.WrongSum })
                → Closes j first summary (Err f)
            unfolding Closes
            closed_wrong same f count other is_f = subst (λ (x : CheckFault). Closes j first summary (Err x)) (sym is_f)
                (to_parts (Err (fault.Refused (record { line = first + n + same; rule = rule.WrongSum })))
                (λ es after. (
                  let a : first + n ≡ first + length es = ap (λ (m : ℕ). first + m) after.count in
                      let b : same ≡ same_lines summary (due_lines p es) = count
                      ∙ ap (same_lines summary) (lines es after) in
                      ap (λ (m : ℕ). m + same) a ∙ ap (λ (m : ℕ). first + length es + m) b,
                  whole es after,
                  λ e. other (e ∙ sym (lines es after)),
                )))

    pub closed_short : Closes j first summary (Err fault.Memory)
    unfolding Closes
    closed_short es after = tt
