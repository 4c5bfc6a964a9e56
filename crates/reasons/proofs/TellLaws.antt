-- What is told of a listing.
use Rattle.reasons.proofs.Prelude.{◌≡◌, ℕ, ◌+◌, Bool, true, false, List, [], ◌∷◌, length, Option, Some, None, Result, Ok, Err, refl, sym, ap, subst, ◌∙◌, inl, inr, IfOk, lines_of, script_of, Plan, Refusal, Entry, IsTheVerdict, entry_lines, first_number, is_summary, listing_lines, script_lines, script_of_lines, summary_lines, IsAfter, Judged, AreJudged, Breaks, BreaksEntry, IsJudged, IsJudgedBy, Offence, Rule, AreUpTo, Begins, EndsBefore, IsRefused, IsWatched, Passes, IsSince, IsWhy, first_of, is_end, why_line, HasLine, HasText, IsTold, IsUnfaulted, MayLackReason, Tells, TellsOrNot, Reason}
use Rattle.book_check.specs.declared.offences.CheckFault.TheVariants as fault
use Rattle.book_check.specs.declared.offences.Rule.TheVariants as rule
use Rattle.reasons.proofs.PassLaws.{up_to}

-- the script of a judge is the one that was read
pub same_script : (bytes : List ℕ) (j : Judged) (p : Plan) → Begins bytes j → script_of bytes ≡ Ok p → j.script ≡ p
same_script bytes j p is read = let both : Ok j.script ≡ Ok p = sym is.script ∙ read in cc

pub since_told : (bytes : List ℕ) (first next : Judged) (n : ℕ) (all left : List (List ℕ)) (r : Reason)
    (rs : Option Reason) (line : Option ℕ) (p : Plan) (o : Offence) → Begins bytes first → script_of bytes ≡ Ok p
    → next.script ≡ first.script → rs ≡ Some r → Passes next n all left rs line → EndsBefore next left
    → IsJudged p n all (Err (fault.Refused o)) → HasLine p n all o r line
since_told bytes first next n all left r rs None p o is read kept some passes ends judged = tt
since_told bytes first next n all left r rs (Some line) p o is read kept some passes ends judged = record {
  entries = passes.entries;
  left = left;
  up_to = subst (λ (q : Plan). AreUpTo q n all o passes.entries left) script
      (up_to next n all left rs (Some line) o passes ends
      (subst (λ (q : Plan). IsJudged q n all (Err (fault.Refused o))) (sym script) judged));
  since = subst (λ (q : Plan). IsSince q r n passes.entries line) script
      (subst (λ (x : Option Reason). IsWatched next.script n passes.entries x (Some line)) some passes.since);
}
  where
    script : next.script ≡ p
    script = kept ∙ same_script bytes first p is read

-- ---- the text

pub has_text : (p : Plan) (n : ℕ) (lines : List (List ℕ)) (o : Offence) (r : Reason) (since : Option ℕ) (text : List ℕ)
    → HasLine p n lines o r since → text ≡ why_line p r since → HasText p n lines o r text
has_text p n lines o r since text has is = record { since = since; has_line = has; is_line = is }

module _ (bytes : List ℕ) (p : Plan) (n : ℕ) (lines : List (List ℕ)) (o : Offence) (es : List Entry)
    (left : List (List ℕ)) (text : List ℕ)
  where
    pub tells : (r : Reason) → IsWhy bytes p es (first_of left) (is_end left) o.rule r → HasText p n lines o r text
        → TellsOrNot bytes p n lines o es left text
    tells r why has = inl (record { reason = r; why = why; has_text = has })

-- the same of what a call answers
module _ (A E : Type 0) (items : A → List ℕ) (result : Result A E) (bytes script : List ℕ) (n : ℕ)
    (lines : List (List ℕ)) (o : Offence)
  where
    pub tells_ok : (p q : Plan) (es : List Entry) (left : List (List ℕ)) (r : Reason) → q ≡ p
        → script_of script ≡ Ok p → IsJudged p n lines (Err (fault.Refused o))
        → IsWhy bytes p es (first_of left) (is_end left) o.rule r
        → ((x : Offence) → script_of script ≡ Ok q → IsJudged q n lines (Err (fault.Refused x))
        → IfOk result (λ t. HasText q n lines x r (items t)))
        → IfOk result (λ t. TellsOrNot bytes p n lines o es left (items t))
    tells_ok p q es left r same read judged why has = each result
        (has o (read ∙ ap (λ (x : Plan). Ok x) (sym same))
        (subst (λ (x : Plan). IsJudged x n lines (Err (fault.Refused o))) (sym same) judged))
      where
        each : (x : Result A E) → IfOk x (λ t. HasText q n lines o r (items t))
            → IfOk x (λ t. TellsOrNot bytes p n lines o es left (items t))
        each (Ok t) h = tells bytes p n lines o es left (items t) r why
            (subst (λ (x : Plan). HasText x n lines o r (items t)) same h)
        each (Err e) h = tt

-- ---- the whole

-- the first line that is left before the summary is the first of all
entry_there : (ls : List (List ℕ)) (next : List ℕ) (xs : List (List ℕ)) → entry_lines ls ≡ next ∷ xs
    → next ≡ first_of ls
unfolding entry_lines
entry_there [] next xs is = cc
entry_there (l ∷ ls) next xs is = each (is_summary l) refl
  where
    each : (z : Bool) → is_summary l ≡ z → next ≡ l
    each true first =
        let none : entry_lines (l ∷ ls) ≡ [] = rw first refl in
        let clash : [] ≡ next ∷ xs = sym none ∙ is in cc
    each false other =
        let some : entry_lines (l ∷ ls) ≡ l ∷ entry_lines ls = rw other refl in
        let both : l ∷ entry_lines ls ≡ next ∷ xs = sym some ∙ is in cc

-- a rule is broken, so a reason is found, but for two of the rules
module _ (p : Plan) (es : List Entry) (n line : ℕ) (left summary : List (List ℕ)) where
  lacks : (xs : List (List ℕ)) (r : Rule) → entry_lines left ≡ xs → Breaks p es n xs summary line r
      → IsUnfaulted p es (first_of left) r → MayLackReason r
  lacks xs rule.NoEntry is breaks unfaulted = tt
  lacks xs rule.WrongSum is breaks unfaulted = tt
  lacks [] rule.NotLegal is breaks unfaulted = absurd breaks
  lacks [] rule.NotClean is breaks unfaulted = absurd breaks
  lacks [] rule.Incomplete is breaks unfaulted = absurd (breaks.1 unfaulted)
  lacks [] rule.ZeroPage is breaks unfaulted = absurd (unfaulted breaks.2)
  lacks (next ∷ xs) rule.NotLegal is breaks unfaulted =
      absurd (unfaulted (subst (λ (l : List ℕ). BreaksEntry p es l rule.NotLegal) (entry_there left next xs is)
      breaks.1))
  lacks (next ∷ xs) rule.NotClean is breaks unfaulted =
      absurd (unfaulted (subst (λ (l : List ℕ). BreaksEntry p es l rule.NotClean) (entry_there left next xs is)
      breaks.1))
  lacks (next ∷ xs) rule.Incomplete is breaks unfaulted = absurd breaks.1
  lacks (next ∷ xs) rule.ZeroPage is breaks unfaulted = absurd breaks.1

-- ---- the whole

module _ (bytes script listing : List ℕ) (n : ℕ) (head : lines_of script ≡ script_lines (lines_of bytes))
    (tail : lines_of listing ≡ listing_lines (lines_of bytes)) (first : n ≡ first_number (lines_of bytes)) (o : Offence)
    (verdict : IsTheVerdict bytes (Err (fault.Refused o)))
  where
    script_is : script_of script ≡ script_of_lines (script_lines (lines_of bytes))
    unfolding script_of script_of_lines
    script_is = ap script_of_lines head

    judged_by : IsJudgedBy (script_of_lines (script_lines (lines_of bytes))) (first_number (lines_of bytes))
        (listing_lines (lines_of bytes)) (Err (fault.Refused o))
    unfolding IsTheVerdict AreJudged
    judged_by = (verdict (Err (fault.Refused o))).1 refl

    by_script : (x : Result Plan Refusal) → script_of script ≡ x
        → IsJudgedBy x (first_number (lines_of bytes)) (listing_lines (lines_of bytes)) (Err (fault.Refused o))
    by_script x is = subst (λ (y : Result Plan Refusal). IsJudgedBy y (first_number (lines_of bytes))
        (listing_lines (lines_of bytes)) (Err (fault.Refused o))) (sym script_is ∙ is) judged_by

    pub not_refused : IsRefused script → ⊥
    not_refused is = let clash = by_script (Err is.refusal) is.refused in cc

    pub is_judged : (p : Plan) → script_of script ≡ Ok p → IsJudged p n (lines_of listing) (Err (fault.Refused o))
    is_judged p is = subst (λ (m : ℕ). IsJudged p m (lines_of listing) (Err (fault.Refused o))) (sym first)
        (subst (λ (xs : List (List ℕ)). IsJudged p (first_number (lines_of bytes)) xs (Err (fault.Refused o)))
        (sym tail)
        (by_script (Ok p) is))

    pub is_told : (start j : Judged) (left : List (List ℕ)) (r : Option Reason) (since : Option ℕ) (text : List ℕ)
        → Begins script start → j.script ≡ start.script → Passes j n (lines_of listing) left r since
        → EndsBefore j left
        → ((es : List Entry) → IsAfter j es → script_of script ≡ Ok j.script
        → IsJudged j.script n (lines_of listing) (Err (fault.Refused o))
        → TellsOrNot bytes j.script n (lines_of listing) o es left text)
        → IsTold bytes o text
    is_told start j left r since text begins same passes ends tells =
        each (tells passes.entries passes.after read (is_judged j.script read))
      where
        read : script_of script ≡ Ok j.script
        read = begins.script ∙ ap (λ (p : Plan). Ok p) (sym same)

        there : AreUpTo j.script n (lines_of listing) o passes.entries left
        there = up_to j n (lines_of listing) left r since o passes ends (is_judged j.script read)

        at_first : (P : ℕ → List (List ℕ) → Type 0) → P n (lines_of listing)
            → P (first_number (lines_of bytes)) (listing_lines (lines_of bytes))
        at_first P h = subst (P (first_number (lines_of bytes))) tail (subst (λ (m : ℕ). P m (lines_of listing)) first
            h)

        each : TellsOrNot bytes j.script n (lines_of listing) o passes.entries left text
            → IsTold bytes o text
        each (inl told) = inl (record {
          script = j.script;
          read = sym script_is ∙ read;
          entries = passes.entries;
          left = left;
          up_to = at_first (λ m xs. AreUpTo j.script m xs o passes.entries left) there;
          tells = at_first (λ m xs. Tells bytes j.script m xs o passes.entries left text) told;
        })
        each (inr none) = inr (
          none.none,
          lacks j.script passes.entries (n + length passes.entries) o.line left (summary_lines left) (entry_lines left)
              o.rule refl there.breaks none.unfaulted,
        )

    pub is_told_ok : (A E : Type 0) (items : A → List ℕ) (result : Result A E) (start j : Judged)
        (left : List (List ℕ)) (r : Option Reason) (since : Option ℕ) → Begins script start
        → j.script ≡ start.script → Passes j n (lines_of listing) left r since → EndsBefore j left
        → ((es : List Entry) → IsAfter j es → script_of script ≡ Ok j.script
        → IsJudged j.script n (lines_of listing) (Err (fault.Refused o))
        → IfOk result (λ t. TellsOrNot bytes j.script n (lines_of listing) o es left (items t)))
        → IfOk result (λ t. IsTold bytes o (items t))
    is_told_ok A E items (Ok t) start j left r since begins same passes ends tells =
        is_told start j left r since (items t) begins same passes ends tells
    is_told_ok A E items (Err e) start j left r since begins same passes ends tells = tt
