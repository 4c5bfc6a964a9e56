-- The verdict on a whole input (own).
use Rattle.book_check.proofs.Prelude.{◌≡◌, ◌↔◌, ℕ, List, [], Result, Ok, Err, sym, ap, subst, ◌∙◌, lines_of, Reads, script_of, Plan, Refusal, ScriptFault, Closes, IsOneVerdict, IsTheVerdict, OrMemory, of_script, Finds, IsReached, entry_lines, first_number, listing_lines, script_lines, script_of_lines, Judged, AreJudged, IsJudged, IsJudgedBy, CheckFault}
use Rattle.script.specs.declared.reader.ScriptFault.TheVariants as unread
use Rattle.book_check.specs.declared.offences.CheckFault.TheVariants as fault
use Rattle.book_check.proofs.GoingLaws.{summary_all}
use Rattle.book_check.proofs.VerdictLaws.{end_only, end_there}

-- the summary decides
pub closed : (j : Judged) (n : ℕ) (all left : List (List ℕ)) (given : Result ℕ CheckFault) → IsReached j n all left
    → entry_lines left ≡ [] → Closes j n left given → OrMemory (IsOneVerdict j.script n all) given
unfolding Closes IsOneVerdict
closed j n all left given is ended closes = each given (closes is.entries is.after)
  where
    one : (g : Result ℕ CheckFault) → Finds j.script n is.entries [] left g → (v : Result ℕ CheckFault)
        → IsJudged j.script n all v ↔ (v ≡ g)
    one g found v =
        let here = subst (λ (xs : List (List ℕ)). Finds j.script n is.entries [] xs g) (sym (summary_all left ended))
        found in (
          λ h. end_only j.script n is.entries left g ended is.after.stand here v ((is.same v).0 h),
          λ e. (is.same v).1 (end_there j.script n is.entries left g ended is.after.stand here v e),
        )

    each : (g : Result ℕ CheckFault) → OrMemory (Finds j.script n is.entries [] left) g
        → OrMemory (IsOneVerdict j.script n all) g
    each (Ok count) h = one (Ok count) h
    each (Err (fault.Refused o)) h = one (Err (fault.Refused o)) h
    each (Err (fault.Script r)) h = one (Err (fault.Script r)) h
    each (Err fault.Memory) h = tt

pub closed_told : (p : Plan) (j : Judged) (n : ℕ) (all left : List (List ℕ)) (given : Result ℕ CheckFault) → j.script
    ≡ p → IsReached j n all left → entry_lines left ≡ [] → Closes j n left given → OrMemory (IsOneVerdict p n all) given
closed_told p j n all left given same is ended closes =
    subst (λ (q : Plan). OrMemory (IsOneVerdict q n all) given) same (closed j n all left given is ended closes)

-- the same by the script's lines
script_by_lines : (bytes : List ℕ) (lines : List (List ℕ)) → lines_of bytes ≡ lines → script_of bytes
    ≡ script_of_lines lines
unfolding script_of script_of_lines
script_by_lines bytes lines e = ap script_of_lines e

module _ (bytes script listing : List ℕ) (n : ℕ) (head : lines_of script ≡ script_lines (lines_of bytes))
    (tail : lines_of listing ≡ listing_lines (lines_of bytes)) (first : n ≡ first_number (lines_of bytes))
  where
    script_is : script_of script ≡ script_of_lines (script_lines (lines_of bytes))
    script_is = script_by_lines script (script_lines (lines_of bytes)) head

    pub script_refused : (r : Refusal) → script_of script ≡ Err r → IsTheVerdict bytes (Err (fault.Script r))
    unfolding IsTheVerdict AreJudged
    script_refused r refused v =
        let why : script_of_lines (script_lines (lines_of bytes)) ≡ Err r = sym script_is ∙ refused in
        let same = ap (λ (x : Result Plan Refusal). IsJudgedBy x (first_number (lines_of bytes))
        (listing_lines (lines_of bytes)) v) why in
        (λ h. subst (λ (T : Type 0). T) same h, λ e. subst (λ (T : Type 0). T) (sym same) e)

    pub listing_judged : (p : Plan) (given : Result ℕ CheckFault) → script_of script ≡ Ok p
        → OrMemory (IsOneVerdict p n (lines_of listing)) given → OrMemory (IsTheVerdict bytes) given
    unfolding IsTheVerdict AreJudged IsOneVerdict
    listing_judged p given read judged = each given judged
      where
        why : script_of_lines (script_lines (lines_of bytes)) ≡ Ok p
        why = sym script_is ∙ read

        one : (g : Result ℕ CheckFault) → ((v : Result ℕ CheckFault) → IsJudged p n (lines_of listing) v ↔ (v ≡ g))
            → (v : Result ℕ CheckFault)
            → IsJudgedBy (script_of_lines (script_lines (lines_of bytes))) (first_number (lines_of bytes))
            (listing_lines (lines_of bytes)) v ↔ (v ≡ g)
        one g h v = subst (λ (x : Result Plan Refusal). IsJudgedBy x (first_number (lines_of bytes))
            (listing_lines (lines_of bytes)) v ↔ (v ≡ g)) (sym why)
            (subst (λ (m : ℕ). IsJudged p m (listing_lines (lines_of bytes)) v ↔ (v ≡ g)) first
            (subst (λ (xs : List (List ℕ)). IsJudged p n xs v ↔ (v ≡ g)) tail (h v)))

        each : (g : Result ℕ CheckFault) → OrMemory (IsOneVerdict p n (lines_of listing)) g
            → OrMemory (IsTheVerdict bytes) g
        each (Ok count) h = one (Ok count) h
        each (Err (fault.Refused o)) h = one (Err (fault.Refused o)) h
        each (Err (fault.Script r)) h = one (Err (fault.Script r)) h
        each (Err fault.Memory) h = tt

    pub script_failed : (f : ScriptFault) (g : CheckFault) → Reads (Err f) (script_of script) → g ≡ of_script f
        → OrMemory (IsTheVerdict bytes) (Err g)
    script_failed f g read told = subst (λ (x : CheckFault). OrMemory (IsTheVerdict bytes) (Err x)) (sym told)
        (each f read)
      where
        each : (x : ScriptFault) → Reads (Err x) (script_of script) → OrMemory (IsTheVerdict bytes) (Err (of_script x))
        each (unread.Refused r) refused = script_refused r refused
        each unread.Memory h = tt
