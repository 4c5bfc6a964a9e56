-- How a listing goes on, line by line (own).
use Rattle.book_check.proofs.Prelude.{◌≡◌, ℕ, ◌+◌, ◌<◌, ◌^◌, Bool, true, false, List, [], ◌∷◌, ◌++◌, length, Result, Ok, Err, refl, sym, ap, subst, ◌∙◌, arith, lines_nil, lines_of, Plan, Custody, AreTablesOf, HaveRoom, IsOneVerdict, OrMemory, at_line, IsJudgedFrom, IsReached, entry_lines, is_summary, summary_lines, IsAfter, IsNext, Judged, OnlyOne, Takes, BreaksEntry, IsJudged, Rule, CheckFault, LineFault}
use Rattle.book_check.specs.declared.offences.CheckFault.TheVariants as fault
use Rattle.book_check.specs.declared.judge.LineFault.TheVariants as broken
use Rattle.book_check.proofs.VerdictLaws.{passed, not_passed, fault_only, fault_there}

-- each processor's count has room, since it is at most the number of entries
pub room_there : (j : Judged) (n : ℕ) (all left : List (List ℕ)) → IsReached j n all left → j.entries < 2 ^ 31
    → HaveRoom j.custody.seats
room_there j n all left is few d =
    let same = ap (λ (c : Custody). (c.seat d).count) is.after.custody in
    let most = is.after.turns d in
    let count = is.after.count in
    omega (arith, same, most, count, few)

pub tables_there : (j : Judged) (n : ℕ) (all left : List (List ℕ)) → IsReached j n all left
    → AreTablesOf j.script j.custody
tables_there j n all left is = is.after.tables

pub reached_next : (old new : Judged) (n : ℕ) (all left more : List (List ℕ)) (line : List ℕ)
    → IsReached old n all left → left ≡ line ∷ more
    → is_summary line ≡ false → OnlyOne line → Takes old new line (Ok tt) → IsReached new n all more
unfolding Takes
reached_next old new n all left more line is cut before one takes =
    subst (λ (p : Plan). IsReached (record new { script = p }) n all more) (sym next.script) whole
  where
    next : IsNext old new is.entries line
    next = takes is.entries is.after

    forth : (v : Result ℕ CheckFault) → IsJudged old.script n all v
        → IsJudgedFrom old.script n (is.entries ++ next.entry ∷ []) more v
    forth v h = passed old.script n is.entries line more v before one next.entry next.text next.lawful next.allowed
        (subst (λ (xs : List (List ℕ)). IsJudgedFrom old.script n is.entries xs v) cut ((is.same v).0 h))

    back : (v : Result ℕ CheckFault) → IsJudgedFrom old.script n (is.entries ++ next.entry ∷ []) more v
        → IsJudged old.script n all v
    back v h = (is.same v).1 (subst (λ (xs : List (List ℕ)). IsJudgedFrom old.script n is.entries xs v) (sym cut)
        (not_passed old.script n is.entries line more v before one next.entry next.text next.lawful next.allowed h))

    whole : IsReached (record { script = old.script; store = new.store; custody = new.custody; entries = new.entries })
        n all more
    whole = record {
      entries = is.entries ++ next.entry ∷ [];
      after = subst (λ (p : Plan). IsAfter (record {
        script = p;
        store = new.store;
        custody = new.custody;
        entries = new.entries;
      }) (is.entries ++ next.entry ∷ [])) next.script next.after;
      same = λ v. (forth v, back v);
    }

pub reached_fault : (old new : Judged) (n line_number : ℕ) (all left more : List (List ℕ)) (line : List ℕ) (r : Rule)
    → IsReached old n all left
    → left ≡ line ∷ more → is_summary line ≡ false → OnlyOne line → Takes old new line (Err (broken.Broken r))
    → line_number ≡ n + old.entries
    → IsOneVerdict old.script n all (Err (fault.Refused (record { line = line_number; rule = r })))
unfolding Takes IsOneVerdict
reached_fault old new n line_number all left more line r is cut before one takes place v = (forth, back)
  where
    breaks : BreaksEntry old.script is.entries line r
    breaks = takes is.entries is.after

    same : n + length is.entries ≡ line_number
    same = omega (arith, place, is.after.count)

    forth : IsJudged old.script n all v → v ≡ Err (fault.Refused (record { line = line_number; rule = r }))
    forth h = fault_only old.script n is.entries line more v before one r is.after.stand breaks
        (subst (λ (xs : List (List ℕ)). IsJudgedFrom old.script n is.entries xs v) cut ((is.same v).0 h))
        ∙ ap (λ (l : ℕ). Err (fault.Refused (record { line = l; rule = r }))) same

    back : v ≡ Err (fault.Refused (record { line = line_number; rule = r })) → IsJudged old.script n all v
    back e = (is.same v).1 (subst (λ (xs : List (List ℕ)). IsJudgedFrom old.script n is.entries xs v) (sym cut)
        (fault_there old.script n is.entries line more v before one r is.after.stand breaks
        (e ∙ ap (λ (l : ℕ). Err (fault.Refused (record { line = l; rule = r }))) (sym same))))

pub fault_told : (p : Plan) (old new : Judged) (n line_number : ℕ) (all left more : List (List ℕ)) (line : List ℕ)
    (f : LineFault) (g : CheckFault)
    → old.script ≡ p → IsReached old n all left → left ≡ line ∷ more → is_summary line ≡ false → OnlyOne line
    → Takes old new line (Err f)
    → line_number ≡ n + old.entries → g ≡ at_line line_number f → OrMemory (IsOneVerdict p n all) (Err g)
fault_told p old new n line_number all left more line f g same is cut before one takes place told =
    subst (λ (x : CheckFault). OrMemory (IsOneVerdict p n all) (Err x)) (sym told) (each f takes)
  where
    each : (x : LineFault) → Takes old new line (Err x) → OrMemory (IsOneVerdict p n all) (Err (at_line line_number x))
    each (broken.Broken r) t = subst (λ (q : Plan). IsOneVerdict q n all
        (Err (fault.Refused (record { line = line_number; rule = r })))) same
        (reached_fault old new n line_number all left more line r is cut before one t place)
    each broken.Memory t = tt

-- ---- where the entries end

pub ended_nil : (bytes : List ℕ) → length bytes ≡ 0 → entry_lines (lines_of bytes) ≡ []
unfolding entry_lines
ended_nil [] e = ap entry_lines lines_nil
ended_nil (b ∷ bs) e = absurd (omega arith)

pub ended_summary : (lines more : List (List ℕ)) (line : List ℕ) → lines ≡ line ∷ more → is_summary line ≡ true
    → entry_lines lines ≡ []
unfolding entry_lines
ended_summary lines more line cut first = ap entry_lines cut ∙ rw first refl

pub summary_all : (lines : List (List ℕ)) → entry_lines lines ≡ [] → summary_lines lines ≡ lines
unfolding entry_lines summary_lines
summary_all [] e = refl
summary_all (line ∷ more) e = each (is_summary line) refl
  where
    there : is_summary line ≡ false → entry_lines (line ∷ more) ≡ line ∷ entry_lines more
    there other = rw other refl

    each : (z : Bool) → is_summary line ≡ z → summary_lines (line ∷ more) ≡ line ∷ more
    each true first = rw first refl
    each false other = let clash : line ∷ entry_lines more ≡ [] = sym (there other) ∙ e in cc
