-- A listing goes on line by line.
use Rattle.reasons.proofs.Prelude.{◌≡◌, ℕ, ◌+◌, ◌<◌, ◌^◌, false, List, [], ◌∷◌, ◌++◌, length, Result, Ok, Err, map, Option, refl, sym, ap, subst, ◌∙◌, arith, inl, inr, nil_after, Entry, append_assoc, map-append, entry_text, Plan, AreTablesOf, HaveRoom, Custody, Finds, IsJudgedFrom, entry_lines, is_summary, summary_lines, IsAfter, IsNext, Judged, Meets, OnlyOne, Stays, Takes, Breaks, BreaksEntry, IsJudged, MayStand, LineFault, CheckFault, Offence, Rule, ended_summary, fault_only, passed, AreUpTo, EndsAt, EndsBefore, IsWatched, Looks, Passes, Reason, lines_nil, lines_of}
use Rattle.book_check.specs.declared.judge.LineFault.TheVariants as broken
use Rattle.book_check.specs.declared.offences.CheckFault.TheVariants as fault
use Rattle.reasons.proofs.SinceLaws.{watched_on}

-- each processor's count has room, since it is at most the number of entries
pub room_there : (j : Judged) (n : ℕ) (all left : List (List ℕ)) (r : Option Reason) (line : Option ℕ)
    → Passes j n all left r line → j.entries < 2 ^ 31 → HaveRoom j.custody.seats
room_there j n all left r line is few d =
    let same = ap (λ (c : Custody). (c.seat d).count) is.after.custody in
    let most = is.after.turns d in
    let count = is.after.count in
    omega (arith, same, most, count, few)

pub tables_there : (j : Judged) (n : ℕ) (all left : List (List ℕ)) (r : Option Reason) (line : Option ℕ)
    → Passes j n all left r line → AreTablesOf j.script j.custody
tables_there j n all left r line is = is.after.tables

-- a line is accepted, and what it leaves is looked at
pub passes_next : (old new : Judged) (n number : ℕ) (all left more : List (List ℕ)) (text : List ℕ)
    (r s : Option Reason)
    (line next_line : Option ℕ) → Passes old n all left r line → left ≡ text ∷ more → is_summary text ≡ false
    → OnlyOne text → Takes old new text (Ok tt) → number ≡ n + old.entries → new.script ≡ old.script → s ≡ r
    → ((es : List Entry) → IsAfter new es → Looks new.script es r number line next_line)
    → Passes new n all more s next_line
unfolding Takes
passes_next old new n number all left more text r s line next_line is cut before one takes place same kept looks =
    record {
      entries = is.entries ++ next.entry ∷ [];
      after = next.after;
      texts = is.texts ∙ ap (λ (xs : List (List ℕ)). map entry_text is.entries ++ xs) (cut
          ∙ ap (λ (l : List ℕ). l ∷ more) (sym next.text.text))
          ∙ sym (ap (λ (xs : List (List ℕ)). xs ++ more) (map-append entry_text is.entries (next.entry ∷ []))
          ∙ append_assoc (map entry_text is.entries) (entry_text next.entry ∷ []) more);
      since = subst (λ (x : Option Reason). IsWatched new.script n (is.entries ++ next.entry ∷ []) x next_line)
          (sym kept)
          (watched_on new.script r n is.entries next.entry number line next_line (omega (arith, place, is.after.count))
          (subst (λ (p : Plan). IsWatched p n is.entries r line) (sym same) is.since)
          (looks (is.entries ++ next.entry ∷ []) next.after));
      judged = judged;
    }
  where
    next : IsNext old new is.entries text
    next = takes is.entries is.after

    judged : (v : Result ℕ CheckFault) → IsJudged new.script n all v
        → IsJudgedFrom new.script n (is.entries ++ next.entry ∷ []) more v
    judged v h = subst (λ (p : Plan). IsJudgedFrom p n (is.entries ++ next.entry ∷ []) more v) (sym same)
        (passed old.script n is.entries text more v before one next.entry next.text next.lawful next.allowed
        (subst (λ (xs : List (List ℕ)). IsJudgedFrom old.script n is.entries xs v) cut
        (is.judged v (subst (λ (p : Plan). IsJudged p n all v) same h))))

-- ---- where a pass ends

pub ends_nil : (j : Judged) (bytes : List ℕ) → length bytes ≡ 0 → EndsBefore j (lines_of bytes)
ends_nil j [] none = subst (EndsBefore j) (sym lines_nil) tt
ends_nil j (b ∷ bs) none = absurd (omega (arith, none))

-- a line breaks a rule, which changes nothing
pub ends_faulty : (old new : Judged) (left more : List (List ℕ)) (line : List ℕ) (f : LineFault) (r : Rule)
    → left ≡ line ∷ more → is_summary line ≡ false → OnlyOne line → Takes old new line (Err f) → Stays old new f
    → f ≡ broken.Broken r → EndsBefore new left
unfolding Takes
ends_faulty old new left more line f r cut before one takes same is =
    subst (λ (j : Judged). EndsBefore j left) (sym (subst (Stays old new) is same))
    (subst (EndsBefore old) (sym cut) (inr (r, record { entry = before; one = one; breaks = breaks })))
  where
    breaks : (es : List Entry) → IsAfter old es → BreaksEntry old.script es line r
    breaks es after = subst (λ (x : LineFault). Meets old new es line (Err x)) is (takes es after)

-- ---- the line at fault

module _ (p : Plan) (n : ℕ) (es : List Entry) (o : Offence) where
  -- where the summary begins
  at_end : (left : List (List ℕ)) → entry_lines left ≡ [] → IsJudgedFrom p n es left (Err (fault.Refused o))
      → Breaks p es (n + length es) (entry_lines left) (summary_lines left) o.line o.rule
  at_end left none h = subst (λ (xs : List (List ℕ)). Breaks p es (n + length es) xs (summary_lines left) o.line o.rule)
      (sym none) (each h.entries h.left h.texts h.finds)
    where
      each : (fs : List Entry) (xs : List (List ℕ)) → entry_lines left ≡ map entry_text fs ++ xs
          → Finds p n (es ++ fs) xs (summary_lines left) (Err (fault.Refused o))
          → Breaks p es (n + length es) [] (summary_lines left) o.line o.rule
      each [] [] texts finds = subst (λ (ds : List Entry). Breaks p ds (n + length ds) [] (summary_lines left)
          o.line o.rule)
          (nil_after es) finds
      each [] (l ∷ xs) texts finds = let clash : [] ≡ l ∷ xs = sym none ∙ texts in cc
      each (f ∷ fs) xs texts finds = let clash : [] ≡ entry_text f ∷ (map entry_text fs ++ xs) = sym none ∙ texts in cc

  -- at a line before it
  at_line : (line : List ℕ) (more : List (List ℕ)) (r : Rule) → is_summary line ≡ false → OnlyOne line → MayStand p es
      → BreaksEntry p es line r → IsJudgedFrom p n es (line ∷ more) (Err (fault.Refused o))
      → Breaks p es (n + length es) (entry_lines (line ∷ more)) (summary_lines (line ∷ more)) o.line o.rule
  unfolding entry_lines
  at_line line more r before one stand breaks h =
      let is : Err (fault.Refused o) ≡ Err (fault.Refused (record { line = n + length es; rule = r })) =
      fault_only p n es line more (Err (fault.Refused o)) before one r stand breaks h in
      let same : record { line = n + length es; rule = r } ≡ o = cc in
      let there : Breaks p es (n + length es) (line ∷ entry_lines more) (summary_lines (line ∷ more)) o.line o.rule =
      subst (λ (x : Offence). Breaks p es (n + length es) (line ∷ entry_lines more) (summary_lines (line ∷ more)) x.line
      x.rule) same (refl, breaks) in
      rw before there

none_left : entry_lines [] ≡ []
unfolding entry_lines
none_left = refl

pub up_to : (j : Judged) (n : ℕ) (all left : List (List ℕ)) (r : Option Reason) (line : Option ℕ) (o : Offence)
    (is : Passes j n all left r line) → EndsBefore j left → IsJudged j.script n all (Err (fault.Refused o))
    → AreUpTo j.script n all o is.entries left
up_to j n all left r line o is ends judged = record {
  texts = is.texts;
  stand = is.after.stand;
  breaks = each left ends (is.judged (Err (fault.Refused o)) judged);
}
  where
    at_first : (first : List ℕ) (more : List (List ℕ)) → EndsAt j first
        → IsJudgedFrom j.script n is.entries (first ∷ more) (Err (fault.Refused o))
        → Breaks j.script is.entries (n + length is.entries) (entry_lines (first ∷ more)) (summary_lines (first ∷ more))
        o.line o.rule
    at_first first more (inl summary) h =
        at_end j.script n is.entries o (first ∷ more) (ended_summary (first ∷ more) more first refl summary) h
    at_first first more (inr (q, faulty)) h = at_line j.script n is.entries o first more q faulty.entry faulty.one
        is.after.stand (faulty.breaks is.entries is.after) h

    each : (xs : List (List ℕ)) → EndsBefore j xs → IsJudgedFrom j.script n is.entries xs (Err (fault.Refused o))
        → Breaks j.script is.entries (n + length is.entries) (entry_lines xs) (summary_lines xs) o.line o.rule
    each [] ends h = at_end j.script n is.entries o [] none_left h
    each (first ∷ more) ends h = at_first first more ends h
