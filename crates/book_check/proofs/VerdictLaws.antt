-- How a listing is judged line by line, and that there is one verdict (own).
use Rattle.book_check.proofs.Prelude.{◌≡◌, ℕ, ◌+◌, false, List, [], ◌∷◌, ◌++◌, length, map, Result, Ok, Err, refl, sym, ap, subst, ◌∙◌, append-nil, append_assoc, Plan, Entry, entry_text, IsEntry, IsLawful, IsLegal, IsLegalFrom, after_entry, store_after, store_from, Store, boot, IsAllowed, IsClean, IsCleanFrom, custody_after, custody_from, Custody, nothing_held, custody_next, entry_lines, is_summary, summary_lines, OnlyOne, Finds, IsJudgedFrom, AreEntries, BreaksEnd, BreaksEntry, IsTextOf, IsWhole, MayStand, due_lines, Rule, Offence, CheckFault}
use Rattle.book_check.specs.declared.offences.Rule.TheVariants as rule
use Rattle.book_check.specs.declared.offences.CheckFault.TheVariants as fault

-- ---- one entry of those that may stand one after the other

lawful_from : (p : Plan) (s : Store) (es fs : List Entry) (e : Entry) → IsLegalFrom p s (es ++ e ∷ fs)
    → IsLawful p (store_from p s es) e
unfolding IsLegalFrom store_from
lawful_from p s [] fs e h = h.0
lawful_from p s (d ∷ es) fs e h = lawful_from p (after_entry p s d) es fs e h.1

lawful_at : (p : Plan) (es fs : List Entry) (e : Entry) → IsLegal p (es ++ e ∷ fs) → IsLawful p (store_after p es) e
unfolding IsLegal store_after
lawful_at p es fs e h = lawful_from p (boot p) es fs e h

allowed_from : (p : Plan) (s : Store) (c : Custody) (es fs : List Entry) (e : Entry) → IsCleanFrom p s c (es ++ e ∷ fs)
    → IsAllowed p (store_from p s es) (custody_from p s c es) e
unfolding IsCleanFrom store_from custody_from
allowed_from p s c [] fs e h = h.0
allowed_from p s c (d ∷ es) fs e h = allowed_from p (after_entry p s d) (custody_next p s c d) es fs e h.1

allowed_at : (p : Plan) (es fs : List Entry) (e : Entry) → IsClean p (es ++ e ∷ fs)
    → IsAllowed p (store_after p es) (custody_after p es) e
unfolding IsClean store_after custody_after
allowed_at p es fs e h = allowed_from p (boot p) (nothing_held p) es fs e h

entry_at : (es fs : List Entry) (e : Entry) → AreEntries (es ++ e ∷ fs) → IsEntry e
entry_at [] fs e h = h.0
entry_at (d ∷ es) fs e h = entry_at es fs e h.1

-- ---- a line at fault

-- an entry that may stand there breaks nothing
breaks_not : (p : Plan) (es : List Entry) (line : List ℕ) (e : Entry) (r : Rule) → OnlyOne line → IsTextOf e line
    → IsLawful p (store_after p es) e
    → IsAllowed p (store_after p es) (custody_after p es) e → BreaksEntry p es line r → ⊥
unfolding OnlyOne
breaks_not p es line e rule.NoEntry one text lawful allowed h = h e text
breaks_not p es line e rule.NotLegal one text lawful allowed (f, is, not_lawful) =
    not_lawful (subst (IsLawful p (store_after p es)) (one e f text is) lawful)
breaks_not p es line e rule.NotClean one text lawful allowed (f, is, may, not_allowed) =
    not_allowed (subst (IsAllowed p (store_after p es) (custody_after p es)) (one e f text is) allowed)
breaks_not p es line e _ one text lawful allowed h = absurd h

-- a line breaks one rule
one_rule : (p : Plan) (es : List Entry) (line : List ℕ) (r q : Rule) → OnlyOne line → BreaksEntry p es line r
    → BreaksEntry p es line q → r ≡ q
unfolding OnlyOne
one_rule p es line rule.NoEntry rule.NoEntry one h k = refl
one_rule p es line rule.NoEntry rule.NotLegal one h (e, is, no_) = absurd (h e is)
one_rule p es line rule.NoEntry rule.NotClean one h (e, is, may, no_) = absurd (h e is)
one_rule p es line rule.NotLegal rule.NoEntry one (e, is, no_) k = absurd (k e is)
one_rule p es line rule.NotLegal rule.NotLegal one h k = refl
one_rule p es line rule.NotLegal rule.NotClean one (e, is, no_) (f, was, may, other) =
    absurd (no_ (subst (IsLawful p (store_after p es)) (one f e was is) may))
one_rule p es line rule.NotClean rule.NoEntry one (e, is, may, no_) k = absurd (k e is)
one_rule p es line rule.NotClean rule.NotLegal one (e, is, may, no_) (f, was, other) =
    absurd (other (subst (IsLawful p (store_after p es)) (one e f is was) may))
one_rule p es line rule.NotClean rule.NotClean one h k = refl
one_rule p es line rule.Incomplete q one h k = absurd h
one_rule p es line rule.ZeroPage q one h k = absurd h
one_rule p es line rule.WrongSum q one h k = absurd h
one_rule p es line r _ one h k = absurd k

-- ---- a summary

-- a summary breaks one rule, at one line
one_break : (p : Plan) (es : List Entry) (n : ℕ) (summary : List (List ℕ)) (l m : ℕ) (r q : Rule)
    → BreaksEnd p es n summary l r → BreaksEnd p es n summary m q → (l ≡ m) × (r ≡ q)
one_break p es n summary l m rule.Incomplete rule.Incomplete h k = (h.0 ∙ sym k.0, refl)
one_break p es n summary l m rule.Incomplete rule.ZeroPage h k = absurd (h.1 k.1)
one_break p es n summary l m rule.Incomplete rule.WrongSum h k = absurd (h.1 k.1.complete)
one_break p es n summary l m rule.ZeroPage rule.Incomplete h k = absurd (k.1 h.1)
one_break p es n summary l m rule.ZeroPage rule.ZeroPage h k = (h.0 ∙ sym k.0, refl)
one_break p es n summary l m rule.ZeroPage rule.WrongSum h k = absurd (k.1.zeros h.2)
one_break p es n summary l m rule.WrongSum rule.Incomplete h k = absurd (k.1 h.1.complete)
one_break p es n summary l m rule.WrongSum rule.ZeroPage h k = absurd (h.1.zeros k.2)
one_break p es n summary l m rule.WrongSum rule.WrongSum h k = (h.0 ∙ sym k.0, refl)
one_break p es n summary l m rule.NoEntry q h k = absurd h
one_break p es n summary l m rule.NotLegal q h k = absurd h
one_break p es n summary l m rule.NotClean q h k = absurd h
one_break p es n summary l m r _ h k = absurd k

-- a summary that is due breaks nothing
whole_not : (p : Plan) (es : List Entry) (n : ℕ) (summary : List (List ℕ)) (l : ℕ) (r : Rule) → IsWhole p es → summary
    ≡ due_lines p es → BreaksEnd p es n summary l r → ⊥
whole_not p es n summary l rule.Incomplete whole is h = h.1 whole.complete
whole_not p es n summary l rule.ZeroPage whole is h = whole.zeros h.2
whole_not p es n summary l rule.WrongSum whole is h = h.2 is
whole_not p es n summary l _ whole is h = absurd h

same_offence : (o q : Offence) → o.line ≡ q.line → o.rule ≡ q.rule → o ≡ q
same_offence o q e f = ap (λ (l : ℕ). record { line = l; rule = o.rule }) e
    ∙ ap (λ (r : Rule). record { line = q.line; rule = r }) f

one_end : (p : Plan) (n : ℕ) (es : List Entry) (summary : List (List ℕ)) (v w : Result ℕ CheckFault)
    → Finds p n es [] summary v → Finds p n es [] summary w → v ≡ w
one_end p n es summary (Ok a) (Ok b) h k = ap Ok (h.0 ∙ sym k.0)
one_end p n es summary (Ok a) (Err (fault.Refused o)) h k =
    absurd (whole_not p es (n + length es) summary o.line o.rule h.1 h.2 k)
one_end p n es summary (Err (fault.Refused o)) (Ok b) h k =
    absurd (whole_not p es (n + length es) summary o.line o.rule k.1 k.2 h)
one_end p n es summary (Err (fault.Refused o)) (Err (fault.Refused q)) h k =
    let both = one_break p es (n + length es) summary o.line q.line o.rule q.rule h k in
    ap (λ (x : Offence). Err (fault.Refused x)) (same_offence o q both.0 both.1)
one_end p n es summary (Err (fault.Script r)) w h k = absurd h
one_end p n es summary (Err fault.Memory) w h k = absurd h
one_end p n es summary v (Err (fault.Script r)) h k = absurd k
one_end p n es summary v (Err fault.Memory) h k = absurd k

-- ---- a line before the summary

entry_passed : (line : List ℕ) (more : List (List ℕ)) → is_summary line ≡ false → (entry_lines (line ∷ more) ≡ line
    ∷ entry_lines more) × (summary_lines (line ∷ more) ≡ summary_lines more)
unfolding entry_lines summary_lines
entry_passed line more e = (rw e refl, rw e refl)

one_line : (a b : List ℕ) (x y : List (List ℕ)) → a ∷ x ≡ b ∷ y → (a ≡ b) × (x ≡ y)
one_line a b x y e = (cc, cc)

moved : (p : Plan) (es fs : List Entry) (e : Entry) → MayStand p (es ++ e ∷ fs) → MayStand p ((es ++ e ∷ []) ++ fs)
moved p es fs e h = subst (MayStand p) (sym (append_assoc es (e ∷ []) fs)) h

back : (p : Plan) (es fs : List Entry) (e : Entry) → MayStand p ((es ++ e ∷ []) ++ fs) → MayStand p (es ++ e ∷ fs)
back p es fs e h = subst (MayStand p) (append_assoc es (e ∷ []) fs) h

module _ (p : Plan) (n : ℕ) (es : List Entry) (line : List ℕ) (more : List (List ℕ)) (v : Result ℕ CheckFault)
    (before : is_summary line ≡ false) (one : OnlyOne line)
  where
    -- what comes first among the entries is this line's
    first_text : (fs : List Entry) (f : Entry) (left : List (List ℕ)) → entry_lines (line ∷ more)
        ≡ map entry_text (f ∷ fs) ++ left
        → MayStand p (es ++ f ∷ fs) → IsTextOf f line × (entry_lines more ≡ map entry_text fs ++ left)
    first_text fs f left texts stand =
        let parts = one_line line (entry_text f) (entry_lines more) (map entry_text fs ++ left)
        (sym (entry_passed line more before).0 ∙ texts) in
        (record { entry = entry_at es fs f stand.entries; text = sym parts.0 }, parts.1)

    module _ (e : Entry) (text : IsTextOf e line) (lawful : IsLawful p (store_after p es) e)
        (allowed : IsAllowed p (store_after p es) (custody_after p es) e)
      where
        pub passed : IsJudgedFrom p n es (line ∷ more) v → IsJudgedFrom p n (es ++ e ∷ []) more v
        unfolding OnlyOne
        passed h = each v h.entries h.left h.texts h.stand h.finds
          where
            here : (w : Result ℕ CheckFault) (left : List (List ℕ)) → line ∷ entry_lines more ≡ left
                → Finds p n (es ++ []) left (summary_lines (line ∷ more)) w → ⊥
            here w [] texts finds = cc
            here (Err (fault.Refused o)) (l ∷ ls) texts finds =
                let same : line ≡ l = (one_line line l (entry_lines more) ls texts).0 in
                breaks_not p es line e o.rule one text lawful allowed (rw (append-nil es, ← same) at finds.1)
            here _ (l ∷ ls) texts finds = finds

            each : (w : Result ℕ CheckFault) (fs : List Entry) (left : List (List ℕ)) → entry_lines (line ∷ more)
                ≡ map entry_text fs ++ left
                → MayStand p (es ++ fs) → Finds p n (es ++ fs) left (summary_lines (line ∷ more)) w
                → IsJudgedFrom p n (es ++ e ∷ []) more w
            each w [] left texts stand finds = absurd
                (here w left (sym (entry_passed line more before).0 ∙ texts) finds)
            each w (f ∷ fs) left texts stand finds =
                let parts = first_text fs f left texts stand in
                let same : f ≡ e = one f e parts.0 text in
                let whole : es ++ f ∷ fs ≡ (es ++ e ∷ []) ++ fs =
                ap (λ (x : Entry). es ++ x ∷ fs) same ∙ sym (append_assoc es (e ∷ []) fs) in
                record {
                  entries = fs;
                  left = left;
                  texts = parts.1;
                  stand = subst (MayStand p) whole stand;
                  finds = subst (λ (xs : List (List ℕ)). Finds p n ((es ++ e ∷ []) ++ fs) left xs w)
                      (entry_passed line more before).1
                      (subst (λ (xs : List Entry). Finds p n xs left (summary_lines (line ∷ more)) w) whole finds);
                }

        pub not_passed : IsJudgedFrom p n (es ++ e ∷ []) more v → IsJudgedFrom p n es (line ∷ more) v
        not_passed h = record {
          entries = e ∷ h.entries;
          left = h.left;
          texts = (entry_passed line more before).0 ∙ ap (λ (l : List ℕ). l ∷ entry_lines more) (sym text.text)
              ∙ ap (λ (x : List (List ℕ)). entry_text e ∷ x) h.texts;
          stand = back p es h.entries e h.stand;
          finds = subst (λ (xs : List Entry). Finds p n xs h.left (summary_lines (line ∷ more)) v)
              (append_assoc es (e ∷ []) h.entries)
              (subst (λ (xs : List (List ℕ)). Finds p n ((es ++ e ∷ []) ++ h.entries) h.left xs v)
              (sym (entry_passed line more before).1) h.finds);
        }

    -- the line is at fault
    module _ (r : Rule) (stand : MayStand p es) (breaks : BreaksEntry p es line r) where
      abbrev pub offence : Offence
      offence = record { line = n + length es; rule = r }

      pub fault_only : IsJudgedFrom p n es (line ∷ more) v → v ≡ Err (fault.Refused offence)
      fault_only h = each v h.entries h.left h.texts h.stand h.finds
        where
          here : (w : Result ℕ CheckFault) (left : List (List ℕ)) → line ∷ entry_lines more ≡ left
              → Finds p n (es ++ []) left (summary_lines (line ∷ more)) w → w ≡ Err (fault.Refused offence)
          here w [] texts finds = cc
          here (Err (fault.Refused o)) (l ∷ ls) texts finds =
              let same : line ≡ l = (one_line line l (entry_lines more) ls texts).0 in
              let place : o.line ≡ n + length es = finds.0 ∙ ap (λ (xs : List Entry). n + length xs) (append-nil es) in
              let rules_ = one_rule p es line o.rule r one (rw (append-nil es, ← same) at finds.1) breaks in
              ap (λ (x : Offence). Err (fault.Refused x)) (same_offence o offence place rules_)
          here _ (l ∷ ls) texts finds = absurd finds

          each : (w : Result ℕ CheckFault) (fs : List Entry) (left : List (List ℕ)) → entry_lines (line ∷ more)
              ≡ map entry_text fs ++ left
              → MayStand p (es ++ fs) → Finds p n (es ++ fs) left (summary_lines (line ∷ more)) w → w
              ≡ Err (fault.Refused offence)
          each w [] left texts stands finds = here w left (sym (entry_passed line more before).0 ∙ texts) finds
          each w (f ∷ fs) left texts stands finds =
              let parts = first_text fs f left texts stands in
              absurd (breaks_not p es line f r one parts.0 (lawful_at p es fs f stands.legal)
              (allowed_at p es fs f stands.clean) breaks)

      pub fault_there : v ≡ Err (fault.Refused offence) → IsJudgedFrom p n es (line ∷ more) v
      fault_there e = subst (IsJudgedFrom p n es (line ∷ more)) (sym e) (record {
        entries = [];
        left = line ∷ entry_lines more;
        texts = (entry_passed line more before).0;
        stand = subst (MayStand p) (sym (append-nil es)) stand;
        finds = (
          ap (λ (xs : List Entry). n + length xs) (sym (append-nil es)),
          subst (λ (xs : List Entry). BreaksEntry p xs line r) (sym (append-nil es)) breaks,
        );
      })

-- ---- the summary

module _ (p : Plan) (n : ℕ) (es : List Entry) (lines : List (List ℕ)) (given : Result ℕ CheckFault)
    (none : entry_lines lines ≡ []) (stand : MayStand p es)
    (found : Finds p n es [] (summary_lines lines) given) (v : Result ℕ CheckFault)
  where
    pub end_only : IsJudgedFrom p n es lines v → v ≡ given
    end_only h = each h.entries h.left h.texts h.finds
      where
        each : (fs : List Entry) (left : List (List ℕ)) → entry_lines lines ≡ map entry_text fs ++ left
            → Finds p n (es ++ fs) left (summary_lines lines) v → v ≡ given
        each [] [] texts finds = one_end p n es (summary_lines lines) v given
            (subst (λ (xs : List Entry). Finds p n xs [] (summary_lines lines) v) (append-nil es) finds) found
        each [] (l ∷ left) texts finds = let clash : [] ≡ l ∷ left = sym none ∙ texts in cc
        each (f ∷ fs) left texts finds = let clash : [] ≡ entry_text f ∷ (map entry_text fs ++ left) = sym none
            ∙ texts in cc

    pub end_there : v ≡ given → IsJudgedFrom p n es lines v
    end_there e = subst (IsJudgedFrom p n es lines) (sym e) (record {
      entries = [];
      left = [];
      texts = none;
      stand = subst (MayStand p) (sym (append-nil es)) stand;
      finds = subst (λ (xs : List Entry). Finds p n xs [] (summary_lines lines) given) (sym (append-nil es)) found;
    })
