-- What is kept before the first entry and after one more (own).
use Rattle.book_check.proofs.Prelude.{◌≡◌, ℕ, suc, zero, ◌+◌, ◌<◌, ◌↔◌, Bool, true, false, IsTrue, List, [], ◌∷◌, ◌++◌, length, get_or, replicate, Some, None, Ok, Err, refl, sym, ap, subst, ◌∙◌, arith, Decides, length-append, Plan, Entry, entry_text, IsEntry, IsLawful, after_entry, part, store_after, store_from, Store, at_first, boot, legal_nil, legal_push, store_after-nil, store_after-push, boot_total, entry_total, total, IsTree, Kept, Shows, IsAllowed, custody_after, Custody, nothing_held, custody_next, clean_nil, clean_push, custody_after-nil, custody_after-push, AreNodes, AreTablesOf, Tables, custody_of, Allows, Breaks, Forbids, IsAfter, Judged, OnlyOne, Takes, EndsAgree, AreEntries, BreaksEntry, IsTextOf, Rule, count_next}
use Rattle.book_check.specs.declared.offences.Rule.TheVariants as rule
use Rattle.book_check.specs.declared.judge.LineFault.TheVariants as fault
use Rattle.book_check.proofs.EndLaws.{ends_push}

-- ---- before the first entry

first_at : (n k : ℕ) → k < n → (get_or (replicate n at_first) k
    (record { place = 0; tries = 0; ended = true; faulted = false })).ended ≡ false
first_at zero k lt = absurd (omega arith)
first_at (suc n) zero lt = refl
first_at (suc n) (suc k) lt = first_at n k (omega arith)

ends_boot : (p : Plan) → EndsAgree p []
unfolding store_after store_from boot part
ends_boot p k lt = let going = first_at (length p.processes) k lt in
    (λ is. let clash : false ≡ true = sym going ∙ is in cc, λ end. absurd end)

pub after_boot : (p : Plan) (k : Kept) (c : Tables) → Shows p k (boot p) → c.active ≡ [] → custody_of c ≡ nothing_held p
    → AreTablesOf p c → IsAfter (record { script = p; store = k; custody = c; entries = 0 }) []
unfolding boot
after_boot p k c shows active held tables = record {
  stand = record { entries = tt; legal = legal_nil p; clean = clean_nil p };
  shown = subst (Shows p k) (sym (store_after-nil p)) shows;
  nodes = rw (store_after-nil p) (record {
    apart = (refl, tt);
    there = λ u a is. let none : None ≡ Some a = sym (ap (λ xs. get_or xs u None) active) ∙ is in cc;
  });
  custody = held ∙ sym (custody_after-nil p);
  tables = tables;
  count = refl;
  turns = λ d. let idle : ((custody_after p []).seat d).count ≡ 0 =
      ap (λ (x : Custody). (x.seat d).count) (custody_after-nil p) in omega (arith, idle);
  ends = ends_boot p;
  total = ap (λ (s : Store). total s.nodes) (store_after-nil p) ∙ boot_total p;
}

-- ---- one more entry

entries_push : (es : List Entry) (e : Entry) → AreEntries es → IsEntry e → AreEntries (es ++ e ∷ [])
entries_push [] e all here = (here, tt)
entries_push (d ∷ es) e all here = (all.0, entries_push es e all.1 here)

pub after_next : (old new : Judged) (es : List Entry) (e : Entry) → IsAfter old es → IsEntry e → Allows old e
    → new.script ≡ old.script → new.entries ≡ old.entries + 1
    → ((s : Store) → Shows old.script old.store s → AreNodes s.nodes old.custody.active
    → custody_of new.custody ≡ custody_next old.script s (custody_of old.custody) e)
    → ((s : Store) → Shows old.script old.store s → AreNodes s.nodes old.custody.active → IsLawful old.script s e
    → AreNodes (after_entry old.script s e).nodes new.custody.active)
    → ((s : Store) → Shows old.script old.store s → IsLawful old.script s e
    → Shows old.script new.store (after_entry old.script s e))
    → ((s : Store) → Shows old.script old.store s → AreTablesOf old.script new.custody)
    → ((s : Store) → Shows old.script old.store s → IsTree s.nodes) → IsAfter new (es ++ e ∷ [])
unfolding Allows
after_next old new es e is entry allows same more custody nodes store tables tree =
    subst (λ (p : Plan). IsAfter (record new { script = p }) (es ++ e ∷ [])) (sym same) next
  where
    p : Plan
    p = old.script

    s : Store
    s = store_after p es

    c : Custody
    c = custody_after p es

    may : IsLawful p s e × IsAllowed p s (custody_of old.custody) e
    may = allows s is.shown is.nodes

    allowed : IsAllowed p s c e
    allowed = rw is.custody at may.1

    later : store_after p (es ++ e ∷ []) ≡ after_entry p s e
    later = store_after-push p es e

    held : custody_after p (es ++ e ∷ []) ≡ custody_next p s c e
    held = custody_after-push p es e

    longer : length (es ++ e ∷ []) ≡ length es + 1
    longer = length-append es (e ∷ [])

    next : IsAfter (record { script = p; store = new.store; custody = new.custody; entries = new.entries })
        (es ++ e ∷ [])
    next = record {
      stand = record {
        entries = entries_push es e is.stand.entries entry;
        legal = legal_push p es e is.stand.legal may.0;
        clean = clean_push p es e is.stand.clean allowed;
      };
      shown = subst (Shows p new.store) (sym later) (store s is.shown may.0);
      nodes = rw later (nodes s is.shown is.nodes may.0);
      custody = custody s is.shown is.nodes ∙ ap (λ (x : Custody). custody_next p s x e) is.custody ∙ sym held;
      tables = tables s is.shown;
      count = omega (arith, more, is.count, longer);
      turns = λ d.
          let before = is.turns d in
          let step = count_next p s c e d in
          let now : ((custody_after p (es ++ e ∷ [])).seat d).count ≡ ((custody_next p s c e).seat d).count =
          ap (λ (x : Custody). (x.seat d).count) held in
          omega (arith, before, step, now, longer);
      ends = ends_push p es e is.shown.shown.runners is.ends may.0;
      total = ap (λ (x : Store). total x.nodes) later ∙ entry_total p s e (tree s is.shown) may.0 ∙ is.total;
    }

-- ---- a line

pub no_entry : (old new : Judged) (line : List ℕ) → ((e : Entry) → IsEntry e → entry_text e ≡ line → None ≡ Some e)
    → Takes old new line (Err (fault.Broken rule.NoEntry))
unfolding Takes
no_entry old new line none es is = λ e text. let clash : None ≡ Some e = none e text.entry text.text in cc

broken_by : (p : Plan) (es : List Entry) (line : List ℕ) (e : Entry) (r : Rule) → IsTextOf e line
    → Breaks p (store_after p es) (custody_after p es) e r → BreaksEntry p es line r
broken_by p es line e rule.NotLegal text h = (e, text, h)
broken_by p es line e rule.NotClean text h = (e, text, h.0, h.1)
broken_by p es line e _ text h = absurd h

pub broken : (old new : Judged) (line : List ℕ) (e : Entry) (r : Rule) → IsEntry e → entry_text e ≡ line
    → Forbids old e r → Takes old new line (Err (fault.Broken r))
unfolding Takes Forbids
broken old new line e r entry text forbids es is =
    broken_by old.script es line e r (record { entry = entry; text = text })
    (rw is.custody at (forbids (store_after old.script es) is.shown is.nodes))

pub taken : (old new : Judged) (line : List ℕ) (e : Entry) → IsEntry e → entry_text e ≡ line → Allows old e
    → new.script ≡ old.script
    → ((es : List Entry) → IsAfter old es → IsAfter new (es ++ e ∷ [])) → Takes old new line (Ok tt)
unfolding Takes Allows
taken old new line e entry text allows same after es is =
    let may = allows (store_after old.script es) is.shown is.nodes in
    record {
      entry = e;
      text = record { entry = entry; text = text };
      lawful = may.0;
      allowed = rw is.custody at may.1;
      after = after es is;
      script = same;
    }

pub no_memory : (old new : Judged) (line : List ℕ) → Takes old new line (Err fault.Memory)
unfolding Takes
no_memory old new line es is = tt

pub one_found : (line : List ℕ) (e : Entry) → ((f : Entry) → IsEntry f → entry_text f ≡ line → Some e ≡ Some f)
    → OnlyOne line
unfolding OnlyOne
one_found line e back a b text other =
    let first : Some e ≡ Some a = back a text.entry text.text in
    let second : Some e ≡ Some b = back b other.entry other.text in
    cc

pub none_found : (line : List ℕ) → ((f : Entry) → IsEntry f → entry_text f ≡ line → None ≡ Some f) → OnlyOne line
unfolding OnlyOne
none_found line back a b text other = let clash : None ≡ Some a = back a text.entry text.text in cc

-- ---- what an entry breaks

module _ (p : Plan) (k : Kept) (t : Tables) (n : ℕ) (j : Judged) (e : Entry)
    (is : record { script = p; store = k; custody = t; entries = n } ≡ j) where
  pub not_legal : (r : Bool) → ((s : Store) → Shows p k s → IsTrue r ↔ IsLawful p s e) → r ≡ false
      → Forbids j e rule.NotLegal
  unfolding Forbids
  not_legal r told no_ = subst (λ (x : Judged). Forbids x e rule.NotLegal) is
      (λ s shown nodes lawful. let clash : false ≡ true = sym no_ ∙ (told s shown).1 lawful in cc)

  pub not_clean : (r q : Bool) → ((s : Store) → Shows p k s → IsTrue r ↔ IsLawful p s e)
      → ((s : Store) → Shows p k s → AreNodes s.nodes t.active → Decides q (IsAllowed p s (custody_of t) e)) → r ≡ true
      → q ≡ false → Forbids j e rule.NotClean
  unfolding Forbids
  not_clean r q told also yes_ no_ = subst (λ (x : Judged). Forbids x e rule.NotClean) is (λ s shown nodes. (
    (told s shown).0 yes_,
    λ allowed. let clash : false ≡ true = sym no_ ∙ (also s shown nodes).1 allowed in cc,
  ))

  pub both_allow : (r q : Bool) → ((s : Store) → Shows p k s → IsTrue r ↔ IsLawful p s e)
      → ((s : Store) → Shows p k s → AreNodes s.nodes t.active → Decides q (IsAllowed p s (custody_of t) e)) → r ≡ true
      → q ≡ true → Allows j e
  unfolding Allows
  both_allow r q told also yes_ too = subst (λ (x : Judged). Allows x e) is
      (λ s shown nodes. ((told s shown).0 yes_, (also s shown nodes).0 too))

  pub allowed_here : Allows j e → (s : Store) → Shows p k s → AreNodes s.nodes t.active → IsAllowed p s (custody_of t) e
  unfolding Allows
  allowed_here allows s shown nodes = (subst (λ (x : Judged). Allows x e) (sym is) allows s shown nodes).1

  pub followed : (es : List Entry) (kept : Kept) (tables : Tables) → IsAfter j es → IsEntry e → Allows j e
      → ((s : Store) → Shows p k s → AreNodes s.nodes t.active → custody_of tables ≡ custody_next p s (custody_of t) e)
      → ((s : Store) → Shows p k s → AreNodes s.nodes t.active → IsLawful p s e
      → AreNodes (after_entry p s e).nodes tables.active)
      → ((s : Store) → Shows p k s → IsLawful p s e → Shows p kept (after_entry p s e))
      → ((s : Store) → Shows p k s → AreTablesOf p tables) → ((s : Store) → Shows p k s → IsTree s.nodes)
      → IsAfter (record { script = p; store = kept; custody = tables; entries = n + 1 }) (es ++ e ∷ [])
  followed es kept tables after entry allows custody nodes store are tree =
      after_next (record { script = p; store = k; custody = t; entries = n })
      (record { script = p; store = kept; custody = tables; entries = n + 1 }) es e
      (subst (λ (x : Judged). IsAfter x es) (sym is) after) entry (subst (λ (x : Judged). Allows x e) (sym is) allows)
      refl refl custody nodes store are tree
