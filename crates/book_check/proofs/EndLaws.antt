-- A process has ended exactly where its last command entry is that of its end (own).
use Rattle.book_check.proofs.Prelude.{◌≡◌, ℕ, ◌+◌, ◌<◌, Bool, true, false, cond, eqb, List, [], ◌∷◌, ◌++◌, length, Option, Some, None, refl, sym, ap, subst, ◌∙◌, arith, Decides, nat_tests, Plan, command_at, Command, Entry, Reply, gone_on, is_end, tries_on, IsAnswer, IsComplete, IsEnd, IsLawful, IsLawfulDo, MayFault, after_do, after_entry, after_fault, is_part, last_of, part, store_after, Progress, Store, progress_of, last_of-push, part-push, part-skip, store_after-push, EndsAgree, HaveEnded, going_within}
use Rattle.script.specs.declared.commands.Command.TheVariants as command
use Rattle.book.specs.declared.entries.Entry.TheVariants as entry
use Rattle.book_check.proofs.ProgressLaws.{progress_after, progress_with}

-- the end of a process is the one command that ends it
ended_by : (q : Progress) (c : Command) (r : Reply) → q.ended ≡ false
    → Decides (gone_on q c r).ended (Some c ≡ Some command.End)
ended_by q c r going = each (tries_on q c r) refl
  where
    tried : (x : Command) → tries_on q x r ≡ true → Some x ≡ Some command.End → ⊥
    tried x t e = let is : x ≡ command.End = cc in let no : tries_on q command.End r ≡ true = rw is at t in cc

    by_end : (x : Command) → Decides (is_end x) (Some x ≡ Some command.End)
    by_end command.End = (λ e. refl, λ e. refl)
    by_end _ = (λ e. cc, λ e. cc)

    each : (z : Bool) → tries_on q c r ≡ z → Decides (cond z (record q { tries = q.tries + 1; faulted = false })
        (record { place = q.place + 1; tries = 0; ended = is_end c; faulted = false })).ended
        (Some c ≡ Some command.End)
    each true t = (λ e. absurd (let clash : false ≡ true = sym going ∙ e in cc), λ e. absurd (tried c t e))
    each false t = by_end c

module _ (p : Plan) (es : List Entry) (k : ℕ) (agree : Decides (progress_of (store_after p es) k).ended
    (IsEnd p k (last_of (part k es)))) where
  -- nothing of this process
  kept : (e : Entry) → is_part k e ≡ false → (progress_of (after_entry p (store_after p es) e) k).ended
      ≡ (progress_of (store_after p es) k).ended
      → Decides (progress_of (store_after p (es ++ e ∷ [])) k).ended (IsEnd p k (last_of (part k (es ++ e ∷ []))))
  kept e other same =
      let ended : (progress_of (store_after p (es ++ e ∷ [])) k).ended ≡ (progress_of (store_after p es) k).ended =
      ap (λ (s : Store). (progress_of s k).ended) (store_after-push p es e) ∙ same in
      let last : last_of (part k (es ++ e ∷ [])) ≡ last_of (part k es) = ap last_of (part-skip k es e other) in (
        λ is. subst (IsEnd p k) (sym last) (agree.0 (sym ended ∙ is)),
        λ end. ended ∙ agree.1 (subst (IsEnd p k) last end),
      )

  -- a command of this process, or of another one
  answered : (j place cpu : ℕ) (f : Option ℕ) (r : Reply) → k < length (store_after p es).processes
      → IsLawfulDo p (store_after p es) j place r
      → Decides (progress_of (store_after p (es ++ entry.Do j place cpu f r ∷ [])) k).ended
      (IsEnd p k (last_of (part k (es ++ entry.Do j place cpu f r ∷ []))))
  unfolding after_entry
  answered j place cpu f r lt lawful = by_process (eqb j k) refl
    where
      e : Entry
      e = entry.Do j place cpu f r

      s : Store
      s = store_after p es

      there : j < length s.processes
      there = going_within s j lawful.going

      own : (o : Option Command) → command_at p k place ≡ o → IsAnswer p s j o r → j ≡ k
          → Decides (progress_of (after_do p s j o r) k).ended (command_at p k place ≡ Some command.End)
      own None at is same = absurd is
      own (Some c) at is same =
          let me : eqb k j ≡ true = grind (arith, nat_tests) in
          let now : progress_of (after_do p s j (Some c) r) k ≡ gone_on (progress_of s j) c r =
          progress_after p s j k c r there ∙ rw me refl in
          let told = ended_by (progress_of s j) c r lawful.going in (
            λ ended. at ∙ told.0 (sym (ap (λ (q : Progress). q.ended) now) ∙ ended),
            λ end. ap (λ (q : Progress). q.ended) now ∙ told.1 (sym at ∙ end),
          )

      others : (o : Option Command) → IsAnswer p s j o r → eqb j k ≡ false → (progress_of (after_do p s j o r) k).ended
          ≡ (progress_of s k).ended
      others None is other = absurd is
      others (Some c) is other =
          let flipped : eqb k j ≡ false = grind (arith, nat_tests) in
          let same : progress_of (after_do p s j (Some c) r) k ≡ progress_of s k = progress_after p s j k c r there
          ∙ rw flipped refl in
          ap (λ (q : Progress). q.ended) same

      by_process : (z : Bool) → eqb j k ≡ z → Decides (progress_of (store_after p (es ++ e ∷ [])) k).ended
          (IsEnd p k (last_of (part k (es ++ e ∷ []))))
      by_process true mine =
          let same : j ≡ k = grind (arith, nat_tests) in
          let command : command_at p j place ≡ command_at p k place = ap (λ (i : ℕ). command_at p i place) same in
          let told = own (command_at p j place) (sym command) lawful.answer same in
          let store = store_after-push p es e in
          let last : last_of (part k (es ++ e ∷ [])) ≡ Some e = ap last_of (part-push k es e mine)
          ∙ last_of-push (part k es) e in (
            λ ended. subst (IsEnd p k) (sym last) (told.0
                (sym (ap (λ (x : Store). (progress_of x k).ended) store) ∙ ended)),
            λ end. ap (λ (x : Store). (progress_of x k).ended) store ∙ told.1 (subst (IsEnd p k) last end),
          )
      by_process false other = kept e other (others (command_at p j place) lawful.answer other)

  -- a drive's failure
  failed : (o : Option ℕ) → MayFault (store_after p es) o
      → (progress_of (after_fault (store_after p es) o) k).ended ≡ (progress_of (store_after p es) k).ended
  failed None may = refl
  failed (Some j) may = by_process (eqb k j) refl
    where
      s : Store
      s = store_after p es

      q : Progress
      q = record (progress_of s j) { faulted = true }

      by_process : (z : Bool) → eqb k j ≡ z → (progress_of (after_fault s (Some j)) k).ended ≡ (progress_of s k).ended
      by_process true mine =
          let same : k ≡ j = grind (arith, nat_tests) in
          let now : progress_of (after_fault s (Some j)) k ≡ q = progress_with s j k q (going_within s j may)
          ∙ rw mine refl in
          ap (λ (x : Progress). x.ended) now ∙ ap (λ (i : ℕ). (progress_of s i).ended) (sym same)
      by_process false other =
          let now : progress_of (after_fault s (Some j)) k ≡ progress_of s k =
          progress_with s j k q (going_within s j may) ∙ rw other refl in
          ap (λ (x : Progress). x.ended) now

  pub end_pushed : (e : Entry) → k < length (store_after p es).processes → IsLawful p (store_after p es) e
      → Decides (progress_of (store_after p (es ++ e ∷ [])) k).ended (IsEnd p k (last_of (part k (es ++ e ∷ []))))
  unfolding IsLawful after_entry
  end_pushed (entry.Do j place cpu f r) lt lawful = answered j place cpu f r lt lawful
  end_pushed (entry.Fault o) lt lawful = kept (entry.Fault o) refl (failed o lawful)
  end_pushed e lt lawful = kept e refl refl

pub ends_push : (p : Plan) (es : List Entry) (e : Entry) → length (store_after p es).processes ≡ length p.processes
    → EndsAgree p es → IsLawful p (store_after p es) e → EndsAgree p (es ++ e ∷ [])
ends_push p es e size agree lawful k lt = end_pushed p es k (agree k lt) e (subst (λ (n : ℕ). k < n) (sym size) lt)
    lawful

pub complete_told : (p : Plan) (es : List Entry) → EndsAgree p es → HaveEnded p (store_after p es) → IsComplete p es
unfolding IsComplete HaveEnded
complete_told p es agree ended k lt = (agree k lt).0 (ended k lt)

pub ended_told : (p : Plan) (es : List Entry) → EndsAgree p es → IsComplete p es → HaveEnded p (store_after p es)
unfolding IsComplete HaveEnded
ended_told p es agree complete k lt = (agree k lt).1 (complete k lt)
