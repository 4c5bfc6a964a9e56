-- Laws of the line that is due.
use Rattle.line_reasons.proofs.Prelude.{◌≡◌, ℕ, Bool, true, false, ◌&&◌, cond, eqb, List, [], ◌∷◌, Option, Some, None, refl, sym, IfSome, ap, subst, ◌∙◌, ◌==◌, is_some, slice_get, Plan, lines_of, VolumeLine, Node, node_in, has_directory, quota_in, used_by, taken_on, entries_on, Store, records_in, entries_in, AccountDue, VolumeDue, DueLine, word, SumReason, reason, IsAccountDue, IsVolumeDue, IsDue, IsSoSum, account_reason, volume_reason, reason_of_line, reason_of_end, is_still_so, account_still, same_front, and_from, same_test}
use Rattle.line_reasons.specs.declared.due_lines.DueLine.{DueLine as due}

-- ---- what is due

pub account_is : (p : Plan) (s : Store) (a : AccountDue) → IsAccountDue s a → IsDue p s (due.Account a)
unfolding IsDue
account_is p s a h = h

pub nothing_is : (p : Plan) (s : Store) → IsDue p s due.Nothing
unfolding IsDue
nothing_is p s = search

pub volume_is : (p : Plan) (s : Store) (x : VolumeLine) (v t g : ℕ) → slice_get p.volumes v ≡ Some x
    → t ≡ taken_on s.nodes s.stored v → g ≡ entries_on s.nodes v
    → IsDue p s (due.Volume (record {
      volume = v;
      records = x.records;
      taken = t;
      entries = x.entries;
      taken_entries = g;
    }))
unfolding IsDue
volume_is p s x v t g there taken nodes = record {
  volume = ap is_some there;
  records = sym (ap records_in there);
  taken = taken;
  entries = sym (ap entries_in there);
  taken_entries = nodes;
}

pub ruleset due_steps = (account_is, nothing_is, volume_is)

-- ---- what is said of it

quota_so : (s : Store) (a : AccountDue) → IsAccountDue s a → account_still s a.uid a.quota ≡ true
quota_so s a h = and_from (has_directory s.nodes a.uid) (eqb (quota_in s.nodes a.uid) a.quota) h.directory
    (same_test a.quota (quota_in s.nodes a.uid) h.quota)

account_so : (p : Plan) (s : Store) (a : AccountDue) (n : ℕ) → IsAccountDue s a → IsSoSum p s (account_reason a n)
unfolding account_reason IsSoSum is_still_so
account_so p s a n h = by_tests (n == 1) (n == 2) (n == 3) (n == 4) (n == 5)
  where
    by_tests : (y z w v x : Bool) → IsSoSum p s (cond y (reason.Path a.uid)
        (cond z (reason.AccountWord 2 word.Quota a.uid) (cond w (reason.Quota a.uid a.quota)
        (cond v (reason.AccountWord 4 word.Used a.uid) (cond x (reason.Used a.uid a.used)
        (reason.AccountFields a.uid))))))
    by_tests true z w v x = h.directory
    by_tests false true w v x = h.directory
    by_tests false false true v x = quota_so s a h
    by_tests false false false true x = h.directory
    by_tests false false false false true = same_test a.used (used_by s.nodes s.stored a.uid) h.used
    by_tests false false false false false = h.directory

volume_so : (p : Plan) (s : Store) (v : VolumeDue) (n : ℕ) → IsVolumeDue p s v → IsSoSum p s (volume_reason v n)
unfolding volume_reason IsSoSum is_still_so
volume_so p s v n h = by_tests (n == 1) (n == 2) (n == 3) (n == 4) (n == 5)
  where
    later : (y z w x t : Bool) → IsSoSum p s (cond y (reason.Taken v.volume v.taken)
        (cond z (reason.VolumeWord 7 word.Entries v.volume) (cond w (reason.Entries v.volume v.entries)
        (cond x (reason.VolumeWord 9 word.Taken v.volume) (cond t (reason.TakenEntries v.volume v.taken_entries)
        (reason.VolumeFields v.volume))))))
    later true z w x t = same_test v.taken (taken_on s.nodes s.stored v.volume) h.taken
    later false true w x t = h.volume
    later false false true x t = (h.volume, h.entries)
    later false false false true t = h.volume
    later false false false false true =
        same_test v.taken_entries (entries_on s.nodes v.volume) h.taken_entries
    later false false false false false = h.volume

    rest : SumReason
    rest = cond (n == 6) (reason.Taken v.volume v.taken)
        (cond (n == 7) (reason.VolumeWord 7 word.Entries v.volume) (cond (n == 8) (reason.Entries v.volume v.entries)
        (cond (n == 9) (reason.VolumeWord 9 word.Taken v.volume)
        (cond (n == 10) (reason.TakenEntries v.volume v.taken_entries)
        (reason.VolumeFields v.volume)))))

    by_tests : (y z w x t : Bool) → IsSoSum p s (cond y (reason.VolumeFirst v.volume)
        (cond z (reason.VolumeName v.volume) (cond w (reason.VolumeWord 3 word.Records v.volume)
        (cond x (reason.Records v.volume v.records) (cond t (reason.VolumeWord 5 word.Taken v.volume) rest)))))
    by_tests true z w x t = h.volume
    by_tests false true w x t = h.volume
    by_tests false false true x t = h.volume
    by_tests false false false true t = (h.volume, h.records)
    by_tests false false false false true = h.volume
    by_tests false false false false false = later (n == 6) (n == 7) (n == 8) (n == 9) (n == 10)

pub many_so : (p : Plan) (s : Store) → IsSoSum p s reason.TooMany
unfolding IsSoSum
many_so p s = search

of_line : (p : Plan) (s : Store) (d : DueLine) (n : ℕ) → IsDue p s d → IsSoSum p s (reason_of_line d n)
unfolding IsDue reason_of_line
of_line p s (due.Account a) n h = account_so p s a n h
of_line p s (due.Volume v) n h = volume_so p s v n h
of_line p s due.Nothing n h = many_so p s

pub line_so : (p : Plan) (s : Store) (d : DueLine) (n : ℕ) (r : SumReason) → r ≡ reason_of_line d n → IsDue p s d
    → IsSoSum p s r
line_so p s d n r is h = subst (IsSoSum p s) (sym is) (of_line p s d n h)

of_end : (p : Plan) (s : Store) (d : DueLine) → IsDue p s d → IfSome (reason_of_end d) (IsSoSum p s)
unfolding IsDue reason_of_end IsSoSum
of_end p s (due.Account a) h = record { directory = h.directory; quota = h.quota; used = h.used }
of_end p s (due.Volume v) h = (h.volume, h.taken, h.taken_entries)
of_end p s due.Nothing h = search

pub end_so : (p : Plan) (s : Store) (d : DueLine) (o : Option SumReason) → o ≡ reason_of_end d → IsDue p s d
    → IfSome o (IsSoSum p s)
end_so p s d o is h = subst (λ (x : Option SumReason). IfSome x (IsSoSum p s)) (sym is) (of_end p s d h)

pub ruleset reason_steps = (many_so, line_so, end_so)

-- ---- the place

pub place_so : (found : Option (SumReason × ℕ)) (rest bytes text : List ℕ)
    → IfSome found (λ x. x.1 ≡ same_front (lines_of rest) (lines_of bytes)) → bytes ≡ text
    → IfSome found (λ x. x.1 ≡ same_front (lines_of rest) (lines_of text))
place_so found rest bytes text h e =
    subst (λ (t : List ℕ). IfSome found (λ x. x.1 ≡ same_front (lines_of rest) (lines_of t))) e h

pub ruleset sum_steps = (place_so)

-- ---- an account of another state

none_there : (ns : List Node) (u : ℕ) → node_in ns u ≡ None → has_directory ns u ≡ false
none_there [] u h = refl
none_there (n ∷ ns) u h = by_test (n.uid == u) h (none_there ns u)
  where
    by_test : (z : Bool) → cond z (Some n) (node_in ns u) ≡ None → (node_in ns u ≡ None → has_directory ns u ≡ false)
        → cond z n.directory (has_directory ns u) ≡ false
    by_test true e later = absurd (let no : Some n ≡ None = e in cc)
    by_test false e later = later e

pub no_quota : (s : Store) (nodes : List Node) (u q : ℕ) → s.nodes ≡ nodes → node_in nodes u ≡ None
    → false ≡ account_still s u q
no_quota s nodes u q same none =
    sym (ap (λ (b : Bool). b && (quota_in s.nodes u == q)) (ap (λ (t : List Node). has_directory t u) same
    ∙ none_there nodes u none))
