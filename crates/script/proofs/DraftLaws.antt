-- Laws of drafts (own).
use Rattle.script.proofs.Prelude.{common_steps, ◌≡◌, ℕ, ◌+◌, ◌<◌, ◌≤◌, true, false, nat_le, List, [], ◌∷◌, ◌++◌, length, Bool, codes, refl, sym, ap, subst, ◌∙◌, arith, sum_by, Result, Ok, Err, nat_tests, Who, list_all, list_any, bytes_eq, ListPlan, Lists, listed, longer, command_of, end_of, DraftPlan, IsAt, IsDraft, begun, begun_at, blank, has_volume, goes_on, is_early, is_head, is_inside, BeginsWithInitializer, IsPlan, has_name, is_before, is_bulk, is_command, is_end, is_fail, is_process, is_volume, is_who, records_of, weight, weight_of, is_whole, added, command_line, with_command, no_fields, only_if, Plan, ProcessPlan, Steps, Command, LineFault, Stage, Bulk, Fail, VolumeLine, Cause, and_from, length_push, command, fault, stage, cause}
use Rattle.script.proofs.CommandLaws.{command_keeps, end_again}
use Rattle.script.proofs.PushLaws.{all_push, apart_none, begins_same, bulks_push, end_push, names_push, sum_push}

false_not_true : false ≡ true → ⊥
false_not_true e = cc

pub blank_is : (volumes : List VolumeLine) (bulks : List Bulk) (fails : List Fail) (processes : List ProcessPlan)
    (who : Who) (list : ListPlan) → volumes ≡ [] → bulks ≡ [] → fails ≡ [] → processes ≡ [] → is_who who ≡ true
    → list ≡ record { commands = []; used = 0 } → IsDraft (record blank {
      plan = record blank.plan { volumes = volumes; bulks = bulks; fails = fails; processes = processes };
      who = who;
      list = list;
    })
blank_is volumes bulks fails processes who list a b c d e f =
    grind (arith, nat_tests, common_steps, apart_none, false_not_true)

early_is_head : (s : Stage) → is_early s ≡ true → is_head s ≡ true
early_is_head stage.Commands h = h
early_is_head stage.Processes h = h
early_is_head _ h = refl

inside_is : (s : Stage) → is_inside s ≡ true → s ≡ stage.Commands
inside_is stage.Commands h = refl
inside_is _ h = absurd (false_not_true h)

head_begun : (s : Stage) (xs : List ProcessPlan) (x : ProcessPlan) → is_head s ≡ true → begun_at s xs x ≡ xs
head_begun stage.Commands xs x h = absurd (false_not_true h)
head_begun _ xs x h = refl

whole_begun : (s : Stage) (xs : List ProcessPlan) (x : ProcessPlan) → is_whole s ≡ true → (begun_at s xs x ≡ xs)
    × (has_volume s ≡ true)
whole_begun stage.Volumes xs x h = (refl, refl)
whole_begun stage.Bulks xs x h = (refl, refl)
whole_begun stage.Fails xs x h = (refl, refl)
whole_begun stage.Processes xs x h = (refl, refl)
whole_begun _ xs x h = absurd (false_not_true h)

begun_outside : (s : Stage) (xs : List ProcessPlan) (x : ProcessPlan) → is_inside s ≡ false → begun_at s xs x ≡ xs
begun_outside stage.Commands xs x h = absurd (false_not_true (sym h))
begun_outside _ xs x h = refl

-- after a line of the head, with a volume there: what is printed, the fast stores and the calls that fail may differ
later : (s new : Stage) (p : Plan) (x : ProcessPlan) (bulks : List Bulk) (fails : List Fail) → IsAt s p x
    → is_head s ≡ true → has_volume s ≡ true → is_early new ≡ false → is_inside new ≡ false
    → IsAt new (record p { bulks = bulks; fails = fails }) x
later s new p x bulks fails h head volume late outside =
    grind (arith, nat_tests, common_steps, false_not_true, head_begun, begun_outside)

bulk_is : (n : ℕ) (b : Bulk) → b.volume < n → 1 ≤ b.places → b.places ≤ 1024 → is_bulk n b ≡ true
unfolding is_bulk
bulk_is n b given low high = grind (arith, nat_tests)

pub bulk_added : (d : DraftPlan) (new : List Bulk) (b : Bulk) → IsDraft d → new ≡ d.plan.bulks ++ b ∷ []
    → is_head d.stage ≡ true → has_volume d.stage ≡ true → b.volume < length d.plan.volumes → 1 ≤ b.places
    → b.places ≤ 1024 → list_any (is_before b.volume) d.plan.bulks ≡ false
    → IsDraft (record d { stage = stage.Bulks; plan = record d.plan { bulks = new } })
bulk_added d new b h e head volume given low high other =
    grind (arith, nat_tests, common_steps, bulk_is, all_push, bulks_push, later)

pub fail_added : (d : DraftPlan) (new : List Fail) (f : Fail) → IsDraft d → new ≡ d.plan.fails ++ f ∷ []
    → is_head d.stage ≡ true → has_volume d.stage ≡ true → is_fail (length d.plan.volumes) f ≡ true
    → length d.plan.fails < 100 → IsDraft (record d { stage = stage.Fails; plan = record d.plan { fails = new } })
fail_added d new f h e head volume range few = grind (arith, nat_tests, common_steps, all_push, length_push, later)

pub volume_added : (d : DraftPlan) (new : List VolumeLine) (v : VolumeLine) → IsDraft d → new ≡ d.plan.volumes ++ v ∷ []
    → is_early d.stage ≡ true → is_volume v ≡ true → list_any (has_name v.name) d.plan.volumes ≡ false
    → length d.plan.volumes < 4 → sum_by records_of d.plan.volumes + v.records ≤ 16384
    → IsDraft (record d { stage = stage.Volumes; plan = record d.plan { volumes = new } })
volume_added d new v h e early range other few records =
    grind (
      arith,
      nat_tests,
      common_steps,
      early_is_head,
      length_push,
      all_push,
      names_push,
      sum_push,
      false_not_true,
      head_begun,
    )

inside_has_volume : (s : Stage) → is_inside s ≡ true → has_volume s ≡ true
inside_has_volume s h = ap has_volume (inside_is s h)

inside_is_late : (s : Stage) → is_inside s ≡ true → is_early s ≡ true → ⊥
inside_is_late s h e = false_not_true (sym (ap is_early (inside_is s h)) ∙ e)

begins : (d : DraftPlan) → IsDraft d → d.stage ≡ stage.Commands → d.plan.initializer ≡ true
    → BeginsWithInitializer (d.plan.processes ++ begun d ∷ [])
begins d h at z = subst (λ s. BeginsWithInitializer (begun_at s d.plan.processes (begun d))) at (h.stage.first z)

command_added : (d : DraftPlan) (c : Command) → IsDraft d → is_inside d.stage ≡ true
    → is_command (length d.plan.volumes) c ≡ true → is_end c ≡ false → d.list.used + weight c ≤ 100000
    → IsDraft (record d { list = longer d.list c })
command_added d c h inside range going within =
    grind (arith, nat_tests, common_steps, inside_is, all_push, sum_push, inside_is_late, begins_same, begins)

process_is : (volumes : ℕ) (who : Who) (commands : List Command) (c : Command) → is_who who ≡ true
    → list_all (is_command volumes) commands ≡ true → list_all goes_on commands ≡ true → is_command volumes c ≡ true
    → is_end c ≡ true → is_process volumes (record { who = who; commands = commands ++ c ∷ [] }) ≡ true
unfolding is_process
process_is volumes who commands c w h going range last =
    grind (arith, nat_tests, common_steps, and_from, all_push, end_push)

process_weight : (who : Who) (commands : List Command) (c : Command)
    → weight_of (record { who = who; commands = commands ++ c ∷ [] }) ≡ sum_by weight commands + weight c
unfolding weight_of
process_weight who commands c = sum_push weight commands c

end_is_command : (volumes : ℕ) → is_command volumes command.End ≡ true
unfolding is_command
end_is_command volumes = refl

process_ended : (d : DraftPlan) → IsDraft d → is_inside d.stage ≡ true → d.list.used + 1 ≤ 100000
    → IsDraft (with_command d (longer d.list command.End) command.End)
process_ended d h inside within =
    grind (
      arith,
      nat_tests,
      common_steps,
      inside_is,
      all_push,
      process_is,
      end_is_command,
      length_push,
      sum_push,
      process_weight,
      inside_has_volume,
      false_not_true,
      begins_same,
    )

-- the plan of a whole draft
pub plan_is : (d : DraftPlan) → IsDraft d → is_whole d.stage ≡ true → IsPlan d.plan
plan_is d h whole = grind (arith, nat_tests, common_steps, whole_begun)

-- a command that was added isn't too many
within_limit : (b : Bool) (l new : ListPlan) → only_if cause.Many b l ≡ Ok new → (b ≡ true) × (new ≡ l)
within_limit true l new e = (refl, cc)
within_limit false l new e = absurd (cc)

past_limit : (b : Bool) (l : ListPlan) (why : Cause) → only_if cause.Many b l ≡ Err why → (b ≡ false)
    × (why ≡ cause.Many)
past_limit true l why e = absurd (cc)
past_limit false l why e = (refl, cc)

-- the list of a process took in what its line says
pub listed_kept : (d : DraftPlan) (l : ListPlan) (r : Result (Unit {0}) LineFault) (word : List ℕ)
    (fields : List (List ℕ)) → IsDraft d → is_inside d.stage ≡ true → bytes_eq word (codes "end") ≡ false
    → Lists d.list l r (command_of d.plan.volumes word fields) → IsDraft (record d { list = l })
listed_kept d l (Ok u) word fields h inside going e = kept (command_of d.plan.volumes word fields) refl e
  where
    kept : (read : Result Command Cause) → command_of d.plan.volumes word fields ≡ read → listed d.list read ≡ Ok l
        → IsDraft (record d { list = l })
    kept (Ok c) z e =
        let fits = (command_keeps d.plan.volumes word fields going).kept c z in
        let limit = within_limit (nat_le (d.list.used + weight c) 100000) (longer d.list c) l e in
        let few = limit.0 in
        subst (λ (n : ListPlan). IsDraft (record d { list = n })) (sym limit.1)
        (command_added d c h inside fits.range fits.going (grind (arith, nat_tests)))
    kept (Err why) z e = absurd (cc)
listed_kept d l (Err (fault.Refused why)) word fields h inside going e =
    subst (λ (n : ListPlan). IsDraft (record d { list = n })) (sym e.0) h
listed_kept d l (Err fault.Memory) word fields h inside going e =
    subst (λ (n : ListPlan). IsDraft (record d { list = n })) (sym e) h

pub listed_steps : (d : DraftPlan) (l : ListPlan) (r : Result (Unit {0}) LineFault) (word : List ℕ)
    (fields : List (List ℕ)) → bytes_eq word (codes "end") ≡ false
    → Lists d.list l r (command_of d.plan.volumes word fields)
    → Steps (record d { list = l }) r (command_line d word fields)
unfolding command_line
listed_steps d l (Ok u) word fields going e = kept (command_of d.plan.volumes word fields) refl e
  where
    kept : (read : Result Command Cause) → command_of d.plan.volumes word fields ≡ read → listed d.list read ≡ Ok l
        → added d (command_of d.plan.volumes word fields) ≡ Ok (record d { list = l })
    kept (Ok c) z e =
        let fits = (command_keeps d.plan.volumes word fields going).kept c z in
        let limit = within_limit (nat_le (d.list.used + weight c) 100000) (longer d.list c) l e in
        rw (z, limit.0, fits.going, limit.1) refl
    kept (Err why) z e = absurd (cc)
listed_steps d l (Err (fault.Refused why)) word fields going e =
    grind (arith, nat_tests, common_steps, past_limit, nat_le)
listed_steps d l (Err fault.Memory) word fields going e = tt

-- the line of the end
pub end_given : (d : DraftPlan) (word : List ℕ) (fields : List (List ℕ)) (u : Unit {0})
    → bytes_eq word (codes "end") ≡ true → no_fields fields ≡ Ok u → command_line d word fields
    ≡ added d (Ok command.End)
unfolding command_line end_of
end_given d word fields u h e = rw (end_again d.plan.volumes word fields h, e) refl

pub end_refused : (d : DraftPlan) (word : List ℕ) (fields : List (List ℕ)) (why : Cause)
    → bytes_eq word (codes "end") ≡ true → no_fields fields ≡ Err why → command_line d word fields ≡ Err why
unfolding command_line end_of
end_refused d word fields why h e = rw (end_again d.plan.volumes word fields h, e) refl

pub ruleset end_read = (end_given, end_refused)

-- the commands of a process and its end were taken from the list
pub process_listed : (d : DraftPlan) (l left : ListPlan) (new : List ProcessPlan) → IsDraft d → is_inside d.stage ≡ true
    → listed d.list (Ok command.End) ≡ Ok l → left ≡ record { commands = []; used = l.used } → new
    ≡ d.plan.processes ++ record { who = d.who; commands = l.commands } ∷ []
    → IsDraft (record d { stage = stage.Processes; plan = record d.plan { processes = new }; list = left })
process_listed d l left new h inside e gone more =
    grind (arith, nat_tests, common_steps, within_limit, nat_le, process_ended)
