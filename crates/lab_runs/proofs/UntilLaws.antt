-- Laws of steps that are made until an entry begins so.
pub use Rattle.lab_runs.proofs.Prelude.{Adds, AreMade, Bool, CameTo, Entry, Grows, IsMade, List, Machine, Step, Tries, TriesOne, [], ap, append-nil, append_assoc, appends, arith, common_steps, drop, entry_begins, false, front_dropped, inl, inr, length, length-append, list_any, list_any-append, map-append, processor_of, refl, replicate, replicate_more, rules, subst, sym, true, ℕ, ◌++◌, ◌+◌, ◌∙◌, ◌∷◌, ◌≡◌, ◌≤◌}
use Rattle.lab_runs.proofs.DrawLaws.{added, made_grows, made_on}
use Rattle.machine.specs.declared.turn.Turn.TheVariants as turn
use Rattle.lab_runs.specs.declared.following.Trial.TheVariants as trial

-- so many steps were made, and no entry that they appended begins so
pub record IsTrying (c : ℕ) (text : List (List ℕ)) (old new : Machine) (before after : List Step) (tried : ℕ) : Type 0
  where
    pub adds : Adds c old new before after
    pub count : length adds.steps ≡ tried
    pub none : appends text old new ≡ false

-- none begins so in what two ways of going on append
quiet_on : (text : List (List ℕ)) (old mid new : Machine) (g : Grows old.state.entries mid.state.entries)
    (h : Grows mid.state.entries new.state.entries) → appends text old mid ≡ false → appends text mid new ≡ false
    → appends text old new ≡ false
quiet_on text old mid new g h one two =
    let first : list_any (entry_begins text) g.more ≡ false =
    sym (ap (list_any (entry_begins text)) (added old.state.entries mid.state.entries g)) ∙ one in
    let second : list_any (entry_begins text) h.more ≡ false =
    sym (ap (list_any (entry_begins text)) (added mid.state.entries new.state.entries h)) ∙ two in
    ap (λ (es : List Entry). list_any (entry_begins text) (drop (length old.state.entries) es))
    (h.entries ∙ ap (λ (es : List Entry). es ++ h.more) g.entries ∙ append_assoc old.state.entries g.more h.more)
    ∙ ap (list_any (entry_begins text)) (front_dropped old.state.entries (g.more ++ h.more))
    ∙ list_any-append (entry_begins text) g.more h.more ∙ rw (first, second) refl

pub trying_start : (c : ℕ) (text : List (List ℕ)) (old : Machine) (before : List Step)
    → IsTrying c text old old before before 0
trying_start c text old before = record {
  adds = record { steps = []; made = refl; added = sym (append-nil before); cpus_are = refl };
  count = refl;
  none = let gone : drop (length old.state.entries) old.state.entries ≡ [] = grind (arith, common_steps) in
      ap (list_any (entry_begins text)) gone;
}

-- a step more
module _ (c : ℕ) (text : List (List ℕ)) (old mid new : Machine) (before middle after : List Step) (tried : ℕ)
    (step : Step) (was : IsTrying c text old mid before middle tried) (made : IsMade mid new step)
    (its : step.processor ≡ c) (pushed : after ≡ middle ++ step ∷ [])
  where
    pub one_made : AreMade mid new (step ∷ [])
    one_made = (new, made, refl)

    count_on : length (was.adds.steps ++ step ∷ []) ≡ tried + 1
    count_on = let more = length-append was.adds.steps (step ∷ []) in let so_far = was.count in
        omega (arith, more, so_far)

    pub adds_on : Adds c old new before after
    adds_on = record {
      steps = was.adds.steps ++ step ∷ [];
      made = made_on old mid new was.adds.steps step was.adds.made made;
      added = pushed ∙ ap (λ (t : List Step). t ++ step ∷ []) was.adds.added
          ∙ append_assoc before was.adds.steps (step ∷ []);
      cpus_are = map-append processor_of was.adds.steps (step ∷ []) ∙ ap (λ (t : List ℕ). t ++ step.processor ∷ [])
          was.adds.cpus_are ∙ ap (λ (x : ℕ). replicate (length was.adds.steps) c ++ x ∷ []) its ∙ replicate_more
          (length was.adds.steps) c ∙ ap (λ (n : ℕ). replicate n c) (sym (length-append was.adds.steps (step ∷ [])));
    }

    module _ (quiet : appends text mid new ≡ false) where
      none_on : appends text old new ≡ false
      none_on = quiet_on text old mid new (made_grows old mid was.adds.steps was.adds.made)
          (made_grows mid new (step ∷ []) one_made) was.none quiet

      pub trying_on : IsTrying c text old new before after (tried + 1)
      unfolding adds_on
      trying_on = record { adds = adds_on; count = count_on; none = none_on }

      pub missed_at : step.answer ≡ turn.Ended → Tries false c text old new before after
      unfolding adds_on
      missed_at ended = (adds_on, record { none = none_on; why = inr (was.adds.steps, step, refl, ended) })

    pub reached_at : tried + 1 ≤ 1000000 → appends text mid new ≡ true → Tries true c text old new before after
    unfolding adds_on
    reached_at few some = (
      adds_on,
      record {
        before = was.adds.steps;
        last = step;
        steps_are = refl;
        few = let n = count_on in omega (arith, n, few);
        mid = mid;
        early = was.adds.made;
        late = one_made;
        none = was.none;
        some = some;
      },
    )

pub missed_all : (c : ℕ) (text : List (List ℕ)) (old new : Machine) (before after : List Step) (tried : ℕ)
    → IsTrying c text old new before after tried → tried ≡ 1000000 → Tries false c text old new before after
missed_all c text old new before after tried was all =
    (was.adds, record { none = was.none; why = inl (was.count ∙ all) })

-- ---- a step, by what came of it

-- whether an entry that a step appended begins so
pub seen_is : (text : List (List ℕ)) (old new : Machine) (before : ℕ) (entries : List Entry) (seen : Bool)
    → before ≡ length old.state.entries → entries ≡ new.state.entries
    → seen ≡ list_any (entry_begins text) (drop before entries) → seen ≡ appends text old new
seen_is text old new before entries seen was now is =
    is ∙ ap (λ (n : ℕ). list_any (entry_begins text) (drop n entries)) was
    ∙ ap (λ (es : List Entry). list_any (entry_begins text) (drop (length old.state.entries) es)) now

module _ (c : ℕ) (text : List (List ℕ)) (old mid new : Machine) (before middle after : List Step) (tried : ℕ)
    (was : IsTrying c text old mid before middle tried)
  where
    pub go_on : TriesOne c text mid new middle after trial.Missed → IsTrying c text old new before after (tried + 1)
    go_on one = trying_on c text old mid new before middle after tried one.step was one.made one.its one.pushed
        one.came.0

    pub stop_seen : TriesOne c text mid new middle after trial.Seen → tried + 1 ≤ 1000000
        → Tries true c text old new before after
    stop_seen one few = reached_at c text old mid new before middle after tried one.step was one.made one.its one.pushed
        few one.came

    pub stop_ended : TriesOne c text mid new middle after trial.Ended → Tries false c text old new before after
    stop_ended one = missed_at c text old mid new before middle after tried one.step was one.made one.its one.pushed
        one.came.0 one.came.1
