-- Laws of steps that are made by processors that are drawn.
pub use Rattle.lab_runs.proofs.Prelude.{AreAnswered, AreLast, AreTo, Bool, CameTo, Draws, DrawsOne, DrawsOut, DrawsUntil, Entry, Grows, IsAnswering, IsEnding, IsMade, List, Machine, Step, Trial, [], answers, ap, append-nil, append_assoc, arith, common_steps, drawn, drawn_cpus, drop, false, false≢true, found_end, front_dropped, inl, inr, is_answer, is_end, length, length-append, list_any, list_any-append, map, map-append, next_state, processor_of, refl, rules, state_after, subst, suc, sym, true, zero, ℕ, ◌++◌, ◌+◌, ◌-◌, ◌<◌, ◌^◌, ◌∙◌, ◌∷◌, ◌≡◌, ◌≤◌}
pub use Rattle.lab_runs.proofs.StepLaws.{made_append, made_grows, made_on}
use Rattle.lab_runs.specs.declared.following.Trial.TheVariants as trial

-- ---- what is drawn

state_on : (x m n : ℕ) → state_after x (m + n) ≡ state_after (state_after x m) n
state_on x m zero = let same : m + 0 ≡ m = omega arith in ap (state_after x) same
state_on x m (suc n) =
    let same : m + suc n ≡ suc (m + n) = omega arith in
    ap (state_after x) same ∙ ap next_state (state_on x m n)

cpus_on : (p x m n : ℕ) → drawn_cpus p x (m + n) ≡ drawn_cpus p x m ++ drawn_cpus p (state_after x m) n
cpus_on p x m zero = let same : m + 0 ≡ m = omega arith in
    ap (drawn_cpus p x) same ∙ sym (append-nil (drawn_cpus p x m))
cpus_on p x m (suc n) =
    let same : m + suc n ≡ suc (m + n) = omega arith in
    ap (drawn_cpus p x) same ∙ ap (λ (cs : List ℕ). cs ++ drawn p (state_after x (suc (m + n))) ∷ []) (cpus_on p x m n)
    ∙ ap (λ (s : ℕ). (drawn_cpus p x m ++ drawn_cpus p (state_after x m) n) ++ drawn p (next_state s) ∷ [])
    (state_on x m n) ∙ append_assoc
    (drawn_cpus p x m) (drawn_cpus p (state_after x m) n) (drawn p (state_after (state_after x m) (suc n)) ∷ [])

pub draws_none : (p : ℕ) (old : Machine) (x : ℕ) → Draws p old old x x []
draws_none p old x = record { made = refl; cpus_are = refl; state = refl }

pub draws_append : (p : ℕ) (old mid new : Machine) (x y z : ℕ) (ss ts : List Step) → Draws p old mid x y ss
    → Draws p mid new y z ts → Draws p old new x z (ss ++ ts)
draws_append p old mid new x y z ss ts one two = record {
  made = made_append old mid new ss ts one.made two.made;
  cpus_are = map-append processor_of ss ts ∙ ap (λ (cs : List ℕ). cs ++ map processor_of ts) one.cpus_are
      ∙ ap (λ (cs : List ℕ). drawn_cpus p x (length ss) ++ cs) two.cpus_are
      ∙ ap (λ (s : ℕ). drawn_cpus p x (length ss) ++ drawn_cpus p s (length ts)) one.state
      ∙ sym (cpus_on p x (length ss) (length ts)) ∙ ap (drawn_cpus p x) (sym (length-append ss ts));
  state = two.state ∙ ap (λ (s : ℕ). state_after s (length ts)) one.state
      ∙ sym (state_on x (length ss) (length ts)) ∙ ap (state_after x) (sym (length-append ss ts));
}

draws_one : (p : ℕ) (old new : Machine) (x y : ℕ) (step : Step) → IsMade old new step → y ≡ next_state x
    → step.processor ≡ drawn p y → Draws p old new x y (step ∷ [])
draws_one p old new x y step made state its = record {
  made = (new, made, refl);
  cpus_are = ap (λ (c : ℕ). c ∷ []) (its ∙ ap (drawn p) state);
  state = state;
}

-- ---- what the steps append

pub added : (old new : List Entry) (g : Grows old new) → drop (length old) new ≡ g.more
added old new g = ap (drop (length old)) g.entries ∙ front_dropped old g.more

-- none answers in what two ways of going on append
quiet_on : (old mid new : Machine) (g : Grows old.state.entries mid.state.entries) (h : Grows
    mid.state.entries new.state.entries) → answers old mid ≡ false → answers mid new ≡ false → answers old new ≡ false
quiet_on old mid new g h one two =
    let first : list_any is_answer g.more ≡ false =
    sym (ap (list_any is_answer) (added old.state.entries mid.state.entries g)) ∙ one in
    let second : list_any is_answer h.more ≡ false =
    sym (ap (list_any is_answer) (added mid.state.entries new.state.entries h)) ∙ two in
    ap (λ (es : List Entry). list_any is_answer (drop (length old.state.entries) es))
    (h.entries ∙ ap (λ (es : List Entry). es ++ h.more) g.entries ∙ append_assoc old.state.entries g.more h.more)
    ∙ ap (list_any is_answer) (front_dropped old.state.entries (g.more ++ h.more))
    ∙ list_any-append is_answer g.more h.more ∙ rw (first, second) refl

-- where one answers there are more entries
longer : (before : ℕ) (es : List Entry) → list_any is_answer (drop before es) ≡ true → before < length es
longer zero [] e = absurd (false≢true e)
longer (suc n) [] e = absurd (false≢true e)
longer zero (x ∷ es) e = omega arith
longer (suc n) (x ∷ es) e = let more = longer n es e in omega (arith, more)

grown : (old new : List Entry) → Grows old new → length old ≤ length new
grown old new g = let size = ap length g.entries ∙ length-append old g.more in omega (arith, size)

-- ---- until a command is answered

-- so many steps were made, which answered no command and found no end
pub record IsDrawing (p : ℕ) (old new : Machine) (before after tried : ℕ) : Type 0 where
  pub steps : List Step
  pub draws : Draws p old new before after steps
  pub count : length steps ≡ tried
  pub quiet : answers old new ≡ false
  pub going : found_end steps ≡ false

pub drawing_start : (p : ℕ) (old : Machine) (x : ℕ) → IsDrawing p old old x x 0
drawing_start p old x = record {
  steps = [];
  draws = draws_none p old x;
  count = refl;
  quiet = let gone : drop (length old.state.entries) old.state.entries ≡ [] = grind (arith, common_steps) in
      ap (list_any is_answer) gone;
  going = refl;
}

module _ (p : ℕ) (old mid new : Machine) (x y z tried : ℕ) (was : IsDrawing p old mid x y tried) where
  all : (step : Step) → IsMade mid new step → z ≡ next_state y → step.processor ≡ drawn p z
      → Draws p old new x z (was.steps ++ step ∷ [])
  all step made state its =
      draws_append p old mid new x y z was.steps (step ∷ []) was.draws (draws_one p mid new y z step made state its)

  one_grows : (step : Step) → IsMade mid new step → Grows mid.state.entries new.state.entries
  one_grows step made = made_grows mid new (step ∷ []) (new, made, refl)

  old_grows : Grows old.state.entries mid.state.entries
  old_grows = made_grows old mid was.steps was.draws.made

  pub drawing_on : DrawsOne p mid new y z trial.Missed → IsDrawing p old new x z (tried + 1)
  drawing_on one = record {
    steps = was.steps ++ one.step ∷ [];
    draws = all one.step one.made one.state one.its;
    count = let more = length-append was.steps (one.step ∷ []) in let so_far = was.count in
        omega (arith, more, so_far);
    quiet = quiet_on old mid new old_grows (one_grows one.step one.made) was.quiet one.came.0;
    going = list_any-append (λ (s : Step). is_end s.answer) was.steps (one.step ∷ []) ∙ rw (was.going, one.came.1) refl;
  }

  -- the row that such a step ends
  row : (P : Machine → Machine → Step → Type 0) (step : Step) → tried < 100000 → IsMade mid new step → P mid new step
      → AreTo P old new (was.steps ++ step ∷ [])
  row P step few made so = record {
    before = was.steps;
    last = step;
    steps_are = refl;
    mid = mid;
    quiet = record {
      made = was.draws.made;
      quiet = was.quiet;
      going = was.going;
      few = let count = was.count in omega (arith, count, few);
    };
    made = made;
    so = so;
  }

  pub drawing_ended : tried < 100000 → DrawsOne p mid new y z trial.Ended → DrawsUntil p old new x z trial.Ended
  drawing_ended few one = record {
    steps = was.steps ++ one.step ∷ [];
    draws = all one.step one.made one.state one.its;
    came = row IsEnding one.step few one.made one.came;
  }

  pub drawing_seen : tried < 100000 → DrawsOne p mid new y z trial.Seen → DrawsUntil p old new x z trial.Seen
  drawing_seen few one = record {
    steps = was.steps ++ one.step ∷ [];
    draws = all one.step one.made one.state one.its;
    came = row IsAnswering one.step few one.made one.came;
  }

pub drawing_missed : (p : ℕ) (old new : Machine) (x z tried : ℕ) → IsDrawing p old new x z tried → tried ≡ 100000
    → DrawsUntil p old new x z trial.Missed
drawing_missed p old new x z tried was many = record {
  steps = was.steps;
  draws = was.draws;
  came = (
    record {
      made = was.draws.made;
      quiet = was.quiet;
      going = was.going;
      few = let count = was.count in omega (arith, count, many);
    },
    was.count ∙ many,
  );
}

-- ---- until all have ended

-- Steps were made by drawn processors, in rows of which each ended with an answer.
pub record HaveDrawn (p : ℕ) (old new : Machine) (before after : ℕ) : Type 0 where
  pub steps : List Step
  pub draws : Draws p old new before after steps
  pub rows : ℕ
  pub answered : AreAnswered rows old new steps

pub have_none : (p : ℕ) (old : Machine) (x : ℕ) → HaveDrawn p old old x x
have_none p old x = record { steps = []; draws = draws_none p old x; rows = 0; answered = (refl, refl) }

module _ (p : ℕ) (old mid new : Machine) (seed y z : ℕ) (was : HaveDrawn p old mid seed y) where
  pub have_on : DrawsUntil p mid new y z trial.Seen → HaveDrawn p old new seed z
  have_on more = record {
    steps = was.steps ++ more.steps;
    draws = draws_append p old mid new seed y z was.steps more.steps was.draws more.draws;
    rows = suc was.rows;
    answered = (mid, was.steps, more.steps, refl, was.answered, more.came);
  }

  out_by : (t : Trial) (more : DrawsUntil p mid new y z t) → AreLast mid new more.steps → DrawsOut p seed old new
  out_by t more stop = record {
    steps = was.steps ++ more.steps;
    after = z;
    draws = draws_append p old mid new seed y z was.steps more.steps was.draws more.draws;
    in_time = record {
      rows = was.rows;
      mid = mid;
      before = was.steps;
      last = more.steps;
      steps_are = refl;
      answered = was.answered;
      stop = stop;
    };
  }

  pub out_ended : DrawsUntil p mid new y z trial.Ended → DrawsOut p seed old new
  out_ended more = out_by trial.Ended more (inl more.came)

  pub out_idle : DrawsUntil p mid new y z trial.Missed → DrawsOut p seed old new
  out_idle more = out_by trial.Missed more (inr more.came)

-- after each answer there is room for fewer
pub seen_smaller : (p : ℕ) (old new : Machine) (x z : ℕ) → DrawsUntil p old new x z trial.Seen
    → length new.state.entries < 2 ^ 63 → 2 ^ 63 - length new.state.entries < 2 ^ 63 - length old.state.entries
seen_smaller p old new x z more few =
    let came = more.came in
    let first = grown old.state.entries came.mid.state.entries
    (made_grows old came.mid came.before came.quiet.made) in
    let longer_is = longer (length came.mid.state.entries) new.state.entries came.so in
    omega (arith, first, longer_is, few)

-- ---- a step, by what came of it

pub answered_is : (old new : Machine) (before : ℕ) (entries : List Entry) (answered : Bool)
    → before ≡ length old.state.entries → entries ≡ new.state.entries
    → answered ≡ list_any is_answer (drop before entries) → answered ≡ answers old new
answered_is old new before entries answered was now is =
    is ∙ ap (λ (n : ℕ). list_any is_answer (drop n entries)) was
    ∙ ap (λ (es : List Entry). list_any is_answer (drop (length old.state.entries) es)) now
