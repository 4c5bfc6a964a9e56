-- Laws of a machine that follows a schedule from its boot on.
pub use Rattle.lab_runs.proofs.Prelude.{AreFollowed, AreMade, AreTold, Astray, EndsRan, HasRunBy, HaveCounted, IsBooted, KeepsParts, Line, List, Machine, Plan, Ran, RunsAstray, Step, StraysIn, any_places, counted_on, faults_in, plan_of, refl, subst, sym, told_still, ◌∙◌, ◌≡◌}
use Rattle.lab_runs.proofs.FollowLaws.{followed_made, made_keeps, made_run}
use Rattle.lab_runs.specs.declared.following.Astray.TheVariants as astray

module _ (p : Plan) (lines : List Line) (booted stepped : Machine) (steps : List Step) (boot : IsBooted p booted)
    (script : booted.state.plan ≡ p) (followed : AreFollowed booted.state.plan.processors lines booted stepped steps)
  where
    made : AreMade booted stepped steps
    made = followed_made booted.state.plan.processors lines booted stepped steps followed

    kept : KeepsParts plan_of any_places faults_in booted stepped
    kept = made_keeps booted stepped steps made

    pub ran_told : AreTold stepped.state.plan stepped.drives
    ran_told = subst (λ (q : Plan). AreTold q stepped.drives) (sym (kept.script ∙ script))
        (told_still p booted.drives stepped.drives kept.plans kept.stores boot.drives)

    pub ran_counted : HaveCounted faults_in 0 0 booted → HaveCounted faults_in 0 0 stepped
    ran_counted counted = counted_on faults_in 0 0 booted stepped counted kept.alike

    -- and was finished and shut down
    pub ran_by : (r : Ran) → EndsRan stepped steps r → HasRunBy p lines r
    ran_by r e = record {
      booted = booted;
      stepped = stepped;
      finished = e.finished;
      script = e.script ∙ kept.script ∙ script;
      boot = boot;
      followed = subst (λ (ss : List Step). AreFollowed p.processors lines booted stepped ss) (sym e.steps_are)
          (subst (λ (q : Plan). AreFollowed q.processors lines booted stepped steps) script followed);
      made = subst (AreMade booted stepped) (sym e.steps_are) made;
      steps = made_run booted stepped r.steps.items (subst (AreMade booted stepped) (sym e.steps_are) made);
      ended = e.ended;
      stepped_is = e.stepped_is;
      finished_is = e.finished_is;
    }

-- it couldn't follow a line
pub went_astray : (p : Plan) (lines : List Line) (booted : Machine) (fault : Astray) → IsBooted p booted
    → booted.state.plan ≡ p → StraysIn booted.state.plan.processors lines booted fault → RunsAstray p lines fault
went_astray p lines booted (astray.Refused r) boot script h = record {
  booted = booted;
  boot = boot;
  stray = subst (λ (q : Plan). StraysIn q.processors lines booted (astray.Refused r)) script h;
}
went_astray p lines booted astray.Memory boot script h = tt
