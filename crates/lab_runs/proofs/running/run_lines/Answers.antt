use Rattle.lab_runs.proofs.RunLaws.{ran_by, ran_counted, ran_told, refl, went_astray}
use Rattle.lab_runs.proofs.running.run_lines.Goals as goal

pub end-requires-clause-told : goal.end-requires-clause-told
end-requires-clause-told c = ran_told _ _ _ _ _ c.requires.booted refl c.in-Ok.ensures.followed

pub end-requires-clause-counted : goal.end-requires-clause-counted
end-requires-clause-counted c = ran_counted _ _ _ _ _ c.requires.booted refl c.in-Ok.ensures.followed c.requires.counted

pub returns-in-Ok-end-clause-run : goal.returns-in-Ok-end-clause-run
returns-in-Ok-end-clause-run c = ran_by _ _ _ _ _ c.requires.booted refl c.in-Ok.ensures.followed c.in-Ok-end.ran
    c.in-Ok-end.ensures

pub returns-in-Err-clause-astray : goal.returns-in-Err-clause-astray
returns-in-Err-clause-astray c = went_astray _ _ _ c.in-Err.astray c.requires.booted refl c.in-Err.ensures.astray
