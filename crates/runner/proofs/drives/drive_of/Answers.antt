use Rattle.runner.proofs.Prelude.{ap, ◌∙◌, faults_of, records_of, lines_in}
use Rattle.runner.proofs.Fresh.{no_faults}
use Rattle.runner.proofs.drives.drive_of.Goals as goal

pub returns-then-places-eq0-clause-faults : goal.returns-then-places-eq0-clause-faults
returns-then-places-eq0-clause-faults c =
    let script = c.args.script.now in
    ap faults_of c.in_ok-disk.ensures ∙ no_faults (records_of script c.args.v) (lines_in script.fails c.args.v)

pub returns-clause-pages : goal.returns-clause-pages
returns-clause-pages c = c.in_ok-bulk.ensures.pages ∙ ap (λ d. d.pages) c.in_ok-disk.ensures

pub returns-clause-faults : goal.returns-clause-faults
returns-clause-faults c =
    let script = c.args.script.now in
    ap (λ b. faults_of b.disk) c.in_ok-bulk.ensures.made
    ∙ (ap faults_of c.in_ok-disk.ensures ∙ no_faults (records_of script c.args.v) (lines_in script.fails c.args.v))
