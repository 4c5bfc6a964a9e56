use Rattle.machine_tables.proofs.Prelude.{◌≡◌, rules, false, quota_in, as_term}
use Rattle.machine_tables.proofs.TruncatedLaws.{is_directory, is_nothing, is_segment}
use Rattle.machine_tables.proofs.committing.segment_of.Goals as goal

pub returns-in-Err : goal.returns-in-Err
returns-in-Err c = is_nothing c.args.accounts.now.nodes c.args.path.now c.in-Err.field-0 (cc)

pub returns-in-Some : goal.returns-in-Some
returns-in-Some c = is_segment c.args.accounts.now.nodes c.args.path.now c.in-Ok.uid
    (as_term (quota_in c.args.accounts.now.nodes) c.in-Some.node.now) (cc)
    c.in-Some.ensures.some (let kind : c.in-Some.node.now.dir ≡ false = search rules in kind)

pub returns-in_default : goal.returns-in_default
returns-in_default c = is_directory c.args.accounts.now.nodes c.args.path.now c.in-Ok.uid
    (as_term (quota_in c.args.accounts.now.nodes) c.in-Some.node.now) (cc) c.in-Some.ensures.some c.if-not-node.false
