use Rattle.seg_control.proofs.New.{arith, kept_new, plain}
use Rattle.seg_control.proofs.segs.Segs.new.Goals as goal

pub invariant_of-result : goal.invariant_of-result
invariant_of-result g c =
    let kept = kept_new (plain g.D.Drive.pages c.args.pages) c.args.pools c.places_of-places.result c.args.processes
    c.in_ok-ast.ast c.in_ok-links.links (omega arith)
    c.requires.processes c.requires.free c.requires.records c.requires.rest c.in_ok-ast.ensures.empty
    c.in_ok-ast.ensures.tables c.places_of-places.ensures c.in_ok-links.ensures in
    assumption
