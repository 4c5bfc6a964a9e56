use Rattle.quota_cells.proofs.Prelude.{◌∙◌, IsTable, given, CanGive, directories_of, directory_in, on_directories}
use Rattle.quota_cells.proofs.OverLaws.{Moving, gives}
use Rattle.quota_cells.proofs.Cells.transfer.Goals as goal

pub superiors-above_getter-requires : goal.superiors-above_getter-requires
superiors-above_getter-requires c = directory_in c.args.t.now.nodes c.args.getter c.requires.getter

pub superiors-above_giver-requires : goal.superiors-above_giver-requires
superiors-above_giver-requires c = directory_in c.args.t.now.nodes c.args.giver c.requires.giver

-- the getter can be given the pages, and the cells hold together then
can : (c : goal.After-as_slice-2)
    → CanGive (directories_of c.args.self.now) c.args.getter c.as_slice.result.now c.args.giver
    c.as_slice-2.result.now c.args.pages
    × IsTable (given c.args.self.now c.args.getter c.as_slice.result.now c.args.giver c.as_slice-2.result.now
    c.args.pages)
can c =
    let up_g = c.as_slice.ensures.value ∙ c.superiors-above_getter.ensures.plain in
    let up_v = c.as_slice-2.ensures.value ∙ c.superiors-above_giver.ensures.plain in
    let moving : Moving c.args.t.now.nodes c.args.self.now c.args.getter c.args.giver c.args.pages = record {
      settled = record {
        table = rw c.self.view_is at c.self.invariant;
        fits = c.requires.fits;
        chains = c.superiors-above_getter.ensures.chains;
      };
      other = c.requires.other;
      here_g = cc (on_directories c.args.t.now.nodes c.requires.fits c.args.getter);
      here_v = cc (on_directories c.args.t.now.nodes c.requires.fits c.args.giver);
      some = c.requires.pages;
      enough = c.requires.enough;
    } in
    rw (up_g, up_v) (gives moving c.requires.none)

pub give-requires-clause-can : goal.give-requires-clause-can
give-requires-clause-can c = (can c).0

pub give-requires-clause-table : goal.give-requires-clause-table
give-requires-clause-table c = (can c).1
