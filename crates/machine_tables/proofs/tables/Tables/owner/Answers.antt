use Rattle.machine_tables.proofs.Prelude.{refl, cut_of_owner, frames_of_owner, owner_by}
use Rattle.machine_tables.proofs.tables.Tables.owner.Goals as goal

pub returns-in-Some-clause-some : goal.returns-in-Some-clause-some
returns-in-Some-clause-some g c = rw (← c.self.view_is) (record {
  owner = owner_by c.in-Some.holder (frames_of_owner c.self.inside.job) (cut_of_owner c.self.inside.job);
  mine = c.in-Some.ensures.some;
  cpu = refl;
})
