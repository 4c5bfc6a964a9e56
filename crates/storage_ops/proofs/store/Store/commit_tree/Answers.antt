use Rattle.storage_ops.proofs.Prelude.{length, subst, Command, IsReady, few_pages}
use Rattle.storage_ops.proofs.Laws.{dir_volume, new_length, seg_volume, rest_accounts, rest_known, rest_made, rest_none}
use Rattle.storage_ops.proofs.store.Store.commit_tree.Goals as goal

pub make_dir-requires-clause-volume : goal.make_dir-requires-clause-volume
make_dir-requires-clause-volume g c =
    dir_volume (length c.args.self.now.segs.pages.volumes.drives) c.in-MkDir.path c.in-MkDir.volume
    (rw (← c.in-MkDir.is) c.requires.ranges)

pub make_seg-requires-clause-process : goal.make_seg-requires-clause-process
make_seg-requires-clause-process g c = rw c.accounts-accounts.ensures.store.known.processes c.requires.process

pub make_seg-requires-clause-volume : goal.make_seg-requires-clause-volume
make_seg-requires-clause-volume g c =
    seg_volume (length c.args.self.now.segs.pages.volumes.drives) c.in-MkSeg.path c.in-MkSeg.pages c.in-MkSeg.volume
    (rw (← c.in-MkSeg.is) c.requires.ranges)

pub make_seg-requires-clause-most : goal.make_seg-requires-clause-most
make_seg-requires-clause-most g c =
    few_pages (length c.args.self.now.segs.pages.volumes.drives) c.in-MkSeg.path c.in-MkSeg.pages c.in-MkSeg.volume
    (rw (← c.in-MkSeg.is) c.requires.ranges)

pub set_length-requires-clause-most : goal.set_length-requires-clause-most
set_length-requires-clause-most g c =
    new_length (length c.args.self.now.segs.pages.volumes.drives) c.in-Length.path c.in-Length.pages
    (rw (← c.in-Length.is) c.requires.ranges)

pub truncate-requires-clause-past : goal.truncate-requires-clause-past
truncate-requires-clause-past g c = subst (λ (x : Command). IsReady c.args.self.now c.args.process x) c.in-Truncate.is
    c.requires.ready

pub returns-in-MkDir-clause-rest : goal.returns-in-MkDir-clause-rest
returns-in-MkDir-clause-rest g c = rest_made _ _ c.make_dir.ensures.rest

pub returns-in-MkSeg-clause-rest : goal.returns-in-MkSeg-clause-rest
returns-in-MkSeg-clause-rest g c = rest_made _ _ c.make_seg.ensures.rest

pub returns-in-Initiate-clause-rest : goal.returns-in-Initiate-clause-rest
returns-in-Initiate-clause-rest g c = rest_known _ c.initiate.ensures.rest

pub returns-in-Terminate-clause-rest : goal.returns-in-Terminate-clause-rest
returns-in-Terminate-clause-rest g c = rest_known _ c.terminate.ensures.rest

pub returns-in-Acl-clause-rest : goal.returns-in-Acl-clause-rest
returns-in-Acl-clause-rest g c = rest_accounts _ c.set_acl.ensures.rest

pub returns-in-Length-clause-rest : goal.returns-in-Length-clause-rest
returns-in-Length-clause-rest g c = rest_accounts _ c.set_length.ensures.rest

pub returns-in-Truncate-clause-rest : goal.returns-in-Truncate-clause-rest
returns-in-Truncate-clause-rest g c = c.truncate.ensures.rest

pub returns-in-Delete-clause-rest : goal.returns-in-Delete-clause-rest
returns-in-Delete-clause-rest g c = c.delete.ensures.rest

pub returns-in-Move-clause-rest : goal.returns-in-Move-clause-rest
returns-in-Move-clause-rest g c = rest_accounts _ c.commit_move.ensures.rest

pub returns-in-Status-clause-rest : goal.returns-in-Status-clause-rest
returns-in-Status-clause-rest g c = rest_none c.args.self.now
