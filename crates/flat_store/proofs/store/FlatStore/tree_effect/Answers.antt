use Rattle.std.proofs.lemmas.Grind.{common_steps}
use Rattle.flat_store.proofs.Prelude.{arith, nat_tests, make_keeps, acl_keeps, length_keeps, truncate_keeps, delete_keeps}
use Rattle.flat_store.proofs.StoreLaws.{effect_done}
use Rattle.flat_store.proofs.store.FlatStore.tree_effect.Goals as goal

pub returns-in-MkDir : goal.returns-in-MkDir
returns-in-MkDir c = grind (arith, nat_tests, common_steps, effect_done, make_keeps)

pub returns-in-MkSeg : goal.returns-in-MkSeg
returns-in-MkSeg c = grind (arith, nat_tests, common_steps, effect_done, make_keeps)

pub returns-in-Acl : goal.returns-in-Acl
returns-in-Acl c = λ s h few effect.
    effect_done c.self-in-Acl.view_is c.args.process c.in-Acl.is h effect (c.set_row.ensures c.args.script.now s)
    (acl_keeps s c.in-Acl.path c.in-Acl.row c.in-Acl.mode)

pub returns-in-Length : goal.returns-in-Length
returns-in-Length c = λ s h few effect. effect_done c.self-in-Length.view_is c.args.process c.in-Length.is h effect
    (c.set_length.ensures c.args.script.now s) (length_keeps s c.in-Length.path c.in-Length.pages)

pub returns-in-Truncate : goal.returns-in-Truncate
returns-in-Truncate c = λ s h few effect.
    effect_done c.self-in-Truncate.view_is c.args.process c.in-Truncate.is h effect
    (λ holds asked. c.truncate.ensures c.args.script.now s holds)
    (truncate_keeps s c.in-Truncate.path c.in-Truncate.words)

pub returns-in-Delete : goal.returns-in-Delete
returns-in-Delete c = λ s h few effect.
    effect_done c.self-in-Delete.view_is c.args.process c.in-Delete.is h effect (c.delete.ensures c.args.script.now s)
    (delete_keeps s c.in-Delete.path)
