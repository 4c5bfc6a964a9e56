use Rattle.machine_tables.proofs.Prelude.{◌≡◌, ℕ, List, None, map, true, refl, subst, is_command, Command, Reply, IsReady, Stored, dir_volume, new_length, seg_volume, frame_entry, OwnsFor, IsCommitted, left_entry, shown, IsCommittedBut, few_pages}
use Rattle.machine_tables.proofs.commit.take_effect.Goals as goal

-- the command that was matched is in its ranges
ranges : {x y : Command} (drives : ℕ) → x ≡ y → is_command drives x ≡ true → is_command drives y ≡ true
ranges drives is h = subst (λ (c : Command). is_command drives c ≡ true) is h

-- the command that was matched is committed, and of the pages that were taken none stays
gone : {D : Type 0} (drive : D → List (List ℕ)) (old new : Stored D) (k : ℕ) (r : Reply) {x y : Command} → x ≡ y
    → ((frames : List ℕ) → map (left_entry None) frames ≡ map (frame_entry (shown drive old) y) frames)
    → ((frames : List ℕ) → OwnsFor (shown drive old) frames y → IsCommitted drive old new k frames y r)
    → (frames : List ℕ) → OwnsFor (shown drive old) frames x → IsCommittedBut drive old new k frames x r None
gone drive old new k r is left committed = rw is (λ frames owns. record {
  committed = committed frames owns;
  left = λ p flat faithful takes. left frames;
})

pub make_dir-requires-clause-volume : goal.make_dir-requires-clause-volume
make_dir-requires-clause-volume g c = dir_volume _ c.in-MkDir.path c.in-MkDir.volume
    (ranges _ c.in-MkDir.is c.requires.ranges)

pub make_seg-requires-clause-process : goal.make_seg-requires-clause-process
make_seg-requires-clause-process g c = rw c.look.ensures.store.known.processes c.requires.knows

pub make_seg-requires-clause-volume : goal.make_seg-requires-clause-volume
make_seg-requires-clause-volume g c = seg_volume _ c.in-MkSeg.path c.in-MkSeg.pages c.in-MkSeg.volume
    (ranges _ c.in-MkSeg.is c.requires.ranges)

pub make_seg-requires-clause-most : goal.make_seg-requires-clause-most
make_seg-requires-clause-most g c = few_pages _ c.in-MkSeg.path c.in-MkSeg.pages c.in-MkSeg.volume
    (ranges _ c.in-MkSeg.is c.requires.ranges)

pub set_length-requires-clause-most : goal.set_length-requires-clause-most
set_length-requires-clause-most g c = new_length _ c.in-Length.path c.in-Length.pages
    (ranges _ c.in-Length.is c.requires.ranges)

pub truncate-requires-clause-taken : goal.truncate-requires-clause-taken
truncate-requires-clause-taken g c = subst (λ (x : Command). IsReady c.args.store.now c.args.process x) c.in-Truncate.is
    c.requires.ready

pub returns-in-MkDir : goal.returns-in-MkDir
returns-in-MkDir g c = gone _ _ _ _ _ c.in-MkDir.is (λ fs. refl) (λ fs owns. c.make_dir.ensures c.args.process fs)

pub returns-in-MkSeg : goal.returns-in-MkSeg
returns-in-MkSeg g c = gone _ _ _ _ _ c.in-MkSeg.is (λ fs. refl) (λ fs owns. c.make_seg.ensures fs)

pub returns-in-Initiate : goal.returns-in-Initiate
returns-in-Initiate g c = gone _ _ _ _ _ c.in-Initiate.is (λ fs. refl) (λ fs owns. c.initiate.ensures fs)

pub returns-in-Terminate : goal.returns-in-Terminate
returns-in-Terminate g c = gone _ _ _ _ _ c.in-Terminate.is (λ fs. refl) (λ fs owns. c.terminate.ensures fs)

pub returns-in-Acl : goal.returns-in-Acl
returns-in-Acl g c = gone _ _ _ _ _ c.in-Acl.is (λ fs. refl) (λ fs owns. c.set_row.ensures c.args.process fs)

pub returns-in-Length : goal.returns-in-Length
returns-in-Length g c = gone _ _ _ _ _ c.in-Length.is (λ fs. refl) (λ fs owns. c.set_length.ensures c.args.process fs)

pub returns-in-Delete : goal.returns-in-Delete
returns-in-Delete g c = gone _ _ _ _ _ c.in-Delete.is (λ fs. refl) (λ fs owns. c.delete.ensures c.args.process fs owns)

pub returns-in-Move : goal.returns-in-Move
returns-in-Move g c = gone _ _ _ _ _ c.in-Move.is (λ fs. refl) (λ fs owns. c.move_quota.ensures c.args.process fs)

pub returns-in-Status : goal.returns-in-Status
returns-in-Status g c = gone _ _ _ _ _ c.in-Status.is (λ fs. refl) (λ fs owns. c.status.ensures c.args.process fs)

pub returns-in-Truncate : goal.returns-in-Truncate
returns-in-Truncate g c = rw c.in-Truncate.is (λ frames owns. c.truncate.ensures c.args.process frames owns)
