use Rattle.machine_tables.proofs.Prelude.{◌≡◌, ◌∙◌, ℕ, List, Some, ap, plain, ActiveSegs, IsActive, Control, word_of, IsKept, leaves, Stored}
use Rattle.machine_tables.proofs.TruncatedLaws.{ComesBack, back_is, comes_back}
use Rattle.machine_tables.proofs.committing.bring_back.Goals as goal

-- the page comes back whose frame was found in the tables of the store
found : {D : Type 0} (drive : D → List (List ℕ)) (t : Stored D) (uid p f : ℕ) {ast : ActiveSegs}
    {seen : Control D} → seen ≡ t.segs → ast ≡ seen.ast
    → IsKept (plain drive t.segs.pages) t.segs.ast t.segs.links → IsActive t.segs.ast.entries uid
    → Some f ≡ leaves (word_of ast uid p) → ComesBack t uid p f
found drive t uid p f seen_is ast_is kept active left = comes_back drive t uid p f kept active (cc)

pub back-requires : goal.back-requires
back-requires g c =
    let its = found g.D.Drive.pages c.args.store.now c.args.uid c.args.page c.in_ok-frame.frame
    c.segs.ensures.segs c.ast.ensures.ast c.look.ensures.kept c.requires.active c.in_ok-frame.ensures in
    assumption (ap (word_of c.args.store.now.segs.ast c.args.uid) its.number ∙ its.word)

pub returns-clause-effect : goal.returns-clause-effect
returns-clause-effect g c =
    let its = found g.D.Drive.pages c.args.store.now c.args.uid c.args.page c.in_ok-frame.frame
    c.segs.ensures.segs c.ast.ensures.ast c.look.ensures.kept c.requires.active c.in_ok-frame.ensures in
    c.back.ensures.effect ∙ ap (λ (a : ActiveSegs). record c.args.store.now {
      segs = record c.args.store.now.segs { ast = a };
    }) (back_is c.args.store.now.segs.ast c.args.uid c.args.page _ c.in_ok-frame.frame
    (word_of c.args.store.now.segs.ast c.args.uid c.args.page) its.word its.number)
