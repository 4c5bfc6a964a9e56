use Rattle.custody.proofs.Prelude.{◌≡◌, true, ap, is_of_frame, is_of_seat, on_ok}
use Rattle.custody.proofs.FollowLaws.{any_of_six}
use Rattle.custody.proofs.tables.Custody.advance.Goals.{In-Online, In-Start}
use Rattle.custody.proofs.tables.Custody.advance.Goals as goal

-- the entries that are of a frame, and those of a processor alone
of_frame : (c : In-Start) → is_of_frame c.args.e ≡ true
of_frame c = any_of_six c.in-Start.is (λ x. ap is_of_frame x.3) (λ x. ap is_of_frame x.3) (λ x. ap is_of_frame x.1)
    (λ x. ap is_of_frame x.1) (λ x. ap is_of_frame x.1) (λ x. ap is_of_frame x.1)

of_seat : (c : In-Online) → is_of_seat c.args.e ≡ true
of_seat c = any_of_six c.in-Online.is (λ x. ap is_of_seat x.1) (λ x. ap is_of_seat x.2) (λ x. ap is_of_seat x.2)
    (λ x. ap is_of_seat x.2) (λ x. ap is_of_seat x.2) (λ x. ap is_of_seat x.2)

pub returns-in-Start-clause-ok : goal.returns-in-Start-clause-ok
returns-in-Start-clause-ok c =
    let of = of_frame (goal.at.returns-in-Start-clause-ok c).In-Start in
    on_ok c.advance_frame.result _ _ (λ f. λ s h. f c.args.script.now s of) c.advance_frame.ensures.ok

pub returns-in-Online-clause-ok : goal.returns-in-Online-clause-ok
returns-in-Online-clause-ok c = λ s h.
    c.advance_seat.ensures c.args.script.now s (of_seat (goal.at.returns-in-Online-clause-ok c).In-Online)
