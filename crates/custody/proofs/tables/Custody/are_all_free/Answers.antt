use Rattle.custody.proofs.Prelude.{◌≡◌, ℕ, List, sym, subst, Decides, DescriptorUse, descriptor_at}
use Rattle.custody_model.specs.declared.DescriptorUse.TheVariants as descriptor
use Rattle.custody.proofs.tables.Custody.are_all_free.Goals as goal

pub returns-in-Some : goal.returns-in-Some
returns-in-Some c = subst (λ (xs : List DescriptorUse). Decides c.are_free.result
    ((n : ℕ) → descriptor_at xs n ≡ descriptor.Free)) (sym c.in-Some.ensures.some) c.are_free.ensures
