-- What must be in no frame and not connected where a command takes effect: what the command takes away from its users
-- first (Bensoussan, Clingen and Daley 1972).
use Rattle.std.specs.Prelude.{◌≡◌, ◌≢◌, ℕ, false, Some, Result, Ok, Err}
use Rattle.script.specs.declared.commands.Command.{Command}
use Rattle.script.specs.declared.commands.Command.TheVariants as command
use Rattle.book.specs.declared.replies.Reply.{Reply}
use Rattle.tree_model.specs.Tree.{Node}
use Rattle.flat_model.specs.Branches.{segment_at, branch_at}
use Rattle.flat_model.specs.Pages.{without_words}
use Rattle.flat_model.specs.Sizes.{is_lost}
use Rattle.flat_model.specs.Store.{Store}
use Rattle.custody_model.specs.declared.DescriptorUse.TheVariants as descriptor
use Rattle.custody_model.specs.Custody.{Custody, page_of, leads_to, uid_of_page}

-- no page of a segment is in a frame or being read into one
abbrev pub HasNoPage : Custody → ℕ → Type 0
HasNoPage c u = (f : ℕ) → uid_of_page (page_of (c.frame f)) ≢ Some u

-- no descriptor leads to a segment
abbrev pub HasNoDescriptor : Custody → ℕ → Type 0
HasNoDescriptor c u = (k n : ℕ) → leads_to (c.descriptor k n) ≢ Some u

-- a page is in no frame, and being read into none
abbrev pub IsInNoFrame : Custody → ℕ → ℕ → Type 0
IsInNoFrame c u p = (f : ℕ) → page_of (c.frame f) ≢ Some (u, p)

-- a fact of the node that a path leads to
abbrev pub OfNode : (Node → Type 0) → Result Node Reply → Type 0
OfNode P (Ok n) = P n
OfNode P (Err r) = Unit {0}

-- a node that is deleted is in no table
pub record IsOutOfUse (c : Custody) (u : ℕ) : Type 0 where
  pub pages : HasNoPage c u
  pub descriptors : HasNoDescriptor c u
  pub inactive : c.active u ≡ false

-- the pages that a `truncate` takes from a segment are in no frame
abbrev pub LosesNoPage : Store → Custody → ℕ → ℕ → Type 0
LosesNoPage s c u from = (f q : ℕ) → page_of (c.frame f) ≡ Some (u, q)
    → is_lost (without_words s.words u from) u from q ≡ false

-- what each command needs out of use: `acl` the segment's descriptors, `terminate` that descriptor, `end` all
-- descriptors of the process, `delete` the node, `length` the segment's page table, `truncate` the pages that are lost
abbrev pub MayTakeEffect : Store → Custody → ℕ → Command → Type 0
MayTakeEffect s c k (command.Acl path row m) = OfNode (λ n. HasNoDescriptor c n.uid) (segment_at s.nodes path)
MayTakeEffect s c k (command.Terminate number) = c.descriptor k number ≡ descriptor.Free
MayTakeEffect s c k command.End = (n : ℕ) → c.descriptor k n ≡ descriptor.Free
MayTakeEffect s c k (command.Delete path) = OfNode (λ n. IsOutOfUse c n.uid) (branch_at s.nodes path)
MayTakeEffect s c k (command.Length path pages) = OfNode (λ n. c.active n.uid ≡ false) (segment_at s.nodes path)
MayTakeEffect s c k (command.Truncate path words) = OfNode (λ n. LosesNoPage s c n.uid words) (segment_at s.nodes path)
MayTakeEffect s c k _ = Unit {0}
