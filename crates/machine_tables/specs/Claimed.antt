-- What a tree command must have out of use.
use Rattle.std.specs.Prelude.{◌≡◌, ◌<◌, ℕ, Bool, true, false, ◌||◌, if◌then◌else◌, is_some, List, [], ◌∷◌, Option, Some, None}
use Rattle.script.specs.declared.commands.Command.{Command}
use Rattle.script.specs.declared.commands.Command.TheVariants as command
use Rattle.assoc_mem.specs.declared.What.{What}
use Rattle.assoc_mem.specs.declared.What.TheVariants as what
use Rattle.active_segs.specs.Active.{IsActive}
use Rattle.seg_control.specs.Control.{Links}
use Rattle.machine_model.specs.declared.Aim.TheVariants.{Committing}
use Rattle.machine_model.specs.Actions.{descriptors_taken, first_taken, frames_taken, what_taken}
use Rattle.machine_model.specs.Jobs.{took}
use Rattle.machine_model.specs.Reads.{connected_of, descriptor_of, is_connected, trailers_in}
use Rattle.machine_model.specs.Refusal.{uid_of_command}
use Rattle.machine_model.specs.State.{State, Storage}
use Rattle.machine_tables.specs.declared.claiming.Claim.{Claim}
use Rattle.machine_tables.specs.declared.claiming.Cuts.{Cuts}
use Rattle.machine_tables.specs.declared.claiming.Cuts.TheVariants as cuts

-- the descriptor of a number of process k, if it leads to a segment
abbrev pub number_in : Links → ℕ → ℕ → List (ℕ × ℕ)
number_in links k n = if is_connected (descriptor_of links k n) then (k, n) ∷ [] else []

-- the descriptors of process k, and of a segment, that are cut
abbrev pub cuts_in : Storage → ℕ → ℕ → Cuts → List (ℕ × ℕ)
cuts_in st k uid cuts.Nothing = []
cuts_in st k uid cuts.Trailers = trailers_in st uid
cuts_in st k uid (cuts.Number n) = number_in st.links k n
cuts_in st k uid cuts.All = connected_of st.links k

abbrev pub are_trailers : Cuts → Bool
are_trailers cuts.Trailers = true
are_trailers _ = false

-- a number is one of 256
abbrev pub IsNumber : Cuts → Type 0
IsNumber (cuts.Number n) = n < 256
IsNumber _ = Unit {0}

-- whether pages of a segment are taken, or descriptors that lead to it are cut
abbrev pub needs_segment : Claim → Bool
needs_segment x = is_some x.low || are_trailers x.cuts

-- what the next command of process k must have out of use: frames, descriptors, and what is signalled for them
abbrev pub frames_for : Storage → ℕ → Option Command → List ℕ
frames_for st k None = []
frames_for st k (Some x) = frames_taken st (uid_of_command st k x) (first_taken x)

abbrev pub pairs_for : Storage → ℕ → Option Command → List (ℕ × ℕ)
pairs_for st k None = []
pairs_for st k (Some x) = descriptors_taken st k (uid_of_command st k x) x

abbrev pub what_for : Storage → ℕ → Option Command → What
what_for st k None = what.All
what_for st k (Some x) = what_taken (uid_of_command st k x) x

-- the machine once the owner has taken that
abbrev pub took_for : State → ℕ → ℕ → Option Command → State
took_for s c k x = took s c Committing (what_for s.store k x) (frames_for s.store k x) (pairs_for s.store k x)

abbrev pub is_acl : Command → Bool
is_acl (command.Acl path row m) = true
is_acl _ = false

-- whether a tree command takes pages of its segment, or cuts descriptors that lead to it
abbrev pub of_segment : Command → Bool
of_segment x = is_some (first_taken x) || is_acl x

-- the segment of such a command is active
abbrev pub HasItsSegment : Storage → ℕ → Option Command → Type 0
HasItsSegment st k None = Unit {0}
HasItsSegment st k (Some x) = of_segment x ≡ true → IsActive st.ast.entries (uid_of_command st k x)
