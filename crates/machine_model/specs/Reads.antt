-- What is read of a machine: of its processors and processes, its frames, its active segments and its descriptors.
use Rattle.std.specs.Prelude.{ℕ, ◌+◌, Bool, true, false, not, ◌&&◌, ◌==◌, if◌then◌else◌, is_some, is_none, map, filter, position, slice_index_or, List, [], ◌∷◌, ◌++◌, drop, Option, Some, None}
use Rattle.std.specs.List.{find, list_any, range_with_len}
use Rattle.mnames.specs.declared.modes.Mode.{Mode}
use Rattle.script.specs.Plans.{command_at}
use Rattle.script.specs.declared.commands.Command.{Command}
use Rattle.tree_model.specs.Access.{access_of}
use Rattle.tree_model.specs.Tree.{Node}
use Rattle.accounts.specs.Maps.{rows_in}
use Rattle.flat_model.specs.Legal.{store_after}
use Rattle.flat_model.specs.Store.{Store}
use Rattle.core_map.specs.CoreMap.{Core, started_page}
use Rattle.page_table.specs.declared.Ptw.{Ptw}
use Rattle.page_table.specs.declared.Ptw.TheVariants as ptw
use Rattle.page_control.specs.declared.Home.{Home}
use Rattle.active_segs.specs.Active.{ActiveSegs, entry_at}
use Rattle.active_segs.specs.Pool.{first_of, size_of}
use Rattle.active_segs.specs.Victim.{places_from}
use Rattle.descriptor_seg.specs.declared.Sdw.{Sdw}
use Rattle.descriptor_seg.specs.declared.Sdw.TheVariants as sdw
use Rattle.descriptor_seg.specs.Descriptors.{sdw_at}
use Rattle.trailers.specs.Trailer.{trailers_of}
use Rattle.seg_control.specs.Control.{Links, is_for, place_of, sdws_at, table_of}
use Rattle.storage_ops.specs.Shown.{home_of, pages_in, who_at}
use Rattle.processor.specs.declared.Cpu.{Cpu}
use Rattle.processor.specs.Moves.{offline}
use Rattle.machine_model.specs.declared.Processor.{Processor}
use Rattle.machine_model.specs.declared.Run.{Run}
use Rattle.machine_model.specs.declared.CutDescriptor.{CutDescriptor}
use Rattle.machine_model.specs.State.{State, Storage, Owner}

-- a number, and 0 where there is none
abbrev pub or_zero : Option ℕ → ℕ
or_zero None = 0
or_zero (Some n) = n

-- ---- processors and processes

-- past the last, a processor that takes no part and a process that has ended
abbrev pub no_processor : Processor
no_processor = record { cpu = offline; count = 0; tried = false }

abbrev pub processor_at : List Processor → ℕ → Processor
processor_at processors c = slice_index_or processors c no_processor

abbrev pub cpu_at : List Processor → ℕ → Cpu
cpu_at processors c = (processor_at processors c).cpu

abbrev pub no_run : Run
no_run = record { place = 0; tries = 0; ended = true }

abbrev pub run_at : List Run → ℕ → Run
run_at runs k = slice_index_or runs k no_run

-- the process of a processor, and 0 where it has none
abbrev pub process_at : State → ℕ → ℕ
process_at s c = or_zero (cpu_at s.processors c).process

-- the command that a process comes to next
abbrev pub next_command : State → ℕ → Option Command
next_command s k = command_at s.plan k (run_at s.runs k).place

-- whether a processor is to drop something
abbrev pub is_due : Processor → Bool
is_due p = p.cpu.online && is_some p.cpu.due

-- the flat store after the book
abbrev pub flat_of : State → Store
flat_of s = store_after s.plan s.entries

-- ---- what the owner has taken

abbrev pub frames_of_owner : Option Owner → List ℕ
frames_of_owner None = []
frames_of_owner (Some o) = o.frames

abbrev pub cut_of_owner : Option Owner → List CutDescriptor
cut_of_owner None = []
cut_of_owner (Some o) = o.cut

-- ---- active segments

-- whether a segment is active
abbrev pub is_active : ActiveSegs → ℕ → Bool
is_active ast uid = list_any (is_for uid) ast.entries

-- the first segment of a chain that isn't active
abbrev pub first_inactive : ActiveSegs → List ℕ → Option ℕ
first_inactive ast chain = find (λ uid. not (is_active ast uid)) chain

-- the places of a pool, and the least free one of them
abbrev pub places_in : ActiveSegs → ℕ → List ℕ
places_in ast pool = places_from (first_of ast.sizes pool) (first_of ast.sizes pool + size_of ast.sizes pool)

abbrev pub free_place : ActiveSegs → ℕ → Option ℕ
free_place ast pool = find (λ place. is_none (entry_at ast.entries place)) (places_in ast pool)

-- ---- the tree

-- the directory that a node lies in
abbrev pub superior_of_node : Option Node → Option ℕ
superior_of_node None = None
superior_of_node (Some n) = n.superior

-- the home of a node, and its length in pages
abbrev pub home_in : Storage → ℕ → Home
home_in st uid = home_of st.accounts uid

abbrev pub length_in : Storage → ℕ → ℕ
length_in st uid = pages_in st.accounts.nodes uid

-- what the access control list of a segment allows a process
abbrev pub mode_in : Storage → ℕ → ℕ → Mode
mode_in st k uid = access_of (who_at st.whos k) (rows_in st.accounts.nodes uid)

-- ---- frames

abbrev pub is_page_of : ℕ → (ℕ → Bool) → Option (ℕ × ℕ) → Bool
is_page_of uid test None = false
is_page_of uid test (Some page) = page.0 == uid && test page.1

-- the least frame into which a page of a segment is being read whose number passes a test
abbrev pub frame_reading : Core → ℕ → (ℕ → Bool) → Option ℕ
frame_reading core uid test = position (λ frame. is_page_of uid test (started_page frame)) core.frames

-- the frame of a page that is here
abbrev pub here_in : Ptw → List ℕ
here_in ptw.Null = []
here_in (ptw.Out r) = []
here_in (ptw.Here f) = f ∷ []
here_in (ptw.Leaving f) = []

abbrev pub frames_in : List Ptw → List ℕ
frames_in [] = []
frames_in (w ∷ ws) = here_in w ++ frames_in ws

-- the frames of the pages of an active segment that are here, from a number on, in order of page
abbrev pub frames_from : ActiveSegs → ℕ → ℕ → List ℕ
frames_from ast uid low = frames_in (drop low (table_of ast uid))

-- ---- descriptors

-- the descriptor of a number of a process
abbrev pub descriptor_of : Links → ℕ → ℕ → Sdw
descriptor_of links k n = sdw_at (sdws_at links.descriptors k) n

abbrev pub is_connected : Sdw → Bool
is_connected sdw.Fault = false
is_connected (sdw.Present aste mode pages) = true

-- the descriptors of a process that are connected, in order of number
abbrev pub connected_of : Links → ℕ → List (ℕ × ℕ)
connected_of links k = map (λ n. (k, n)) (filter (λ n. is_connected (descriptor_of links k n)) (range_with_len 0 256))

-- the descriptors that lead to a segment, in order of trailer
abbrev pub trailers_in : Storage → ℕ → List (ℕ × ℕ)
trailers_in st uid = if is_active st.ast uid then trailers_of st.links.trailers (place_of st.ast.entries uid) else []
