-- What custody sees of a machine once its lists are changed in place.
use Rattle.machine_model.proofs.Prelude.{◌≡◌, ◌<◌, ℕ, List, [], ◌∷◌, ◌++◌, length, set, Entry, Frame, Core, bound_page, started_page, reads_of, bindings, binding_at, read_at, at_put, reseated, seen, no_processor, Processor, State, Frame as frame, core_map_with_frame as with_frame}
use Rattle.machine_model.proofs.ListLaws.{put_list, put_mapped}

-- one processor is otherwise, with the ready list and the book
pub reseated_seen : (s : State) (c : ℕ) (p : Processor) (ready : List ℕ) (e : Entry) → c < length s.processors
    → seen (record s { processors = set s.processors c p; ready = ready; entries = s.entries ++ e ∷ [] })
    ≡ reseated (seen s) c p ready e
reseated_seen s c p ready e within = λ i. record (seen s) {
  processors = λ d. put_list s.processors c p no_processor d within i;
  ready = ready;
  entries = s.entries ++ e ∷ [];
}

-- the pages that frames are bound to, and those that are being read, once one frame is otherwise
pub bound_put : (core : Core) (f : ℕ) (x : Frame) → f < length core.frames → (g : ℕ)
    → binding_at (bindings (with_frame core f x)) g ≡ at_put (λ h. binding_at (bindings core) h) f (bound_page x) g
bound_put core f x within g = put_mapped bound_page core.frames f x frame.Free g within

pub reads_put : (core : Core) (f : ℕ) (x : Frame) → f < length core.frames → (g : ℕ)
    → read_at (reads_of (with_frame core f x)) g ≡ at_put (λ h. read_at (reads_of core) h) f (started_page x) g
reads_put core f x within g = put_mapped started_page core.frames f x frame.Free g within
