-- A word that is read and then written through a frame.
use Rattle.machine_tables.proofs.Prelude.{◌≡◌, ◌<◌, ◌%◌, ℕ, true, false, length, get_or-set_same, set-set, Frame, Free, after_reference, is_bound, Plain, frame_in, referred, word_put, Reference, alters, new_word, old_word, pages_after, Parts, with_pages_of, within_from, arith}

-- a reference that writes leaves the marks as it does where one that reads came before
twice : (x : Frame) → after_reference (after_reference x false) true ≡ after_reference x true
twice x = grind arith

pub bound_within : (s : Plain) (f : ℕ) → is_bound (frame_in s f) ≡ true → f < length s.core.frames
bound_within s f e = within_from s.core.frames f Free (λ free. cc)

put_after : (s : Plain) (f at w : ℕ) → is_bound (frame_in s f) ≡ true → word_put (referred s f false) f at w
    ≡ word_put s f at w
put_after s f at w e = grind (arith, bound_within, get_or-set_same, twice, set-set)

-- a reference that writes, once its word was read
pub reached : {D : Type 0} (old mid new : Parts D) (f w : ℕ) (r : Reference)
    → is_bound (frame_in old.state.store.pages f) ≡ true
    → mid ≡ with_pages_of old (referred old.state.store.pages f false)
    → new ≡ with_pages_of mid (word_put mid.state.store.pages f (r.offset % 1024) w)
    → alters r.kind ≡ true → w ≡ new_word (old_word old.state.store.pages f r) r.kind
    → new ≡ with_pages_of old (pages_after old.state.store.pages f r)
reached old mid new f w r bound read put writes word = grind (arith, put_after)
