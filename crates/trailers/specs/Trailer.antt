-- What a contract sees of the trailers: for each place of the active segment table the list of the descriptors that
-- use its page table, in the order in which they were connected (Bensoussan, Clingen and Daley 1972; the order and
-- the bound of 32 are own).
use Rattle.std.specs.Prelude.{ℕ, ◌==◌, ◌&&◌, Bool, List, [], ◌∷◌, ◌++◌, Option, Some, None, position, slice_index_or, slice_set, remove}

-- the descriptors that use the page table of a place, each as a process and its segment number
abbrev pub trailers_of : List (List (ℕ × ℕ)) → ℕ → List (ℕ × ℕ)
trailers_of all place = slice_index_or all place []

-- whether a trailer leads to the descriptor of this process and number
abbrev pub leads_to : ℕ → ℕ → ℕ × ℕ → Bool
leads_to process number trailer = (trailer.0 == process) && (trailer.1 == number)

-- where in a list the trailer of a descriptor stands
abbrev pub place_in : List (ℕ × ℕ) → ℕ → ℕ → Option ℕ
place_in trailers process number = position (leads_to process number) trailers

-- a list without what stands at a place, if there is one
abbrev pub without_place : List (ℕ × ℕ) → Option ℕ → List (ℕ × ℕ)
without_place trailers None = trailers
without_place trailers (Some i) = remove trailers i

-- a list without the trailer of a descriptor, the rest in the same order
abbrev pub without_trailer : List (ℕ × ℕ) → ℕ → ℕ → List (ℕ × ℕ)
without_trailer trailers process number = without_place trailers (place_in trailers process number)

-- all trailers after a descriptor has been connected to the page table of a place
abbrev pub connected : List (List (ℕ × ℕ)) → ℕ → ℕ → ℕ → List (List (ℕ × ℕ))
connected all place process number = slice_set all place (trailers_of all place ++ (process, number) ∷ [])

-- all trailers after a descriptor has been cut off from the page table of a place
abbrev pub cut_off : List (List (ℕ × ℕ)) → ℕ → ℕ → ℕ → List (List (ℕ × ℕ))
cut_off all place process number = slice_set all place (without_trailer (trailers_of all place) process number)
