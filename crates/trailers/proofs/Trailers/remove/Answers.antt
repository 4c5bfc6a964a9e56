use Rattle.std.proofs.Common.{◌≡◌, ◌<◌, ℕ, List, [], length, ◌∙◌, sym, subst, IsSome}
use Rattle.std.proofs.lemmas.List.{get_or_default}
use Rattle.trailers.specs.Trailer.{trailers_of, place_in}
use Rattle.trailers.proofs.Places.{there_is_a_place}
use Rattle.trailers.proofs.Trailers.remove.Goals as goal

pub remove-requires : goal.remove-requires
remove-requires c =
    let within : c.args.aste < length c.self.inside.places.items = rw c.self.view_is c.requires.place in
    let here : c.index_mut.result.now ≡ trailers_of c.self.inside.places.items c.args.aste = c.index_mut.ensures.value
    ∙ get_or_default _ _ _ [] within in
    let here' : c.index_mut.result.now ≡ trailers_of c.args.self.now c.args.aste =
    subst (λ (all : List (List (ℕ × ℕ))). c.index_mut.result.now ≡ trailers_of all c.args.aste) c.self.view_is here in
    subst (λ (xs : List (ℕ × ℕ)). IsSome (place_in xs c.args.process c.args.number)) (sym here')
    (there_is_a_place _ _ _ c.requires.there)
