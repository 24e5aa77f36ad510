-- The first of the whole places that keeps something.
use Rattle.std.proofs.Common.{◌/◌, length, ap, ◌∙◌, rules}
use Rattle.std.specs.Slice.Iter.{iter_rest}
use Rattle.cache.specs.CachePlaces.{read_place}
use Rattle.cache.proofs.FirstFound.{first_found, found_is}
use Rattle.cache.proofs.Numbers.{found_in_chunks}
use Rattle.cache.proofs.newest.Goals as goal

pub returns : goal.returns
returns c =
    let key = c.args.key.now in
    let xs = c.args.places.now in
    found_is _ _ (read_place key) (λ x o q k. search rules) _ _ iter_rest _ c.iter.ensures.rest c.iter.ensures.runs c.find_map.ensures.runs
    ∙ ap (first_found (read_place key)) c.as_chunks.ensures.front
    ∙ found_in_chunks (length xs / 24) key xs
