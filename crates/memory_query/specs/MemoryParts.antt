-- What memory holds of compartments and caches, whatever it holds: versions, rows, and which number is out of bounds.
use Rattle.std.specs.Prelude.{ℕ, ◌+◌, ◌*◌, ◌^◌, min, if◌then◌else◌, List, [], ◌∷◌, ◌++◌, map, take, drop, Some, None, Option, nat_le, nat_lt, slice_index}
use Rattle.policy.specs.declared.place.Place.{Place}
use Rattle.policy.specs.declared.Policy.{Policy}
use Rattle.policy.specs.Access.{place_at}

-- the version at a place
abbrev pub version_in : List ℕ → Option Place → ℕ
version_in memory None = 0
version_in memory (Some place) = slice_index memory place.start

-- the version of a compartment
abbrev pub version_at : Policy → List ℕ → ℕ → ℕ
version_at p memory c = version_in memory (place_at p c)

-- as many numbers as the rows have, and never more than there is room for
abbrev pub part_in : List ℕ → Option Place → List ℕ
part_in memory None = []
part_in memory (Some place) =
    take (2 * min (slice_index memory (place.start + 1)) place.capacity) (drop (place.start + 2) memory)

-- the rows of a compartment
abbrev pub part_at : Policy → List ℕ → ℕ → List ℕ
part_at p memory c = part_in memory (place_at p c)

-- a version is below 2^40, and there are no more rows than the capacity
abbrev pub fault_in : List ℕ → Option Place → Option ℕ
fault_in memory None = None
fault_in memory (Some place) =
    if nat_le (2 ^ 40) (slice_index memory place.start) then Some place.start
    else if nat_lt place.capacity (slice_index memory (place.start + 1)) then Some (place.start + 1) else None

-- the lowest place in a compartment that is out of bounds
abbrev pub fault_at : Policy → List ℕ → ℕ → Option ℕ
fault_at p memory c = fault_in memory (place_at p c)

abbrev pub lower : Option ℕ → Option ℕ → Option ℕ
lower None b = b
lower (Some a) None = Some a
lower (Some a) (Some b) = Some (min a b)

-- the lowest place in some compartments that is out of bounds
abbrev pub lowest_fault : Policy → List ℕ → List ℕ → Option ℕ
lowest_fault p memory [] = None
lowest_fault p memory (c ∷ cs) = lower (fault_at p memory c) (lowest_fault p memory cs)

-- the versions of some compartments
abbrev pub versions_in : Policy → List ℕ → List ℕ → List ℕ
versions_in p memory cs = map (version_at p memory) cs

-- the rows of some compartments
abbrev pub parts_in : Policy → List ℕ → List ℕ → List (List ℕ)
parts_in p memory cs = map (part_at p memory) cs

-- a user's cache
abbrev pub cache_part : ℕ → List ℕ → List ℕ
cache_part at memory = take 192 (drop at memory)

-- memory with another cache there
abbrev pub with_cache : ℕ → List ℕ → List ℕ → List ℕ
with_cache at cache memory = take at memory ++ (cache ++ drop 192 (drop at memory))
