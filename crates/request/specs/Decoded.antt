-- The request that numbers stand for, or the lowest place at fault.
use Rattle.std.specs.Prelude.{ℕ, ◌+◌, Bool, if◌then◌else◌, ◌&&◌, List, [], ◌∷◌, length, Some, None, Ok, Err, Option, Result, nat_lt, slice_index}
use Rattle.rows.specs.declared.KeyRange.{KeyRange}
use Rattle.query.specs.declared.Query.{Query}
use Rattle.query.specs.declared.Query.TheVariants.{Rows, Total, Shared}
use Rattle.request.specs.declared.Request.{Request}
use Rattle.request.specs.declared.Request.TheVariants as request
use Rattle.request.specs.declared.decoding.InvalidNumber.{InvalidNumber}
use Rattle.request.specs.declared.kinds.Kind.{Kind}
use Rattle.request.specs.declared.kinds.Kind.TheVariants as kind
use Rattle.request.specs.declared.kinds.QueryKind.{QueryKind}
use Rattle.request.specs.declared.kinds.QueryKind.TheVariants as query
use Rattle.request.specs.declared.fields.Field.{Field}
use Rattle.request.specs.Fields.{bound, fields, fields_of}
use Rattle.request.specs.Kinds.{kind_in}

-- a value is handed on, an error leaves
abbrev pub and_then : {A B E : Type 0} → Result A E → (A → Result B E) → Result B E
and_then (Ok a) f = f a
and_then (Err e) f = Err e

-- the number at the place is there and below the field's bound
abbrev pub fits : Field → List ℕ → ℕ → Bool
fits field xs place = nat_lt place (length xs) && nat_lt (slice_index xs place) (bound field)

-- the first place from this one on where the number doesn't fit its field; behind the last field if all do
abbrev pub first_invalid : ℕ → List Field → List ℕ → ℕ
first_invalid place [] xs = place
first_invalid place (f ∷ fs) xs = if fits f xs place then first_invalid (place + 1) fs xs else place

-- the number at the place and the next one
abbrev pub range_in : List ℕ → ℕ → KeyRange
range_in xs place = record { from = slice_index xs place; to = slice_index xs (place + 1) }

abbrev pub query_in : QueryKind → List ℕ → Query
query_in query.Rows xs = Rows (range_in xs 3)
query_in query.Total xs = Total (range_in xs 3)
query_in query.Shared xs = Shared (slice_index xs 3) (slice_index xs 4) (range_in xs 5)

-- the request of a kind that numbers stand for, all of which fit
abbrev pub request_in : Kind → List ℕ → Request
request_in kind.Write xs =
    request.Write (slice_index xs 1) (record { key = slice_index xs 2; amount = slice_index xs 3 })
request_in kind.Delete xs = request.Delete (slice_index xs 1) (slice_index xs 2)
request_in kind.Copy xs = request.Copy (slice_index xs 1) (slice_index xs 2) (range_in xs 3)
request_in (kind.Query query) xs = request.Query (slice_index xs 1) (query_in query xs)

abbrev pub invalid_in : List Field → List ℕ → InvalidNumber
invalid_in fs xs = record { place = first_invalid 0 fs xs }

abbrev pub decode_as : Option Kind → List ℕ → Result Request InvalidNumber
decode_as None xs = Err (invalid_in (fields_of None) xs)
decode_as (Some kind) xs =
    if nat_lt (first_invalid 0 (fields kind) xs) (length (fields kind)) then Err (invalid_in (fields kind) xs)
    else Ok (request_in kind xs)

abbrev pub decode : List ℕ → Result Request InvalidNumber
decode xs = decode_as (kind_in xs) xs
