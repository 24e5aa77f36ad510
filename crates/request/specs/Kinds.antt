-- The kinds of requests and of queries, by the numbers that say which.
use Rattle.std.specs.Prelude.{ℕ, if◌then◌else◌, List, [], ◌∷◌, Some, None, Option, find, option_and_then, slice_get, ◌==◌}
use Rattle.std.specs.Option.{option_map}
use Rattle.request.specs.declared.kinds.Kind.{Kind}
use Rattle.request.specs.declared.kinds.Kind.TheVariants.{Write, Delete, Copy, Query}
use Rattle.request.specs.declared.kinds.QueryKind.{QueryKind}
use Rattle.request.specs.declared.kinds.QueryKind.TheVariants.{Rows, Total, Shared}

abbrev pub kind_number : Kind → ℕ
kind_number Write = 0
kind_number Delete = 1
kind_number Copy = 2
kind_number (Query query) = 3

abbrev pub query_number : QueryKind → ℕ
query_number Rows = 0
query_number Total = 1
query_number Shared = 2

-- the kind of query that has the number, if there is one
abbrev pub query_numbered : ℕ → Option QueryKind
query_numbered n = find (λ query. n == query_number query) (Rows ∷ Total ∷ Shared ∷ [])

-- the kind of request, by the number at place 0 and for a query by the one at place 2, if they are there
abbrev pub kind_numbered : Option ℕ → Option ℕ → Option Kind
kind_numbered None third = None
kind_numbered (Some n) third =
    if n == 0 then Some Write
    else if n == 1 then Some Delete
    else if n == 2 then Some Copy
    else if n == 3 then option_map (λ query. Query query) (option_and_then query_numbered third)
    else None

-- the kind of the request that begins with these numbers
abbrev pub kind_in : List ℕ → Option Kind
kind_in xs = kind_numbered (slice_get xs 0) (slice_get xs 2)
