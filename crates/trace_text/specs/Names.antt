-- How names and the kinds of requests are spelled.
use Rattle.std.specs.Prelude.{ℕ, List, [], ◌∷◌, codes, Option, find}
use Rattle.std.specs.Str.{bytes_eq}
use Rattle.request.specs.declared.kinds.Kind.{Kind}
use Rattle.request.specs.declared.kinds.Kind.TheVariants.{Write, Delete, Copy, Query}
use Rattle.request.specs.declared.kinds.QueryKind.TheVariants.{Rows, Total, Shared}
use Rattle.trace_text.specs.declared.names.Name.{Name}
use Rattle.trace_text.specs.declared.names.Name.TheVariants.{Users, Compartments, User, Sees, Writes, Capacity}

abbrev pub spelling : Name → List ℕ
spelling Users = codes "users"
spelling Compartments = codes "compartments"
spelling User = codes "user"
spelling Sees = codes "sees"
spelling Writes = codes "writes"
spelling Capacity = codes "capacity"

-- the word by which a request of this kind is asked for
abbrev pub kind_spelling : Kind → List ℕ
kind_spelling Write = codes "write"
kind_spelling Delete = codes "delete"
kind_spelling Copy = codes "copy"
kind_spelling (Query Rows) = codes "rows"
kind_spelling (Query Total) = codes "total"
kind_spelling (Query Shared) = codes "shared"

abbrev pub kinds : List Kind
kinds = Write ∷ Delete ∷ Copy ∷ Query Rows ∷ Query Total ∷ Query Shared ∷ []

-- the kind of request that the word asks for
abbrev pub kind_by_word : List ℕ → Option Kind
kind_by_word word = find (λ kind. bytes_eq word (kind_spelling kind)) kinds
