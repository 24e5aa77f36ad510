-- What stands at each place of a request: the table from which reading, writing and their bounds follow.
use Rattle.std.specs.Prelude.{ℕ, ◌^◌, List, [], ◌∷◌, Some, None, Option}
use Rattle.request.specs.declared.kinds.Kind.{Kind}
use Rattle.request.specs.declared.kinds.Kind.TheVariants.{Write, Delete, Copy, Query}
use Rattle.request.specs.declared.kinds.QueryKind.TheVariants.{Rows, Total, Shared}
use Rattle.request.specs.declared.fields.Field.{Field}
use Rattle.request.specs.declared.fields.Field.TheVariants as field

-- a field's number is below this
abbrev pub bound : Field → ℕ
bound field.Kind = 4
bound field.User = 32
bound field.QueryKind = 3
bound field.Compartment = 16
bound field.Word = 2 ^ 32

-- how many bytes a field takes in a trace
abbrev pub width : Field → ℕ
width field.Kind = 1
width field.User = 1
width field.QueryKind = 1
width field.Compartment = 4
width field.Word = 4

-- the fields of a request of each kind
abbrev pub fields : Kind → List Field
fields Write = field.Kind ∷ field.User ∷ field.Word ∷ field.Word ∷ []
fields Delete = field.Kind ∷ field.User ∷ field.Word ∷ []
fields Copy = field.Kind ∷ field.User ∷ field.Compartment ∷ field.Word ∷ field.Word ∷ []
fields (Query Rows) = field.Kind ∷ field.User ∷ field.QueryKind ∷ field.Word ∷ field.Word ∷ []
fields (Query Total) = field.Kind ∷ field.User ∷ field.QueryKind ∷ field.Word ∷ field.Word ∷ []
fields (Query Shared) =
    field.Kind ∷ field.User ∷ field.QueryKind ∷ field.Compartment ∷ field.Compartment ∷ field.Word ∷ field.Word ∷ []

-- of a kind that is unknown, those by which one would know it
abbrev pub fields_of : Option Kind → List Field
fields_of None = field.Kind ∷ field.User ∷ field.QueryKind ∷ []
fields_of (Some kind) = fields kind
