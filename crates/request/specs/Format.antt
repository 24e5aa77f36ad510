-- The format of requests: the numbers that a request is written as, and the bound of every place.
use Rattle.std.specs.Prelude.{◌≡◌, ℕ, ◌<◌, Bool, true, false, not, ◌&&◌, List, [], ◌∷◌, ◌++◌, length, Ok, Err, map, nat_lt, slice_index}
use Rattle.query.specs.declared.Query.{Query}
use Rattle.query.specs.declared.Query.TheVariants.{Rows, Total, Shared}
use Rattle.request.specs.declared.Request.{Request}
use Rattle.request.specs.declared.Request.TheVariants as request
use Rattle.request.specs.declared.decoding.InvalidNumber.{InvalidNumber}
use Rattle.request.specs.declared.kinds.Kind.{Kind}
use Rattle.request.specs.declared.kinds.Kind.TheVariants as kind
use Rattle.request.specs.declared.kinds.QueryKind.{QueryKind}
use Rattle.request.specs.declared.kinds.QueryKind.TheVariants as query
use Rattle.request.specs.Fields.{bound, fields, fields_of}
use Rattle.request.specs.Kinds.{kind_number, query_number, kind_in}
use Rattle.request.specs.Decoded.{decode}

-- the kind of a query, and of a request
abbrev pub kind_of_query : Query → QueryKind
kind_of_query (Rows range) = query.Rows
kind_of_query (Total range) = query.Total
kind_of_query (Shared a b range) = query.Shared

abbrev pub kind_of : Request → Kind
kind_of (request.Write user row) = kind.Write
kind_of (request.Delete user key) = kind.Delete
kind_of (request.Copy user compartment range) = kind.Copy
kind_of (request.Query user query) = kind.Query (kind_of_query query)

-- what a query's numbers say behind its kind
abbrev pub query_numbers : Query → List ℕ
query_numbers (Rows range) = range.from ∷ range.to ∷ []
query_numbers (Total range) = range.from ∷ range.to ∷ []
query_numbers (Shared a b range) = a ∷ b ∷ range.from ∷ range.to ∷ []

-- the numbers that a request is written as: kind, user, and what is asked
abbrev pub numbers_of : Request → List ℕ
numbers_of (request.Write user row) = kind_number kind.Write ∷ user ∷ row.key ∷ row.amount ∷ []
numbers_of (request.Delete user key) = kind_number kind.Delete ∷ user ∷ key ∷ []
numbers_of (request.Copy user compartment range) =
    kind_number kind.Copy ∷ user ∷ compartment ∷ range.from ∷ range.to ∷ []
numbers_of (request.Query user query) =
    kind_number (kind.Query (kind_of_query query)) ∷ user ∷ query_number (kind_of_query query) ∷ query_numbers query

-- the bounds of the places of a request that begins like this
abbrev pub bounds : List ℕ → List ℕ
bounds xs = map bound (fields_of (kind_in xs))

-- a place of the request is at fault if its number is missing or not below the bound
abbrev pub invalid_at : List ℕ → ℕ → Bool
invalid_at xs place =
    nat_lt place (length (bounds xs))
    && not (nat_lt place (length xs) && nat_lt (slice_index xs place) (slice_index (bounds xs) place))

-- each number is below its bound
abbrev pub AllBelow : List ℕ → List ℕ → Type 0
AllBelow xs [] = Unit {0}
AllBelow [] (b ∷ bs) = ⊥
AllBelow (x ∷ xs) (b ∷ bs) = (x < b) × AllBelow xs bs

-- all numbers of a request are below the bounds of its fields
abbrev pub WithinBounds : Request → Type 0
WithinBounds q = AllBelow (numbers_of q) (map bound (fields (kind_of q)))

-- a request that is written is read again, whatever follows it
abbrev pub RoundTrip : Type 0
RoundTrip = (q : Request) (rest : List ℕ) → WithinBounds q → decode (numbers_of q ++ rest) ≡ Ok q

-- numbers begin with a request
abbrev pub BeginsWith : List ℕ → Request → Type 0
BeginsWith xs q = WithinBounds q × ((rest : List ℕ) × (xs ≡ numbers_of q ++ rest))

-- what is read is what stands there
abbrev pub ReadsWhatStands : Type 0
ReadsWhatStands = (xs : List ℕ) (q : Request) → decode xs ≡ Ok q → BeginsWith xs q

-- no place before this one is at fault
abbrev pub Clear : List ℕ → ℕ → Type 0
Clear xs place = (i : ℕ) → i < place → invalid_at xs i ≡ false

-- what is refused is refused at the lowest place at fault
abbrev pub LowestFault : Type 0
LowestFault =
    (xs : List ℕ) (invalid : InvalidNumber) → decode xs ≡ Err invalid →
    (invalid_at xs invalid.place ≡ true) × Clear xs invalid.place

-- what is read has no place at fault: so numbers are read just where none is
abbrev pub ReadWithoutFault : Type 0
ReadWithoutFault = (xs : List ℕ) (q : Request) → decode xs ≡ Ok q → (place : ℕ) → invalid_at xs place ≡ false
