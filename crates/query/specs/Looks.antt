-- Which compartments a query looks at, and how long the answer row must be.
use Rattle.std.specs.Prelude.{◌≡◌, ℕ, ◌+◌, ◌*◌, if◌then◌else◌, ◌&&◌, List, [], ◌∷◌, Some, None, Option, slice_index, sum_by}
use Rattle.policy.specs.Rules.{has}
use Rattle.policy.specs.Views.{view_of}
use Rattle.query.specs.declared.scope.Scope.{Scope}
use Rattle.query.specs.declared.scope.Scope.TheVariants.{View, Pair, Unseen}
use Rattle.query.specs.declared.Query.{Query}
use Rattle.query.specs.declared.Query.TheVariants.{Rows, Total, Shared}

-- the rows of these are lent, in this order, and of no others: all that is seen, or two that are compared and both seen
abbrev pub compartments_for : List ℕ → Query → List ℕ
compartments_for view (Rows range) = view
compartments_for view (Total range) = view
compartments_for view (Shared a b range) = if has view a && has view b then a ∷ b ∷ [] else []

-- as the code has them
abbrev pub scope_compartments : Scope → List ℕ
scope_compartments (View contract) = view_of contract.now
scope_compartments (Pair pair) = pair
scope_compartments Unseen = []

-- two compartments are compared for a user who sees both
abbrev pub pair_scope : List ℕ → ℕ → ℕ → Scope
pair_scope view a b = if has view a && has view b then Pair (a ∷ b ∷ []) else Unseen

-- the capacities of some compartments, added up
abbrev pub capacity_sum : (ℕ → ℕ) → List ℕ → ℕ
capacity_sum capacity view = sum_by capacity view

-- a header of 32 numbers, and two for each row that the answer may have
abbrev pub row_length : ℕ → ℕ
row_length rows = 32 + 2 * rows

-- how long the answer row must be; none where not both compartments are seen: it is not looked at then
abbrev pub row_length_for : (ℕ → ℕ) → List ℕ → Query → Option ℕ
row_length_for capacity view (Rows range) = Some (row_length (capacity_sum capacity view))
row_length_for capacity view (Total range) = Some (row_length (capacity_sum capacity view))
row_length_for capacity view (Shared a b range) =
    if has view a && has view b then Some (row_length (capacity a)) else None

-- as the code works it out
abbrev pub scope_row_length : (ℕ → ℕ) → Scope → Option ℕ
scope_row_length capacity (View contract) = Some (row_length (capacity_sum capacity (view_of contract.now)))
scope_row_length capacity (Pair pair) = Some (row_length (capacity (slice_index pair 0)))
scope_row_length capacity Unseen = None

-- the two agree, whatever the capacities
abbrev pub HasRowLength : Scope → List ℕ → Query → Type 0
HasRowLength scope view query =
    (capacity : ℕ → ℕ) → scope_row_length capacity scope ≡ row_length_for capacity view query
