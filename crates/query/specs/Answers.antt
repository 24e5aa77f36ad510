-- What a query answers and what answering costs, over a view and the rows of each compartment.
use Rattle.std.specs.Prelude.{ℕ, ◌+◌, Bool, false, if◌then◌else◌, ◌&&◌, List, map, length, ◌==◌, sum_by}
use Rattle.rows.specs.declared.Row.{Row}
use Rattle.rows.specs.declared.KeyRange.{KeyRange}
use Rattle.rows.specs.Rows.{rows_in, also_in, sum}
use Rattle.policy.specs.Rules.{has}
use Rattle.query.specs.declared.Query.{Query}
use Rattle.query.specs.declared.Query.TheVariants.{Rows, Total, Shared}

-- the rows of each compartment in the view; how many rows, and their sum; rows of one compartment; not both are seen
pub data Answer : Type 0 where
  lists : List (List Row) → Answer
  total : ℕ → ℕ → Answer
  list : List Row → Answer
  not_seen : Answer

-- how many rows there are in some lists
abbrev pub count_all : List (List Row) → ℕ
count_all ls = sum_by (λ l. length l) ls

-- and the sum of their amounts
abbrev pub sum_all : List (List Row) → ℕ
sum_all ls = sum_by (λ l. sum l) ls

-- the rows in the range of each compartment of the view, in its order
abbrev pub lists_of : (ℕ → List Row) → KeyRange → List ℕ → List (List Row)
lists_of rows range view = map (λ c. rows_in range (rows c)) view

abbrev pub answer : List ℕ → (ℕ → List Row) → Query → Answer
answer view rows (Rows range) = lists (lists_of rows range view)
answer view rows (Total range) = total (count_all (lists_of rows range view)) (sum_all (lists_of rows range view))
answer view rows (Shared a b range) =
    if has view a && has view b then list (also_in (rows_in range (rows a)) (rows b)) else not_seen

-- how many rows are examined
abbrev pub cost : List ℕ → (ℕ → List Row) → Query → ℕ
cost view rows (Rows range) = count_all (lists_of rows range view)
cost view rows (Total range) = count_all (lists_of rows range view)
cost view rows (Shared a b range) =
    if has view a && has view b then length (rows_in range (rows a)) + length (rows b) else 0

abbrev pub same_range : KeyRange → KeyRange → Bool
same_range r s = r.from == s.from && r.to == s.to

abbrev pub same_query : Query → Query → Bool
same_query (Rows r) (Rows s) = same_range r s
same_query (Rows r) (Total s) = false
same_query (Rows r) (Shared a b s) = false
same_query (Total r) (Rows s) = false
same_query (Total r) (Total s) = same_range r s
same_query (Total r) (Shared a b s) = false
same_query (Shared c d r) (Rows s) = false
same_query (Shared c d r) (Total s) = false
same_query (Shared c d r) (Shared a b s) = c == a && (d == b && same_range r s)
