-- What the code's answers and costs mean on rows that are sorted by key.
use Rattle.std.specs.Prelude.{◌≡◌, ℕ, ◌+◌, ◌*◌, ◌≤◌, true, List, map, length, Some}
use Rattle.rows.specs.declared.Row.{Row}
use Rattle.rows.specs.declared.KeyRange.{KeyRange}
use Rattle.rows.specs.Rows.{SortedByKey, Small, rows_in}
use Rattle.rows.specs.Halving.{flat}
use Rattle.policy.specs.Rules.{has}
use Rattle.query.specs.declared.Outcome.{Outcome}
use Rattle.query.specs.declared.Query.{Query}
use Rattle.query.specs.declared.Query.TheVariants.{Rows, Total, Shared}
use Rattle.query.specs.Answers.{lists, total, not_seen, answer, cost, count_all}
use Rattle.query.specs.Looks.{compartments_for, row_length_for}
use Rattle.query.specs.AnswerRows.{AnswerResult, answer_result, answered_of, outcome_of, read_answer, with_answer}

-- the rows of a compartment, as memory keeps them
pub record SortedRows (rs : List Row) (capacity : ℕ) : Type 0 where
  pub rises : SortedByKey rs
  pub small : Small rs
  pub within : length rs ≤ capacity
  pub few : capacity ≤ 4096

-- in memory, the rows of some compartments
abbrev pub parts_of : (ℕ → List Row) → List ℕ → List (List ℕ)
parts_of rows cs = map (λ c. flat (rows c)) cs

-- a query answered over the rows of the compartments that it looks at
abbrev pub rows_result : List ℕ → (ℕ → List Row) → Query → List ℕ → AnswerResult
rows_result view rows query row = answer_result query (parts_of rows (compartments_for view query)) row

-- the answer row is as long as is needed
abbrev pub LongEnough : (ℕ → ℕ) → List ℕ → Query → List ℕ → Type 0
LongEnough capacity view query row = (n : ℕ) → row_length_for capacity view query ≡ Some n → n ≤ length row

-- what is returned is the model's answer at its cost, and the row holds it and is else as it was; together they are
-- read as the answer
pub record IsModelAnswer (view : List ℕ) (rows : ℕ → List Row) (query : Query) (lent : List ℕ) : Type 0 where
  pub returned : (rows_result view rows query lent).told
      ≡ Some (outcome_of (answer view rows query) (cost view rows query))
  pub row : (rows_result view rows query lent).row ≡ with_answer (answer view rows query) lent
  pub reading : read_answer (answered_of (answer view rows query)) (with_answer (answer view rows query) lent)
      ≡ answer view rows query

-- THE CODE ANSWERS AS THE MODEL DOES, with a row as long as is needed.
abbrev pub AnswersAsModel : Type 0
AnswersAsModel = (capacity : ℕ → ℕ) (view : List ℕ) (rows : ℕ → List Row) (query : Query) (row : List ℕ) →
    length view ≤ 16 → ((c : ℕ) → has view c ≡ true → SortedRows (rows c) (capacity c)) →
    LongEnough capacity view query row → IsModelAnswer view rows query row

-- A ROW AS LONG AS IS NEEDED IS ENOUGH, whatever the parts hold, if none is longer than its compartment's capacity.
abbrev pub NeverRefused : Type 0
NeverRefused = (capacity : ℕ → ℕ) (view : List ℕ) (part : ℕ → List ℕ) (query : Query) (row : List ℕ) →
    length view ≤ 16 → ((c : ℕ) → has view c ≡ true → length (part c) ≤ 2 * capacity c) →
    LongEnough capacity view query row →
    (outcome : Outcome) × ((answer_result query (map part (compartments_for view query)) row).told ≡ Some outcome)

-- ONLY WHAT IS SEEN IS LENT.
abbrev pub LentIsSeen : Type 0
LentIsSeen = (view : List ℕ) (query : Query) (c : ℕ) →
    has (compartments_for view query) c ≡ true → has view c ≡ true

-- THE COST IS THE NUMBER OF ROWS: those that are told or added up; for shared those of the first in the range and all
-- of the second, also where they are the same; and none where not both are seen.
pub record Costs (view : List ℕ) (rows : ℕ → List Row) (range : KeyRange) : Type 0 where
  pub of_rows : (ls : List (List Row)) →
      answer view rows (Rows range) ≡ lists ls → cost view rows (Rows range) ≡ count_all ls
  pub of_total : (n s : ℕ) → answer view rows (Total range) ≡ total n s → cost view rows (Total range) ≡ n
  pub of_shared : (a b : ℕ) → has view a ≡ true → has view b ≡ true →
      cost view rows (Shared a b range) ≡ length (rows_in range (rows a)) + length (rows b)
  pub of_unseen : (a b : ℕ) → answer view rows (Shared a b range) ≡ not_seen → cost view rows (Shared a b range) ≡ 0

abbrev pub CostsAreRows : Type 0
CostsAreRows = (view : List ℕ) (rows : ℕ → List Row) (range : KeyRange) → Costs view rows range
