-- Who sees more is told no less: for any view that holds the other, in any order.
use Rattle.std.specs.Prelude.{◌≡◌, ℕ, ◌≤◌, true, List, ◌++◌, Contains, nat_eq}
use Rattle.std.specs.List.{IsDistinct}
use Rattle.rows.specs.declared.Row.{Row}
use Rattle.rows.specs.declared.KeyRange.{KeyRange}
use Rattle.policy.specs.Rules.{has}
use Rattle.query.specs.declared.Query.{Query}
use Rattle.query.specs.declared.Query.TheVariants.{Rows, Total, Shared}
use Rattle.query.specs.Answers.{lists, total, list, answer, cost, lists_of}

-- ONLY WHAT IS SEEN. What a query answers and costs depends on the compartments in the view and on nothing else.
abbrev pub OnlySeen : Type 0
OnlySeen = (view : List ℕ) (rows other : ℕ → List Row) (query : Query) →
    ((c : ℕ) → has view c ≡ true → rows c ≡ other c) →
    (answer view rows query ≡ answer view other query) × (cost view rows query ≡ cost view other query)

-- what is told for the view cs is told for ds too: each list of rows, totals that are no smaller, the same shared rows
pub record MoreTold (cs ds : List ℕ) (rows : ℕ → List Row) (range : KeyRange) : Type 0 where
  pub rows_told : (xs ys : List (List Row)) →
      answer cs rows (Rows range) ≡ lists xs → answer ds rows (Rows range) ≡ lists ys →
      (l : List Row) → Contains xs l → Contains ys l
  pub totals_told : IsDistinct nat_eq cs → (n m k o : ℕ) →
      answer cs rows (Total range) ≡ total n m → answer ds rows (Total range) ≡ total k o → (n ≤ k) × (m ≤ o)
  pub shared_told : (a b : ℕ) (l : List Row) →
      answer cs rows (Shared a b range) ≡ list l → answer ds rows (Shared a b range) ≡ list l

-- MORE SEEN, NO LESS TOLD.
abbrev pub MoreSeen : Type 0
MoreSeen = (cs ds : List ℕ) → ((c : ℕ) → has cs c ≡ true → has ds c ≡ true) →
    (rows : ℕ → List Row) (range : KeyRange) → MoreTold cs ds rows range

-- What is seen further on in a view is told further on.
abbrev pub AnswersAppend : Type 0
AnswersAppend = (cs more : List ℕ) (rows : ℕ → List Row) (range : KeyRange) →
    answer (cs ++ more) rows (Rows range) ≡ lists (lists_of rows range cs ++ lists_of rows range more)
