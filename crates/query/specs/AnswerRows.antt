-- What a query makes of the parts that it is lent and of the answer row, whatever they hold, rows sorted by key or not.
use Rattle.std.specs.Prelude.{ℕ, ◌+◌, ◌/◌, ◌%◌, ◌^◌, Bool, if◌then◌else◌, ◌&&◌, List, [], ◌∷◌, ◌++◌, map, length, take, drop, replicate, Some, None, Option, nat_le, sum_by}
use Rattle.std.specs.List.{flat_map}
use Rattle.rows.specs.declared.Row.{Row}
use Rattle.rows.specs.declared.KeyRange.{KeyRange}
use Rattle.rows.specs.Rows.{sum}
use Rattle.rows.specs.Halving.{flat, rows_of}
use Rattle.rows.specs.Numbers.{range_part, intersection}
use Rattle.query.specs.Answers.{Answer, lists, total, list, not_seen}
use Rattle.query.specs.declared.AnswerSummary.{AnswerSummary}
use Rattle.query.specs.declared.AnswerSummary.TheVariants.{Rows as InRows, Total as InTotal, Shared as InShared, NotSeen}
use Rattle.query.specs.declared.Outcome.{Outcome}
use Rattle.query.specs.declared.Query.{Query}
use Rattle.query.specs.declared.Query.TheVariants.{Rows, Total, Shared}

-- how many rows of a part lie in the range
abbrev pub count : KeyRange → List ℕ → ℕ
count range part = length (range_part range part) / 2

abbrev pub counts : KeyRange → List (List ℕ) → List ℕ
counts range parts = map (count range) parts

abbrev pub count_in : KeyRange → List (List ℕ) → ℕ
count_in range parts = sum_by (count range) parts

-- the sum of their amounts
abbrev pub amount : KeyRange → List ℕ → ℕ
amount range part = sum (rows_of (range_part range part))

abbrev pub amount_in : KeyRange → List (List ℕ) → ℕ
amount_in range parts = sum_by (amount range) parts

-- the rows of all parts that lie in the range, part after part
abbrev pub range_parts : KeyRange → List (List ℕ) → List ℕ
range_parts range parts = flat_map (range_part range) parts

-- the rows of one part whose keys are in the other, by one pass over both
abbrev pub common_rows : List ℕ → List ℕ → List Row
common_rows a b = intersection (rows_of a) (rows_of b)

-- how many numbers there are in some parts
abbrev pub lengths : List (List ℕ) → ℕ
lengths parts = sum_by (λ part. length part) parts

-- a row of this length has room for a header and all that the parts hold
abbrev pub row_has_room : List (List ℕ) → ℕ → Bool
row_has_room parts long = nat_le (length parts) 16 && nat_le (32 + lengths parts) long

-- the answer row: a header of 32 numbers, some counts and then zeros; the rows; and what the row held from there on
abbrev pub written_row : List ℕ → List ℕ → List ℕ → List ℕ
written_row heads rows row =
    (heads ++ drop (length heads) (replicate 32 0)) ++ (rows ++ drop (length rows) (drop 32 row))

abbrev pub written_lists : KeyRange → List (List ℕ) → List ℕ → List ℕ
written_lists range parts row = written_row (counts range parts) (range_parts range parts) row

abbrev pub written_list : List Row → List ℕ → List ℕ
written_list rs row = written_row (length rs ∷ []) (flat rs) row

abbrev pub rows_outcome : KeyRange → List (List ℕ) → Outcome
rows_outcome range parts = record { answered = InRows (length parts); examined = count_in range parts }

abbrev pub total_outcome : KeyRange → List (List ℕ) → Outcome
total_outcome range parts = record {
  answered = InTotal (count_in range parts) (amount_in range parts % 2 ^ 64);
  examined = count_in range parts;
}

abbrev pub list_outcome : KeyRange → List ℕ → List ℕ → Outcome
list_outcome range a b = record {
  answered = InShared (length (common_rows (range_part range a) b));
  examined = count range a + length b / 2;
}

abbrev pub unseen_outcome : Outcome
unseen_outcome = record { answered = NotSeen; examined = 0 }

-- what answering returns, and what the answer row holds afterwards
pub record AnswerResult : Type 0 where
  pub told : Option Outcome
  pub row : List ℕ

-- refused, with the row as it was
abbrev pub no_answer : List ℕ → AnswerResult
no_answer row = record { told = None; row = row }

-- shared: two parts are lent, or none if they are not both seen
abbrev pub shared_result : KeyRange → List (List ℕ) → List ℕ → AnswerResult
shared_result range [] row = record { told = Some unseen_outcome; row = row }
shared_result range (a ∷ []) row = record { told = Some unseen_outcome; row = row }
shared_result range (a ∷ b ∷ []) row =
    if row_has_room (a ∷ []) (length row)
    then record { told = Some (list_outcome range a b); row = written_list (common_rows (range_part range a) b) row }
    else no_answer row
shared_result range (a ∷ b ∷ c ∷ ps) row = record { told = Some unseen_outcome; row = row }

-- a query answered from the parts that it looks at; refused where the row has no room for all that they hold
abbrev pub answer_result : Query → List (List ℕ) → List ℕ → AnswerResult
answer_result (Rows range) parts row =
    if row_has_room parts (length row)
    then record { told = Some (rows_outcome range parts); row = written_lists range parts row }
    else no_answer row
answer_result (Total range) parts row =
    if row_has_room parts (length row)
    then record { told = Some (total_outcome range parts); row = row }
    else no_answer row
answer_result (Shared a b range) parts row = shared_result range parts row

-- the rows of some lists, list after list
abbrev pub all_rows : List (List Row) → List Row
all_rows ls = flat_map (λ l. l) ls

-- what a row holds with an answer in it: lists with their counts in the header, or one list; numbers are returned, and
-- leave it as it was
abbrev pub with_answer : Answer → List ℕ → List ℕ
with_answer (lists ls) row = written_row (map (λ l. length l) ls) (flat (all_rows ls)) row
with_answer (total count sum) row = row
with_answer (list rs) row = written_list rs row
with_answer not_seen row = row

-- how an answer is returned: its rows are in the answer row and only counted, numbers are as they are
abbrev pub answered_of : Answer → AnswerSummary
answered_of (lists ls) = InRows (length ls)
answered_of (total count sum) = InTotal count sum
answered_of (list rs) = InShared (length rs)
answered_of not_seen = NotSeen

-- and with the rows examined
abbrev pub outcome_of : Answer → ℕ → Outcome
outcome_of a examined = record { answered = answered_of a; examined = examined }

-- rows split by some counts, one list for each
abbrev pub split : List ℕ → List Row → List (List Row)
split [] rs = []
split (n ∷ ns) rs = take n rs ∷ split ns (drop n rs)

-- the answer, read out of what is returned and of the row
abbrev pub read_answer : AnswerSummary → List ℕ → Answer
read_answer (InRows compartments) row = lists (split (take compartments row) (rows_of (drop 32 row)))
read_answer (InTotal rows amount) row = total rows amount
read_answer (InShared rows) row = list (take rows (rows_of (drop 32 row)))
read_answer NotSeen row = not_seen
