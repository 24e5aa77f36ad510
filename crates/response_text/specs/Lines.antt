-- What a user is told as text, byte by byte. This is what a reader must believe of the text.
use Rattle.std.specs.Prelude.{ℕ, if◌then◌else◌, List, ◌++◌, codes, decimal, ◌==◌}
use Rattle.std.specs.List.{join_by}
use Rattle.rows.specs.declared.Row.{Row}
use Rattle.base.specs.Refusals.{refusal_line}
use Rattle.base.specs.declared.refusal.Refusal.{Refusal}
use Rattle.base.specs.declared.refusal.Refusal.TheVariants.{OutOfBounds, BadView, NoRequest, NoUser, NoFlow, NoRoom, NoRow, ShortRow, LastVersion}
use Rattle.query.specs.Answers.{Answer, lists, total, list, not_seen}
use Rattle.model.specs.Model.{Response, done, refused, answered}

-- key and amount, as 5:70
abbrev pub row_bytes : Row → List ℕ
row_bytes row = decimal row.key ++ (codes ":" ++ decimal row.amount)

-- rows in brackets, with one blank between each two, as [5:70 6:80] or []
abbrev pub list_bytes : List Row → List ℕ
list_bytes rows = codes "[" ++ (join_by row_bytes (codes " ") rows ++ codes "]")

-- as 3 rows 160 or 1 row 10
abbrev pub total_bytes : ℕ → ℕ → List ℕ
total_bytes rows amount =
    if rows == 1 then codes "1 row " ++ decimal amount else decimal rows ++ (codes " rows " ++ decimal amount)

-- a list for each compartment, with one blank between each two
abbrev pub answer_bytes : Answer → List ℕ
answer_bytes (lists all) = join_by list_bytes (codes " ") all
answer_bytes (total rows amount) = total_bytes rows amount
answer_bytes (list rows) = list_bytes rows
answer_bytes not_seen = codes "not seen"

-- refused by number and place where there are no words of its own
abbrev pub refusal_bytes : Refusal → List ℕ
refusal_bytes (OutOfBounds place) = refusal_line (OutOfBounds place)
refusal_bytes (BadView user) = refusal_line (BadView user)
refusal_bytes (NoRequest place) = codes "no deed at " ++ decimal place
refusal_bytes (NoUser user) = codes "not allowed"
refusal_bytes (NoFlow compartment) = codes "not allowed"
refusal_bytes (NoRoom capacity) = codes "no room"
refusal_bytes (NoRow key) = codes "no row"
refusal_bytes (ShortRow length) = refusal_line (ShortRow length)
refusal_bytes (LastVersion compartment) = refusal_line (LastVersion compartment)

-- an answer and how many rows were examined
abbrev pub outcome_bytes : Answer → ℕ → List ℕ
outcome_bytes answer examined = answer_bytes answer ++ (codes " looked at " ++ decimal examined)

abbrev pub response_bytes : Response → List ℕ
response_bytes done = codes "done"
response_bytes (refused why) = refusal_bytes why
response_bytes (answered answer examined) = outcome_bytes answer examined

-- the line of a response, with the user who is told
abbrev pub line : ℕ → Response → List ℕ
line user response = decimal user ++ codes ": " ++ (response_bytes response ++ codes "\n")
