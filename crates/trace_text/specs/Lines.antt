-- What a line says: a count, a user's contract, a capacity or a request.
use Rattle.std.specs.Prelude.{ℕ, zero, suc, ◌+◌, ◌-◌, ◌/◌, Bool, if◌then◌else◌, ◌&&◌, List, [], ◌∷◌, length, Ok, Err, Result, ◌==◌, nat_le, nat_lt}
use Rattle.std.specs.Option.{ok_or}
use Rattle.std.specs.Str.{bytes_eq}
use Rattle.rows.specs.declared.KeyRange.{KeyRange}
use Rattle.policy.specs.Numbers.{compartments_in}
use Rattle.policy.specs.Rules.{has}
use Rattle.query.specs.declared.Query.{Query}
use Rattle.query.specs.declared.Query.TheVariants as query
pub use Rattle.request.specs.Decoded.{and_then}
use Rattle.request.specs.declared.Request.{Request}
use Rattle.request.specs.declared.kinds.Kind.{Kind}
use Rattle.request.specs.declared.kinds.Kind.TheVariants as kind
use Rattle.request.specs.declared.kinds.QueryKind.{QueryKind}
use Rattle.request.specs.declared.kinds.QueryKind.TheVariants.{Rows, Total, Shared}
use Rattle.request.specs.declared.Request.TheVariants as request
pub use Rattle.trace_bytes.specs.PolicyNumbers.{single_numbers}
use Rattle.trace_text.specs.Names.{spelling, kind_by_word}
use Rattle.trace_text.specs.Words.{word_at, number_of}
use Rattle.trace_text.specs.declared.fault.Reason.{Reason}
use Rattle.trace_text.specs.declared.fault.Reason.TheVariants.{Expected, NotNext, Missing, NotANumber, NotARequest, OutOfBounds, TooMany, NoCompartment, SeenTwice, SeesNothing, WritesUnseen}
use Rattle.trace_text.specs.declared.names.Name.{Name}
use Rattle.trace_text.specs.declared.names.Name.TheVariants as name
use Rattle.trace_text.specs.declared.stages.Stage.{Stage}
use Rattle.trace_text.specs.declared.stages.Stage.TheVariants as stage

-- the name stands at the place
abbrev pub expect_name : Name → List ℕ → ℕ → Result Unit Reason
expect_name n line place = if bytes_eq (word_at line place) (spelling n) then Ok tt else Err (Expected n)

-- the word at the place, which has to be there
abbrev pub some_word : List ℕ → ℕ → Result (List ℕ) Reason
some_word line place = if length (word_at line place) == 0 then Err (Missing (place + 1)) else Ok (word_at line place)

abbrev pub number_at : List ℕ → ℕ → Result ℕ Reason
number_at line place = and_then (some_word line place) (λ word. ok_or (number_of word) (NotANumber (place + 1)))

-- the number at the place, if it lies within its bounds
abbrev pub number_within : ℕ → ℕ → List ℕ → ℕ → Result ℕ Reason
number_within low high line place =
    and_then (number_at line place) (λ n.
    if nat_le low n && nat_le n high then Ok n else Err (OutOfBounds (place + 1)))

-- the number of a user or a compartment, which has to be the next one
abbrev pub next_at : ℕ → List ℕ → ℕ → Result Unit Reason
next_at next line place = and_then (number_at line place) (λ n. if n == next then Ok tt else Err (NotNext next))

-- no word stands there any more
abbrev pub ends : List ℕ → ℕ → Result Unit Reason
ends line place = if length (word_at line place) == 0 then Ok tt else Err (TooMany (place + 1))

abbrev pub kind_at : List ℕ → ℕ → Result Kind Reason
kind_at line place = and_then (some_word line place) (λ word. ok_or (kind_by_word word) (NotARequest (place + 1)))

abbrev pub compartment_at : List ℕ → ℕ → Result ℕ Reason
compartment_at line place = number_within 0 15 line place

-- a key or an amount
abbrev pub key_at : List ℕ → ℕ → Result ℕ Reason
key_at line place = number_within 0 4294967295 line place

-- the last two numbers of a line
abbrev pub range_at : List ℕ → ℕ → Result KeyRange Reason
range_at line place =
    and_then (key_at line place) (λ from.
    and_then (key_at line (place + 1)) (λ to.
    and_then (ends line (place + 2)) (λ _. Ok (record { from = from; to = to }))))

abbrev pub query_said : QueryKind → List ℕ → Result Query Reason
query_said Rows line = and_then (range_at line 2) (λ range. Ok (query.Rows range))
query_said Total line = and_then (range_at line 2) (λ range. Ok (query.Total range))
query_said Shared line =
    and_then (compartment_at line 2) (λ a.
    and_then (compartment_at line 3) (λ b.
    and_then (range_at line 4) (λ range. Ok (query.Shared a b range))))

-- what the user asks for, behind the word for its kind
abbrev pub request_by : Kind → ℕ → List ℕ → Result Request Reason
request_by kind.Write user line =
    and_then (key_at line 2) (λ key.
    and_then (key_at line 3) (λ amount.
    and_then (ends line 4) (λ _. Ok (request.Write user (record { key = key; amount = amount })))))
request_by kind.Delete user line =
    and_then (key_at line 2) (λ key. and_then (ends line 3) (λ _. Ok (request.Delete user key)))
request_by kind.Copy user line =
    and_then (compartment_at line 2) (λ c. and_then (range_at line 3) (λ range. Ok (request.Copy user c range)))
request_by (kind.Query kind) user line = and_then (query_said kind line) (λ q. Ok (request.Query user q))

-- USER KIND ..
abbrev pub request_said : List ℕ → Result Request Reason
request_said line =
    and_then (number_within 0 31 line 0) (λ user. and_then (kind_at line 1) (λ kind. request_by kind user line))

-- the compartments from a place on up to the word `writes`, at most so many
abbrev pub view_from : ℕ → List ℕ → ℕ → Result (List ℕ) Reason
view_from zero line place = Ok []
view_from (suc n) line place =
    if bytes_eq (word_at line place) (spelling name.Writes) then Ok []
    else and_then (compartment_at line place) (λ c. and_then (view_from n line (place + 1)) (λ cs. Ok (c ∷ cs)))

-- what a user sees, and the compartment in which they write
pub record UserView : Type 0 where
  pub view : List ℕ
  pub writes : ℕ

-- a compartment that a user sees is there, and isn't among those that follow it in the view
abbrev pub check_compartment : ℕ → ℕ → ℕ → List ℕ → Result Unit Reason
check_compartment compartments user c others =
    if nat_lt c compartments then (if has others c then Err (SeenTwice user c) else Ok tt) else Err (NoCompartment c)

abbrev pub check_view : ℕ → ℕ → List ℕ → Result Unit Reason
check_view compartments user [] = Ok tt
check_view compartments user (c ∷ cs) =
    and_then (check_compartment compartments user c cs) (λ _. check_view compartments user cs)

-- the user sees something, and what they write in
abbrev pub check_writes : ℕ → List ℕ → ℕ → Result Unit Reason
check_writes user view writes =
    if length view == 0 then Err (SeesNothing user)
    else if has view writes then Ok tt else Err (WritesUnseen user writes)

-- .. sees VIEW writes COMPARTMENT
abbrev pub view_said : ℕ → ℕ → List ℕ → Result UserView Reason
view_said user compartments line =
    and_then (view_from 16 line 3) (λ view.
    and_then (expect_name name.Writes line (3 + length view)) (λ _.
    and_then (compartment_at line (4 + length view)) (λ writes.
    and_then (ends line (5 + length view)) (λ _.
    and_then (check_view compartments user view) (λ _.
    and_then (check_writes user view writes) (λ _. Ok (record { view = view; writes = writes })))))))

-- user USER sees VIEW writes COMPARTMENT
abbrev pub user_said : ℕ → ℕ → List ℕ → Result UserView Reason
user_said user compartments line =
    and_then (expect_name name.User line 0) (λ _.
    and_then (next_at user line 1) (λ _.
    and_then (expect_name name.Sees line 2) (λ _. view_said user compartments line)))

-- a count from 1 on: users USERS, and so on
abbrev pub count_said : Name → ℕ → List ℕ → Result ℕ Reason
count_said n high line =
    and_then (expect_name n line 0) (λ _.
    and_then (number_within 1 high line 1) (λ count. and_then (ends line 2) (λ _. Ok count)))

-- capacity COMPARTMENT ROWS
abbrev pub capacity_said : ℕ → List ℕ → Result ℕ Reason
capacity_said compartment line =
    and_then (expect_name name.Capacity line 0) (λ _.
    and_then (next_at compartment line 1) (λ _.
    and_then (number_within 1 64 line 2) (λ capacity. and_then (ends line 3) (λ _. Ok capacity))))

-- what comes next behind so many numbers, two counts among them
abbrev pub behind_counts : ℕ → ℕ → ℕ → Stage
behind_counts count single compartments =
    if nat_lt count single then stage.User ((count - 2) / 18) compartments
    else if nat_lt (count - single) compartments then stage.Capacity (count - single) else stage.Requests

-- what comes next behind the numbers of a policy
abbrev pub stage_of : List ℕ → Stage
stage_of ns =
    if length ns == 0 then stage.Users
    else if length ns == 1 then stage.Compartments
    else behind_counts (length ns) (single_numbers ns) (compartments_in ns)

-- has no word
abbrev pub is_silent : List ℕ → Bool
is_silent line = length (word_at line 0) == 0
