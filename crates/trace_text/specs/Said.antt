-- What a text says: the numbers of a policy and the requests behind it, line by line.
use Rattle.std.specs.Prelude.{◌≡◌, ℕ, ◌+◌, ◌-◌, if◌then◌else◌, List, [], ◌∷◌, ◌++◌, length, replicate, Bool, false, not, find, None, Some, Option, Ok, Err, vec_items, Result}
use Rattle.std.specs.Option.{option_map_or}
use Rattle.std.specs.Str.{bytes_eq}
use Rattle.request.specs.declared.Request.{Request}
use Rattle.trace_text.specs.Lines.{and_then, UserView, stage_of, is_silent, count_said, user_said, capacity_said, request_said}
use Rattle.trace_text.specs.Words.{without_mark, lines, word_at}
use Rattle.trace_text.specs.Names.{spelling}
use Rattle.trace_text.specs.declared.Trace.{Trace}
use Rattle.policy.specs.declared.contract.Contract.{Contract}
use Rattle.policy.specs.Views.{view_of, writes_of}
use Rattle.trace_text.specs.declared.entries.Entry.{Entry}
use Rattle.trace_text.specs.declared.entries.Entry.TheVariants as entry
use Rattle.trace_text.specs.declared.fault.Fault.{Fault}
use Rattle.trace_text.specs.declared.fault.ReadError.{ReadError}
use Rattle.trace_text.specs.declared.fault.ReadError.TheVariants as error
use Rattle.trace_text.specs.declared.fault.Reason.{Reason}
use Rattle.trace_text.specs.declared.fault.Reason.TheVariants.{Truncated}
use Rattle.trace_text.specs.declared.names.Name.TheVariants as name
use Rattle.trace_text.specs.declared.stages.Stage.{Stage}
use Rattle.trace_text.specs.declared.stages.Stage.TheVariants as stage

pub record Content : Type 0 where
  pub numbers : List ℕ
  pub requests : List Request

abbrev pub content_of : Trace → Content
content_of trace = record { numbers = vec_items trace.numbers; requests = vec_items trace.requests }

-- the eighteen numbers of a user: how many compartments they see, sixteen places for them with 0 behind the view, and
-- the one in which they write
abbrev pub view_places : List ℕ → List ℕ
view_places view = view ++ replicate (16 - length view) 0

abbrev pub contract_numbers : UserView → List ℕ
contract_numbers c = length c.view ∷ (view_places c.view ++ c.writes ∷ [])

abbrev pub nothing : Content
nothing = record { numbers = []; requests = [] }

abbrev pub of_numbers : List ℕ → Content
of_numbers ns = record { numbers = ns; requests = [] }

abbrev pub of_request : Request → Content
of_request q = record { numbers = []; requests = q ∷ [] }

-- what a line adds at a stage of the policy
abbrev pub entry_at : Stage → List ℕ → Result Content Reason
entry_at stage.Users line = and_then (count_said name.Users 32 line) (λ n. Ok (of_numbers (n ∷ [])))
entry_at stage.Compartments line = and_then (count_said name.Compartments 16 line) (λ n. Ok (of_numbers (n ∷ [])))
entry_at (stage.User user compartments) line =
    and_then (user_said user compartments line) (λ c. Ok (of_numbers (contract_numbers c)))
entry_at (stage.Capacity compartment) line = and_then (capacity_said compartment line) (λ n. Ok (of_numbers (n ∷ [])))
entry_at stage.Requests line = and_then (request_said line) (λ q. Ok (of_request q))

-- what a line adds behind the numbers of the policy
abbrev pub entry_said : List ℕ → List ℕ → Result Content Reason
entry_said ns line = if is_silent line then Ok nothing else entry_at (stage_of ns) line

-- what the code keeps of a line
abbrev pub user_view : Contract → UserView
user_view c = record { view = view_of c; writes = writes_of c }

abbrev pub entry_content : Entry → Content
entry_content (entry.Count n) = of_numbers (n ∷ [])
entry_content (entry.User c) = of_numbers (contract_numbers (user_view c))
entry_content (entry.Request q) = of_request q

abbrev pub content_if : Option Entry → Content
content_if None = nothing
content_if (Some e) = entry_content e

abbrev pub join : Content → Content → Content
join said more = record { numbers = said.numbers ++ more.numbers; requests = said.requests ++ more.requests }

abbrev pub line_said : Content → List ℕ → Result Content Reason
line_said said line = and_then (entry_said said.numbers line) (λ e. Ok (join said e))

-- the text may end where requests are next
abbrev pub end_at : Stage → Content → Result Content Reason
end_at stage.Requests said = Ok said
end_at _ said = Err Truncated

abbrev pub check_end : Content → Result Content Reason
check_end said = end_at (stage_of said.numbers) said

-- a reason with the line's number
abbrev pub at_line : ℕ → Result Content Reason → Result Content Fault
at_line n (Ok said) = Ok said
at_line n (Err reason) = Err (record { line = n; reason = reason })

-- what lines say, numbered from n on, behind what was said before
abbrev pub lines_said : ℕ → Content → List (List ℕ) → Result Content Fault
lines_said n said [] = at_line (n - 1) (check_end said)
lines_said n said (line ∷ lines) =
    and_then (at_line n (line_said said line)) (λ more. lines_said (n + 1) more lines)

abbrev pub trace_in : List ℕ → Result Content Fault
trace_in text = lines_said 1 nothing (lines (without_mark text))

-- a fault is what the text has; nothing is said of when memory runs out
abbrev pub FailsAs : ReadError → Result Content Fault → Type 0
FailsAs (error.Fault fault) all = Err fault ≡ all
FailsAs error.OutOfMemory all = Unit {0}

-- what is told of a text is what it says, or its fault
abbrev pub ReadsAs : {A : Type 0} → (A → Content) → Result A ReadError → Result Content Fault → Type 0
ReadsAs said (Ok x) all = Ok (said x) ≡ all
ReadsAs said (Err e) all = FailsAs e all

-- the first line that has a word
abbrev pub first_line_with_words : List (List ℕ) → Option (List ℕ)
first_line_with_words lines = find (λ line. not (is_silent line)) lines

-- the first word of a text is `users`: so begins a trace as text
abbrev pub looks_like_text : List ℕ → Bool
looks_like_text text =
    option_map_or (λ line. bytes_eq (word_at line 0) (spelling name.Users))
    (first_line_with_words (lines (without_mark text))) false
