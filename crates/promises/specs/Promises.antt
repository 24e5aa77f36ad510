-- What the store promises of every list of calls, each with an answer row of any length, whatever it holds.
use Rattle.std.specs.Prelude.{◌≡◌, ℕ, ◌<◌, ◌≤◌, List, map, length, Ok}
use Rattle.compartment.specs.Parts.{limit}
use Rattle.model.specs.Model.{answered, empty, needed_length, run}
use Rattle.model.specs.Promises.{rows_examined}
use Rattle.policy.specs.Access.{rules_of, memory_length}
use Rattle.policy.specs.declared.Policy.{Policy}
use Rattle.query.specs.Answers.{Answer, answer}
use Rattle.query.specs.AnswerRows.{outcome_of, with_answer}
use Rattle.query.specs.declared.Query.{Query}
use Rattle.request.specs.declared.Request.TheVariants.{Query as Ask}
use Rattle.store.specs.Calls.{open_result}
use Rattle.store.specs.Served.{CallResult, serve_result, response_in}
use Rattle.store.specs.Simulation.{Holds}
use Rattle.store.specs.declared.reply.Reply.{Reply}
use Rattle.store.specs.declared.reply.Reply.TheVariants.{Answered}
use Rattle.promises.specs.Traces.{ServeCall, AllFit, call_of, memory_after, observations, relevant_calls}

-- NONINTERFERENCE. What a user observes, of every call the very value that it returns and the whole answer row
-- afterwards, is what they would observe if all calls that aren't relevant to them were never made.
abbrev pub Noninterference : Type 0
Noninterference =
    (p : Policy) (user : ℕ) (memory : List ℕ) (calls : List ServeCall) → AllFit calls →
    let opened = (open_result p memory).memory in
    observations p user opened (relevant_calls p user calls) ≡ observations p user opened calls

-- TWO TRACES of which the same calls are relevant to a user are the same for them.
abbrev pub TwoTraces : Type 0
TwoTraces =
    (p : Policy) (user : ℕ) (memory : List ℕ) (calls others : List ServeCall) →
    AllFit calls → AllFit others → relevant_calls p user calls ≡ relevant_calls p user others →
    let opened = (open_result p memory).memory in
    observations p user opened calls ≡ observations p user opened others

-- THE CALLS FOLLOW THE MODEL: after every list of calls memory holds the model's state.
abbrev pub FollowsTheModel : Type 0
FollowsTheModel =
    (p : Policy) (memory : List ℕ) (calls : List ServeCall) → memory_length p ≤ length memory → AllFit calls →
    Holds p (run (rules_of p) limit empty (map call_of calls)) (memory_after p (open_result p memory).memory calls)

-- a call is answered so: it returns the answer's value with the number of rows examined, the row that was lent holds
-- the answer and is otherwise as it was, and the answer is read back out of both
pub record IsAnswered (a : Answer) (examined : ℕ) (lent : List ℕ) (result : CallResult Reply) : Type 0 where
  pub told : result.told ≡ Ok (Answered (outcome_of a examined))
  pub row : result.row ≡ with_answer a lent
  pub reading : response_in result.told result.row ≡ answered a examined

-- RIGHT ANSWERS. A user of the policy who asks with a row that is long enough is answered, from the cache or not, with
-- what the query gives for what they see at that moment; rows examined are none where the query is known, and else
-- exactly what it costs.
abbrev pub RightAnswers : Type 0
RightAnswers =
    (p : Policy) (memory : List ℕ) (calls : List ServeCall) (user : ℕ) (query : Query) (lent : List ℕ) →
    memory_length p ≤ length memory → AllFit calls →
    user < (rules_of p).users → needed_length (rules_of p) user query ≤ length lent →
    let before = map call_of calls in
    let right = answer ((rules_of p).view user) (run (rules_of p) limit empty before).rows query in
    let left = memory_after p (open_result p memory).memory calls in
    let examined = rows_examined (rules_of p) limit before user query in
    IsAnswered right examined lent (serve_result p left lent (Ask user query))
