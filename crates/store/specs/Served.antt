-- What any request returns, and what memory and the answer row hold afterwards, whatever they held before.
use Rattle.std.specs.Prelude.{ℕ, List, Ok, Err, Result}
use Rattle.base.specs.declared.refusal.Refusal.{Refusal}
use Rattle.compartment.specs.ChangeResult.{ChangeResult}
use Rattle.memory_query.specs.AskResult.{ask_result}
pub use Rattle.memory_query.specs.CallResult.{CallResult, refusal_result}
use Rattle.model.specs.Model.{Response, done, refused, answered}
use Rattle.policy.specs.declared.Policy.{Policy}
use Rattle.query.specs.AnswerRows.{outcome_of, read_answer}
use Rattle.query.specs.declared.Outcome.{Outcome}
use Rattle.request.specs.declared.Request.{Request}
use Rattle.request.specs.declared.Request.TheVariants.{Write, Delete, Copy, Query as Ask}
use Rattle.store.specs.Calls.{write_result, delete_result, copy_result}
use Rattle.store.specs.declared.reply.Reply.{Reply}
use Rattle.store.specs.declared.reply.Reply.TheVariants.{Done, Answered}

-- what a change returns, as a reply
abbrev pub reply_to_change : Result (Unit {0}) Refusal → Result Reply Refusal
reply_to_change (Ok x) = Ok Done
reply_to_change (Err refusal) = Err refusal

-- what a query returns
abbrev pub reply_to_query : Result Outcome Refusal → Result Reply Refusal
reply_to_query (Ok outcome) = Ok (Answered outcome)
reply_to_query (Err refusal) = Err refusal

-- a change, which leaves the answer row as it was lent
abbrev pub change_call : List ℕ → ChangeResult → CallResult Reply
change_call row change = record { told = reply_to_change change.told; memory = change.memory; row = row }

abbrev pub query_call : CallResult Outcome → CallResult Reply
query_call ask = record { told = reply_to_query ask.told; memory = ask.memory; row = ask.row }

-- what any request does, with this answer row lent for it
abbrev pub serve_result : Policy → List ℕ → List ℕ → Request → CallResult Reply
serve_result p memory row (Write user new) = change_call row (write_result p memory user new)
serve_result p memory row (Delete user key) = change_call row (delete_result p memory user key)
serve_result p memory row (Copy user c range) = change_call row (copy_result p memory user c range)
serve_result p memory row (Ask user query) = query_call (ask_result p memory row user query)

-- the reply for a response of the model
abbrev pub reply_of : Response → Result Reply Refusal
reply_of done = Ok Done
reply_of (refused refusal) = Err refusal
reply_of (answered a examined) = Ok (Answered (outcome_of a examined))

-- what is returned, read with the answer row as a response
abbrev pub response_in : Result Reply Refusal → List ℕ → Response
response_in (Ok Done) row = done
response_in (Ok (Answered outcome)) row = answered (read_answer outcome.answered row) outcome.examined
response_in (Err refusal) row = refused refusal
