-- What memory holds of a state for one user, and what it is to answer as the model does.
use Rattle.std.specs.Prelude.{◌≡◌, ℕ, ◌≤◌, true, List, length, Some, None, Ok, Err, Result}
use Rattle.rows.specs.Halving.{flat}
use Rattle.policy.specs.declared.Policy.{Policy}
use Rattle.base.specs.declared.refusal.Refusal.{Refusal}
use Rattle.policy.specs.Access.{rules_of, cache_at, memory_length}
use Rattle.policy.specs.Rules.{sees}
use Rattle.query.specs.declared.Outcome.{Outcome}
use Rattle.query.specs.declared.Query.{Query}
use Rattle.query.specs.Answers.{not_seen}
use Rattle.query.specs.Laws.{SortedRows}
use Rattle.query.specs.AnswerRows.{outcome_of, read_answer, with_answer}
use Rattle.cache.specs.Entries.{padded_entries, OfView}
use Rattle.request.specs.declared.Request.TheVariants.{Query as Ask}
use Rattle.model.specs.Model.{State, Response, done, refused, answered, response, step, lend}
use Rattle.memory_query.specs.MemoryParts.{version_at, part_at, fault_at, cache_part, with_cache}
use Rattle.memory_query.specs.AskResult.{ask_result}

-- memory holds what a user sees of a state: each compartment's rows and version, in bounds, and the user's cache
pub record HoldsView (p : Policy) (s : State) (user : ℕ) (memory : List ℕ) : Type 0 where
  pub long : memory_length p ≤ length memory
  pub rows : (c : ℕ) → sees (rules_of p) user c ≡ true → part_at p memory c ≡ flat (s.rows c)
  pub version : (c : ℕ) → sees (rules_of p) user c ≡ true → version_at p memory c ≡ s.version c
  pub bounds : (c : ℕ) → sees (rules_of p) user c ≡ true → fault_at p memory c ≡ None
  pub orderly : (c : ℕ) → sees (rules_of p) user c ≡ true → SortedRows (s.rows c) ((rules_of p).capacity c)
  pub cache : (at : ℕ) → cache_at p user ≡ Some at → cache_part at memory ≡ padded_entries 8 (s.cache user)
  pub few : length (s.cache user) ≤ 8
  pub of_view : OfView (length ((rules_of p).view user)) (s.cache user)

-- what is returned for a response of the model; no query is told 'done'
abbrev pub result_of : Response → Result Outcome Refusal
result_of done = Ok (outcome_of not_seen 0)
result_of (refused refusal) = Err refusal
result_of (answered a examined) = Ok (outcome_of a examined)

-- and the answer row afterwards: it holds the answer, if there is one
abbrev pub row_with : Response → List ℕ → List ℕ
row_with done row = row
row_with (refused refusal) row = row
row_with (answered a examined) row = with_answer a row

-- both read together as a response
abbrev pub read_result : Result Outcome Refusal → List ℕ → Response
read_result (Ok outcome) row = answered (read_answer outcome.answered row) outcome.examined
read_result (Err refusal) row = refused refusal

-- what is returned and what the row holds are the model's response, and are read as it; memory afterwards has the next
-- state's cache where the user's was, and is otherwise as it was
pub record AsModel (p : Policy) (limit : ℕ) (s : State) (user : ℕ) (query : Query) (memory lent : List ℕ) : Type 0 where
  pub told : (ask_result p memory lent user query).told
      ≡ result_of (response (rules_of p) limit s (lend (Ask user query) (length lent)))
  pub row : (ask_result p memory lent user query).row
      ≡ row_with (response (rules_of p) limit s (lend (Ask user query) (length lent))) lent
  pub reading : read_result (ask_result p memory lent user query).told (ask_result p memory lent user query).row
      ≡ response (rules_of p) limit s (lend (Ask user query) (length lent))
  pub kept : (at : ℕ) → cache_at p user ≡ Some at → (ask_result p memory lent user query).memory
      ≡ with_cache at
      (padded_entries 8 ((step (rules_of p) limit s (lend (Ask user query) (length lent))).cache user)) memory
  pub absent : cache_at p user ≡ None → (ask_result p memory lent user query).memory ≡ memory

-- A QUERY DOES AS THE MODEL, over memory that holds what the user sees of a state, with any answer row.
abbrev pub QueriesAsModel : Type 0
QueriesAsModel = (p : Policy) (limit : ℕ) (s : State) (user : ℕ) (query : Query) (memory row : List ℕ) →
    HoldsView p s user memory → AsModel p limit s user query memory row

-- A REFUSAL LEAVES MEMORY AND THE ANSWER ROW AS THEY WERE, whatever they hold.
abbrev pub RefusalsLeave : Type 0
RefusalsLeave = (p : Policy) (user : ℕ) (query : Query) (memory row : List ℕ) (refusal : Refusal) →
    (ask_result p memory row user query).told ≡ Err refusal →
    ((ask_result p memory row user query).memory ≡ memory) × ((ask_result p memory row user query).row ≡ row)
