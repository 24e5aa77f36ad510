-- The worked example on memory: every policy with the example's numbers, on any memory that is long enough.
use Rattle.std.specs.Prelude.{◌≡◌, ℕ, ◌≤◌, List, [], ◌∷◌, ◌++◌, map, zip, length, replicate, None}
use Rattle.model.specs.Example.{table, calls_of, responses_of}
use Rattle.model.specs.Model.{Response}
use Rattle.policy.specs.Access.{memory_length}
use Rattle.policy.specs.Numbers.{policy_fault}
use Rattle.policy.specs.Read.{ReadsPolicy}
use Rattle.policy.specs.declared.Policy.{Policy}
use Rattle.store.specs.Calls.{open_result}
use Rattle.memory_query.specs.Tie.{row_with}
use Rattle.store.specs.Served.{reply_of, response_in}
use Rattle.promises.specs.Traces.{ServeCall, Observation, call_of, observation, memory_left}

-- user 0 sees 0 and 1 and writes in 0; user 1 sees 1 and writes there; user 2 sees 1 and 2 and writes in 2; capacities
-- are 3, 3 and 2
abbrev pub example_numbers : List ℕ
example_numbers =
    (3 ∷ 3 ∷ [])
    ++ ((2 ∷ 0 ∷ 1 ∷ replicate 14 0) ++ (0 ∷ []))
    ++ ((1 ∷ 1 ∷ replicate 15 0) ++ (1 ∷ []))
    ++ ((2 ∷ 1 ∷ 2 ∷ replicate 14 0) ++ (2 ∷ []))
    ++ (3 ∷ 3 ∷ 2 ∷ [])

-- what is observed of every call, whoever makes it
abbrev pub all_observations : Policy → List ℕ → List ServeCall → List Observation
all_observations p memory [] = []
all_observations p memory (call ∷ calls) =
    observation p memory call ∷ all_observations p (memory_left p memory call) calls

-- what is observed of a call to which the model responds so
abbrev pub observation_of : Response → List ℕ → Observation
observation_of response lent = record { told = reply_of response; row = row_with response lent }

-- observations of the responses in the table, read back as these
pub record AsTable (calls : List ServeCall) (all : List Observation) : Type 0 where
  pub told : all ≡ map (λ x. observation_of x.0 x.1.row) (zip (responses_of table) calls)
  pub reading : map (λ o. response_in o.told o.row) all ≡ responses_of table

-- THE WORKED EXAMPLE. The numbers are those of a policy, also where no capacity may be above 64; and on any memory that
-- is long enough the calls, each with an answer row of length 100, whatever it holds, are told what the table says.
pub record WorkedExample : Type 0 where
  pub accepted : policy_fault 64 example_numbers ≡ None
  pub told : (p : Policy) (memory : List ℕ) (calls : List ServeCall) → ReadsPolicy example_numbers p →
      memory_length p ≤ length memory → map call_of calls ≡ calls_of table →
      AsTable calls (all_observations p (open_result p memory).memory calls)
