-- Lists of calls on memory: what users observe of them, what memory holds afterwards, and which are relevant to whom.
use Rattle.std.specs.Prelude.{ℕ, if◌then◌else◌, List, [], ◌∷◌, filter, length, Result, ◌==◌}
use Rattle.base.specs.declared.refusal.Refusal.{Refusal}
use Rattle.model.specs.Model.{Call, lend, who, relevant}
use Rattle.policy.specs.Access.{rules_of}
use Rattle.policy.specs.declared.Policy.{Policy}
use Rattle.request.specs.declared.Request.{Request}
use Rattle.std.specs.List.{AllByRecursion}
use Rattle.store.specs.Served.{serve_result}
use Rattle.store.specs.Simulation.{FitsTypes}
use Rattle.store.specs.declared.reply.Reply.{Reply}

-- a call of `serve`: a request, and the answer row that is lent for it
pub record ServeCall : Type 0 where
  pub request : Request
  pub row : List ℕ

-- what the user observes who makes it: the value that the call returns, and the whole answer row afterwards
pub record Observation : Type 0 where
  pub told : Result Reply Refusal
  pub row : List ℕ

abbrev pub observation : Policy → List ℕ → ServeCall → Observation
observation p memory call =
    let result = serve_result p memory call.row call.request in
    record { told = result.told; row = result.row }

-- what memory holds after a call
abbrev pub memory_left : Policy → List ℕ → ServeCall → List ℕ
memory_left p memory call = (serve_result p memory call.row call.request).memory

-- and after a list of calls
abbrev pub memory_after : Policy → List ℕ → List ServeCall → List ℕ
memory_after p memory [] = memory
memory_after p memory (call ∷ calls) = memory_after p (memory_left p memory call) calls

-- what a user observes along a list of calls: of those that they make, one after the other
abbrev pub observations : Policy → ℕ → List ℕ → List ServeCall → List Observation
observations p user memory [] = []
observations p user memory (call ∷ calls) =
    let rest = observations p user (memory_left p memory call) calls in
    if who call.request == user then observation p memory call ∷ rest else rest

-- the call as the model has it
abbrev pub call_of : ServeCall → Call
call_of call = lend call.request (length call.row)

-- the calls that are relevant to a user
abbrev pub relevant_calls : Policy → ℕ → List ServeCall → List ServeCall
relevant_calls p user calls = filter (λ call. relevant (rules_of p) user (call_of call)) calls

-- every request fits the code's types
abbrev pub AllFit : List ServeCall → Type 0
AllFit calls = AllByRecursion (λ call. FitsTypes call.request) calls
