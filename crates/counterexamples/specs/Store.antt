-- Any store as a machine over the model's calls: what it tells and leaves along them.
use Rattle.std.specs.Prelude.{ℕ, if◌then◌else◌, List, [], ◌∷◌, ◌==◌}
use Rattle.policy.specs.Rules.{Rules}
use Rattle.model.specs.Model.{Call, Response, who}

-- a store under one policy, with states of its own
pub record Store (S : Type 0) : Type 0 where
  pub start : S
  pub response : S → Call → Response
  pub step : S → Call → S

-- the state after a list of calls
abbrev pub run : {S : Type 0} → Store S → S → List Call → S
run store s [] = s
run store s (call ∷ calls) = run store (store.step s call) calls

-- what a user is told on the way
abbrev pub responses_from : {S : Type 0} → Store S → ℕ → S → List Call → List Response
responses_from store v s [] = []
responses_from store v s (call ∷ calls) =
    if who call.request == v then store.response s call ∷ responses_from store v (store.step s call) calls
    else responses_from store v (store.step s call) calls

-- both from the start, of a store that is given for each policy
abbrev pub state_after : {S : Type 0} → (Rules → Store S) → Rules → List Call → S
state_after store p calls = run (store p) (store p).start calls

abbrev pub responses_to : {S : Type 0} → (Rules → Store S) → Rules → ℕ → List Call → List Response
responses_to store p v calls = responses_from (store p) v (store p).start calls
