-- Policies and requests by which stores are told from the model, and what is seen of a store after some requests.
use Rattle.std.specs.Prelude.{ℕ, zero, suc, if◌then◌else◌, List, [], ◌∷◌, map, ◌==◌}
use Rattle.rows.specs.declared.Row.{Row}
use Rattle.rows.specs.declared.KeyRange.{KeyRange}
use Rattle.policy.specs.Rules.{Rules}
use Rattle.query.specs.declared.Query.TheVariants.{Total}
use Rattle.request.specs.declared.Request.{Request}
use Rattle.request.specs.declared.Request.TheVariants.{Write, Query as Ask}
use Rattle.model.specs.Model.{Call, lend, Response}
use Rattle.counterexamples.specs.Store.{Store, state_after}

-- two users with a compartment each, for one row, which the other doesn't see
abbrev pub apart : Rules
apart = record { users = 2; view = λ user. user ∷ []; writes = λ user. user; capacity = λ c. 1 }

-- two users with one compartment, which both see
abbrev pub together : Rules
together = record { users = 2; view = λ user. 0 ∷ []; writes = λ user. 0; capacity = λ c. 1 }

-- users 0 and 2 see both compartments, user 1 only compartment 1; user 0 writes in compartment 0, the others in 1
abbrev view_within : ℕ → List ℕ
view_within zero = 0 ∷ 1 ∷ []
view_within (suc zero) = 1 ∷ []
view_within (suc (suc n)) = 0 ∷ 1 ∷ []

abbrev pub within : Rules
within =
    record { users = 3; view = view_within; writes = λ user. if user == 0 then 0 else 1; capacity = λ c. 1 }

abbrev pub row : ℕ → Row
row key = record { key = key; amount = 10 }

abbrev pub digits : KeyRange
digits = record { from = 0; to = 9 }

-- user 0 asks for the total of what they see
abbrev pub ask : Request
ask = Ask 0 (Total digits)

-- three rows in compartment 1
abbrev pub three_rows : List Request
three_rows = Write 1 (row 5) ∷ Write 1 (row 6) ∷ Write 1 (row 7) ∷ []

-- requests with a row of length 100 for each
abbrev pub calls : List Request → List Call
calls = map (λ request. lend request 100)

-- a store's state after some requests
abbrev pub after : {S : Type 0} → (Rules → Store S) → Rules → List Request → S
after store p requests = state_after store p (calls requests)

-- what it tells to a request after them
abbrev pub response_after : {S : Type 0} → (Rules → Store S) → Rules → List Request → Request → Response
response_after store p requests request = (store p).response (after store p requests) (lend request 100)
