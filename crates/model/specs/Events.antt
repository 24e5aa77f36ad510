-- What has happened in a trace, as far as the rows examined depend on it: changes, and queries that were worked out.
-- The cache has no part in this.
use Rattle.std.specs.Prelude.{ℕ, zero, suc, Bool, true, false, if◌then◌else◌, List, [], ◌∷◌, ◌==◌}
use Rattle.policy.specs.Rules.{Rules, sees}
use Rattle.query.specs.declared.Query.{Query}
use Rattle.query.specs.Answers.{same_query}
use Rattle.request.specs.declared.Request.{Request}
use Rattle.request.specs.declared.Request.TheVariants.{Write, Delete, Copy, Query as Ask}
use Rattle.model.specs.Model.{State, Call, is_accepted, response, step}

pub data Event : Type 0 where
  change : ℕ → Event  -- of a compartment
  work : ℕ → Query → Event  -- a user's query was worked out

-- is this query among the last n that were worked out for a user since what they see was changed? The events are read
-- from the newest back
abbrev pub is_known_in : Rules → ℕ → Query → ℕ → List Event → Bool
is_known_in p user query zero events = false
is_known_in p user query (suc n) [] = false
is_known_in p user query (suc n) (change c ∷ events) =
    if sees p user c then false else is_known_in p user query (suc n) events
is_known_in p user query (suc n) (work other asked ∷ events) =
    let own = if same_query query asked then true else is_known_in p user query n events in
    if other == user then own else is_known_in p user query (suc n) events

-- eight queries are known for each user
abbrev pub is_known : Rules → ℕ → Query → List Event → Bool
is_known p user query events = is_known_in p user query 8 events

-- the events with a request that wasn't refused; a query that is known isn't worked out
abbrev pub note : Rules → Request → List Event → List Event
note p (Write user row) events = change (p.writes user) ∷ events
note p (Delete user key) events = change (p.writes user) ∷ events
note p (Copy user compartment range) events = change (p.writes user) ∷ events
note p (Ask user query) events =
    if is_known p user query events then events else work user query ∷ events

-- the events of a trace, the newest first, after those before it
abbrev pub events_after : Rules → ℕ → State → List Event → List Call → List Event
events_after p limit s events [] = events
events_after p limit s events (call ∷ calls) =
    let later = if is_accepted (response p limit s call) then note p call.request events else events in
    events_after p limit (step p limit s call) later calls
