-- What the store promises about what users are told: each statement is a type, and its proof is on a contract.
use Rattle.std.specs.Prelude.{◌≡◌, ℕ, ◌<◌, ◌≤◌, false, if◌then◌else◌, ◌&&◌, List, []}
use Rattle.rows.specs.declared.KeyRange.{KeyRange}
use Rattle.policy.specs.Rules.{Rules, Sound, sees}
use Rattle.base.specs.declared.refusal.Refusal.TheVariants.{ShortRow}
use Rattle.query.specs.declared.Query.{Query}
use Rattle.query.specs.declared.Query.TheVariants.{Shared}
use Rattle.query.specs.Answers.{Answer, not_seen, answer, cost}
use Rattle.request.specs.declared.Request.TheVariants.{Query as Ask}
use Rattle.model.specs.Model.{State, Call, lend, refused, answered, empty, needed_length}
use Rattle.model.specs.Model.{response, step, run, responses_to, purge}
use Rattle.model.specs.Events.{events_after, is_known}

-- NONINTERFERENCE. What a user is told is what they would be told if all calls that aren't relevant to them
-- were never made.
abbrev pub Noninterference : Type 0
Noninterference =
    (p : Rules) (limit v : ℕ) (calls : List Call) → Sound p →
    responses_to p limit v empty (purge p v calls) ≡ responses_to p limit v empty calls

-- Two traces that are equal when purged tell the user the same.
abbrev pub TwoTraces : Type 0
TwoTraces =
    (p : Rules) (limit v : ℕ) (calls others : List Call) → Sound p → purge p v calls ≡ purge p v others →
    responses_to p limit v empty calls ≡ responses_to p limit v empty others

-- the rows that a query examines after some calls: none where it is known, and else what it costs
abbrev pub rows_examined : Rules → ℕ → List Call → ℕ → Query → ℕ
rows_examined p limit calls user query =
    if is_known p user query (events_after p limit empty [] calls) then 0
    else cost (p.view user) (run p limit empty calls).rows query

-- RIGHT ANSWERS. A user who asks with an answer row that is long enough is answered, from the cache or not, with what
-- the query gives for what they see now.
abbrev pub RightAnswers : Type 0
RightAnswers =
    (p : Rules) (limit : ℕ) (calls : List Call) (user : ℕ) (query : Query) (lent : ℕ) →
    user < p.users → needed_length p user query ≤ lent →
    let s = run p limit empty calls in
    response p limit s (lend (Ask user query) lent)
    ≡ answered (answer (p.view user) s.rows query) (rows_examined p limit calls user query)

-- With an answer row that is too short a query is refused, in any state, and changes nothing.
abbrev pub ShortRows : Type 0
ShortRows =
    (p : Rules) (limit : ℕ) (s : State) (user : ℕ) (query : Query) (lent : ℕ) →
    user < p.users → lent < needed_length p user query →
    let call = lend (Ask user query) lent in
    (response p limit s call ≡ refused (ShortRow lent)) × (step p limit s call ≡ s)

-- A query for what two compartments share is answered 'not seen', whatever is lent, if the user doesn't see both;
-- and no row is examined.
abbrev pub NotSeen : Type 0
NotSeen =
    (p : Rules) (limit : ℕ) (calls : List Call) (user a b : ℕ) (range : KeyRange) (lent : ℕ) →
    user < p.users → (sees p user a && sees p user b) ≡ false →
    response p limit (run p limit empty calls) (lend (Ask user (Shared a b range)) lent) ≡ answered not_seen 0

-- AGAIN. A query that was answered, asked again at once with an answer row that is long enough, is answered the same,
-- and no row is examined.
abbrev pub Again : Type 0
Again =
    (p : Rules) (limit : ℕ) (calls : List Call) (user : ℕ) (query : Query) (lent more : ℕ) (a : Answer) (n : ℕ) →
    needed_length p user query ≤ more →
    let s = run p limit empty calls in
    let call = lend (Ask user query) lent in
    response p limit s call ≡ answered a n →
    response p limit (step p limit s call) (lend (Ask user query) more) ≡ answered a 0
