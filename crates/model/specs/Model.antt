-- The store as a state machine: what each request tells and what it changes. A reader must believe this file,
-- and the definitions that it takes from `rows`, `policy`, `query` and `cache`.
use Rattle.std.specs.Prelude.{ℕ, suc, ◌+◌, ◌*◌, Bool, true, false, if◌then◌else◌, not, ◌&&◌, ◌||◌, ◌==◌, nat_le, nat_lt}
use Rattle.std.specs.Prelude.{List, [], ◌∷◌, map, length, take, Some, None, Option}
use Rattle.std.specs.List.{filter}
use Rattle.rows.specs.declared.Row.{Row}
use Rattle.rows.specs.declared.KeyRange.{KeyRange}
use Rattle.rows.specs.Rows.{put, put_all, without, has_key, rows_in}
use Rattle.policy.specs.Rules.{Rules, sees}
pub use Rattle.policy.specs.Access.{may_copy}
use Rattle.base.specs.declared.refusal.Refusal.{Refusal}
use Rattle.base.specs.declared.refusal.Refusal.TheVariants.{NoUser, NoFlow, NoRoom, NoRow, ShortRow, LastVersion}
use Rattle.query.specs.declared.Query.{Query}
use Rattle.query.specs.declared.Query.TheVariants.{Rows, Total, Shared}
use Rattle.query.specs.Answers.{Answer, lists, total, list, not_seen, answer, cost}
pub use Rattle.query.specs.Looks.{capacity_sum}
pub use Rattle.cache.specs.declared.CachedAnswer.{CachedAnswer}
pub use Rattle.cache.specs.declared.CachedAnswer.TheVariants.{Rows as kept_rows, Total as kept_total}
pub use Rattle.cache.specs.declared.CachedAnswer.TheVariants.{Shared as kept_shared, NotSeen as kept_not_seen}
pub use Rattle.cache.specs.Entries.{Entry, find_exact as find}
pub use Rattle.cache.specs.CachePlaces.{same_numbers as same_versions}
use Rattle.request.specs.declared.Request.{Request}
use Rattle.request.specs.declared.Request.TheVariants.{Write, Delete, Copy, Query as Ask}
pub use Rattle.request.specs.Who.{who, asks}

-- each compartment's rows and how often it was changed, and each user's cache, the newest entry first
pub record State : Type 0 where
  pub rows : ℕ → List Row
  pub version : ℕ → ℕ
  pub cache : ℕ → List Entry

abbrev pub empty : State
empty = record { rows = λ c. []; version = λ c. 0; cache = λ u. [] }

-- a request, and how long the answer row is that is lent for it
pub record Call : Type 0 where
  pub request : Request
  pub lent : ℕ

abbrev pub lend : Request → ℕ → Call
lend request lent = record { request = request; lent = lent }

pub data Response : Type 0 where
  done : Response
  refused : Refusal → Response
  answered : Answer → ℕ → Response  -- an answer, and how many rows were examined

-- is this number a user's?
abbrev pub is_user : Rules → ℕ → Bool
is_user p user = nat_lt user p.users

-- THE CACHE

-- An entry is a query that was worked out, the versions of the compartments in its user's view at that time, and what
-- is kept of the answer. `find` gives what the newest entry with this query and these versions keeps.

-- the versions of the compartments in a user's view, in its order
abbrev pub versions_seen : Rules → State → ℕ → List ℕ
versions_seen p s user = map s.version (p.view user)

-- what a user's cache has for a query, by the versions as they are now
abbrev pub look_up : Rules → State → ℕ → Query → Option CachedAnswer
look_up p s user query = find query (versions_seen p s user) (s.cache user)

-- what is kept of an answer
abbrev pub keep : Answer → CachedAnswer
keep (lists rows) = kept_rows
keep (total count sum) = kept_total count sum
keep (list rows) = kept_shared
keep not_seen = kept_not_seen

-- the answer that was kept: its numbers, and of rows the ones that are worked out again
abbrev pub recall : CachedAnswer → Answer → Answer
recall kept_rows again = again
recall (kept_total count sum) again = total count sum
recall kept_shared again = again
recall kept_not_seen again = not_seen

-- WHAT IS TOLD

-- how long the answer row has to be for a query; to be told 'not seen' needs none
abbrev pub needed_length : Rules → ℕ → Query → ℕ
needed_length p user (Rows range) = 32 + 2 * capacity_sum p.capacity (p.view user)
needed_length p user (Total range) = 32 + 2 * capacity_sum p.capacity (p.view user)
needed_length p user (Shared a b range) = if sees p user a && sees p user b then 32 + 2 * p.capacity a else 0

-- a compartment changes, unless its version is the last one
abbrev pub respond_change : ℕ → State → ℕ → Response
respond_change limit s c = if nat_lt (suc (s.version c)) limit then done else refused (LastVersion c)

-- a compartment is to hold these rows, unless they are too many
abbrev pub respond_fill : Rules → ℕ → State → ℕ → List Row → Response
respond_fill p limit s c new =
    if nat_le (length new) (p.capacity c) then respond_change limit s c else refused (NoRoom (p.capacity c))

-- a query is answered from the cache, with no row examined, or is worked out
abbrev pub respond_query : Rules → State → ℕ → Query → Option CachedAnswer → Response
respond_query p s user query (Some kept) = answered (recall kept (answer (p.view user) s.rows query)) 0
respond_query p s user query None = answered (answer (p.view user) s.rows query) (cost (p.view user) s.rows query)

-- the rows of the compartment in which a user writes, with those of a range of another compartment
abbrev pub rows_after_copy : Rules → State → ℕ → ℕ → KeyRange → List Row
rows_after_copy p s user source range = put_all (rows_in range (s.rows source)) (s.rows (p.writes user))

-- WHAT CHANGES

-- a function with another value at `i`
abbrev pub with_at : {A : Type 0} → (ℕ → A) → ℕ → A → ℕ → A
with_at f i a j = if i == j then a else f j

-- a compartment has new rows, and was changed once more
abbrev pub set_rows : State → ℕ → List Row → State
set_rows s c new =
    record { rows = with_at s.rows c new; version = with_at s.version c (suc (s.version c)); cache = s.cache }

-- the entry for a query that is worked out
abbrev pub entry : Rules → State → ℕ → Query → Entry
entry p s user query =
    let kept = keep (answer (p.view user) s.rows query) in
    record { query = query; versions = versions_seen p s user; kept = kept }

-- a query that was found in the cache changes nothing; else its entry comes in front, and the newest eight stay
abbrev pub remember : Rules → State → ℕ → Query → Option CachedAnswer → State
remember p s user query (Some kept) = s
remember p s user query None =
    let entries = take 8 (entry p s user query ∷ s.cache user) in
    record { rows = s.rows; version = s.version; cache = with_at s.cache user entries }

-- WHAT A REQUEST DOES

-- what is told, and the state afterwards unless that is a refusal
pub record Transition : Type 0 where
  pub response : Response
  pub next : State

-- a request with an answer row of the length `lent`
abbrev pub transition : Rules → ℕ → State → Request → ℕ → Transition
transition p limit s (Write user row) lent =
    let c = p.writes user in
    let new = put row (s.rows c) in
    record {
      response = if is_user p user then respond_fill p limit s c new else refused (NoUser user);
      next = set_rows s c new;
    }
transition p limit s (Delete user key) lent =
    let c = p.writes user in
    let change = if has_key key (s.rows c) then respond_change limit s c else refused (NoRow key) in
    record {
      response = if is_user p user then change else refused (NoUser user);
      next = set_rows s c (without key (s.rows c));
    }
transition p limit s (Copy user source range) lent =
    let c = p.writes user in
    let new = rows_after_copy p s user source range in
    record {
      response = if may_copy p user source then respond_fill p limit s c new else refused (NoFlow source);
      next = set_rows s c new;
    }
transition p limit s (Ask user query) lent =
    let found = look_up p s user query in
    let long = nat_le (needed_length p user query) lent in
    let answer = if long then respond_query p s user query found else refused (ShortRow lent) in
    record {
      response = if is_user p user then answer else refused (NoUser user);
      next = remember p s user query found;
    }

abbrev pub response : Rules → ℕ → State → Call → Response
response p limit s call = (transition p limit s call.request call.lent).response

-- done, or answered
abbrev pub is_accepted : Response → Bool
is_accepted done = true
is_accepted (refused refusal) = false
is_accepted (answered a examined) = true

-- a refusal changes nothing
abbrev pub step : Rules → ℕ → State → Call → State
step p limit s call =
    let does = transition p limit s call.request call.lent in
    if is_accepted does.response then does.next else s

-- TRACES

-- the state after a list of calls
abbrev pub run : Rules → ℕ → State → List Call → State
run p limit s [] = s
run p limit s (call ∷ calls) = run p limit (step p limit s call) calls

-- what is told on the way, to everybody
abbrev pub responses : Rules → ℕ → State → List Call → List Response
responses p limit s [] = []
responses p limit s (call ∷ calls) = response p limit s call ∷ responses p limit (step p limit s call) calls

-- what a user is told on the way
abbrev pub responses_to : Rules → ℕ → ℕ → State → List Call → List Response
responses_to p limit v s [] = []
responses_to p limit v s (call ∷ calls) =
    if who call.request == v then response p limit s call ∷ responses_to p limit v (step p limit s call) calls
    else responses_to p limit v (step p limit s call) calls

-- a call is relevant to a user v if it is their own, or a user's change of a compartment that v sees
abbrev pub relevant : Rules → ℕ → Call → Bool
relevant p v call =
    let user = who call.request in
    (user == v) || (is_user p user && (not (asks call.request) && sees p v (p.writes user)))

-- the calls that are relevant to v, and no others
abbrev pub purge : Rules → ℕ → List Call → List Call
purge p v = filter (relevant p v)
