-- What can be said of any store, as `model` says it of the model; and what makes a store useful.
use Rattle.std.specs.Prelude.{◌≡◌, ◌≢◌, ℕ, ◌<◌, ◌≤◌, true, false, if◌then◌else◌, ◌&&◌, ◌==◌}
use Rattle.std.specs.Prelude.{List, [], ◌∷◌, length, Some, None}
use Rattle.std.specs.List.{AllByRecursion}
use Rattle.rows.specs.declared.Row.{Row}
use Rattle.rows.specs.declared.KeyRange.{KeyRange}
use Rattle.rows.specs.Rows.{amount_of, has_key, rows_in}
use Rattle.base.specs.declared.refusal.Refusal.{Refusal}
use Rattle.base.specs.declared.refusal.Refusal.TheVariants.{NoUser, NoFlow, NoRoom, NoRow, ShortRow}
use Rattle.policy.specs.Rules.{Rules, Sound, sees, flows}
use Rattle.query.specs.declared.Query.{Query}
use Rattle.query.specs.declared.Query.TheVariants.{Shared}
use Rattle.query.specs.Answers.{Answer, not_seen, answer, cost}
use Rattle.request.specs.declared.Request.TheVariants.{Write, Delete, Copy, Query as Ask}
use Rattle.model.specs.Model.{State, Call, lend, done, refused, answered, who, is_user}
use Rattle.model.specs.Model.{needed_length, respond_change, is_accepted, purge}
use Rattle.model.specs.Events.{Event, is_known, note}
use Rattle.model.specs.Effects.{room_for_row, room_for_rows, OneChange, takes, OnlyOwn, absence, plain, SameState}
use Rattle.model.specs.Order.{InOrder, WellKept}
use Rattle.counterexamples.specs.Store.{Store, state_after, responses_to}

-- NONINTERFERENCE holds of the store.
abbrev pub Noninterference : {S : Type 0} → (Rules → Store S) → Type 0
Noninterference store =
    (p : Rules) (v : ℕ) (calls : List Call) → Sound p →
    responses_to store p v (purge p v calls) ≡ responses_to store p v calls

-- A REFUSAL CHANGES NOTHING.
abbrev pub RefusalsChangeNothing : {S : Type 0} → (Rules → Store S) → Type 0
RefusalsChangeNothing {S} store =
    (p : Rules) (s : S) (call : Call) (why : Refusal) →
    (store p).response s call ≡ refused why → (store p).step s call ≡ s

-- the events of a trace, the newest first, after those before it
abbrev pub events_from : Rules → Store State → State → List Event → List Call → List Event
events_from p store s events [] = events
events_from p store s events (call ∷ calls) =
    let later = if is_accepted (store.response s call) then note p call.request events else events in
    events_from p store (store.step s call) later calls

-- the rows that a query is to examine after some calls: none where it is known, and else what it costs
abbrev pub rows_examined : (Rules → Store State) → Rules → List Call → ℕ → Query → ℕ
rows_examined store p calls user query =
    let events = events_from p (store p) (store p).start [] calls in
    if is_known p user query events then 0 else cost (p.view user) (state_after store p calls).rows query

-- RIGHT ANSWERS. A user who asks with an answer row that is long enough is answered with what the query gives for what
-- they see now.
abbrev pub RightAnswers : (Rules → Store State) → Type 0
RightAnswers store =
    (p : Rules) (calls : List Call) (user : ℕ) (query : Query) (lent : ℕ) →
    user < p.users → needed_length p user query ≤ lent →
    let s = state_after store p calls in
    (store p).response s (lend (Ask user query) lent)
    ≡ answered (answer (p.view user) s.rows query) (rows_examined store p calls user query)

-- With an answer row that is too short a query is refused, in any state, and changes nothing.
abbrev pub ShortRows : (Rules → Store State) → Type 0
ShortRows store =
    (p : Rules) (s : State) (user : ℕ) (query : Query) (lent : ℕ) → user < p.users → lent < needed_length p user query →
    let call = lend (Ask user query) lent in
    ((store p).response s call ≡ refused (ShortRow lent)) × ((store p).step s call ≡ s)

-- A query for what two compartments share is answered 'not seen', whatever is lent, if the user doesn't see both;
-- and no row is examined.
abbrev pub NotSeen : (Rules → Store State) → Type 0
NotSeen store =
    (p : Rules) (calls : List Call) (user a b : ℕ) (range : KeyRange) (lent : ℕ) →
    user < p.users → (sees p user a && sees p user b) ≡ false →
    (store p).response (state_after store p calls) (lend (Ask user (Shared a b range)) lent) ≡ answered not_seen 0

-- AGAIN. A query that was answered, asked again at once with an answer row that is long enough, is answered the same,
-- and no row is examined.
abbrev pub Again : (Rules → Store State) → Type 0
Again store =
    (p : Rules) (calls : List Call) (user : ℕ) (query : Query) (lent more : ℕ) (a : Answer) (n : ℕ) →
    needed_length p user query ≤ more →
    let s = state_after store p calls in
    let call = lend (Ask user query) lent in
    (store p).response s call ≡ answered a n →
    (store p).response ((store p).step s call) (lend (Ask user query) more) ≡ answered a 0

-- WHEN IT IS DONE. A write by a user of the policy, if there is room for the row, and the version may rise;
abbrev pub WriteTold : ℕ → (Rules → Store State) → Type 0
WriteTold limit store =
    (p : Rules) (calls : List Call) (user : ℕ) (row : Row) (lent : ℕ) →
    let s = state_after store p calls in
    let c = p.writes user in
    let change = if room_for_row p s c row then respond_change limit s c else refused (NoRoom (p.capacity c)) in
    (store p).response s (lend (Write user row) lent) ≡ (if is_user p user then change else refused (NoUser user))

-- a delete by a user of the policy, if a row has the key, and the version may rise;
abbrev pub DeleteTold : ℕ → (Rules → Store State) → Type 0
DeleteTold limit store =
    (p : Rules) (calls : List Call) (user key lent : ℕ) →
    let s = state_after store p calls in
    let c = p.writes user in
    let change = if has_key key (s.rows c) then respond_change limit s c else refused (NoRow key) in
    (store p).response s (lend (Delete user key) lent) ≡ (if is_user p user then change else refused (NoUser user))

-- a copy by a user of the policy who sees the source, if its rows may flow, there is room for them, and the version
-- may rise.
abbrev pub CopyTold : ℕ → (Rules → Store State) → Type 0
CopyTold limit store =
    (p : Rules) (calls : List Call) (user source : ℕ) (range : KeyRange) (lent : ℕ) →
    let s = state_after store p calls in
    let c = p.writes user in
    let allowed = is_user p user && (sees p user source && flows p source c) in
    let room = room_for_rows p s c (rows_in range (s.rows source)) in
    let change = if room then respond_change limit s c else refused (NoRoom (p.capacity c)) in
    (store p).response s (lend (Copy user source range) lent) ≡ (if allowed then change else refused (NoFlow source))

-- EFFECTS. What each key maps to after a write that is done: the row's amount for its own key;
abbrev pub WriteEffect : (Rules → Store State) → Type 0
WriteEffect store =
    (p : Rules) (calls : List Call) (user : ℕ) (row : Row) (lent : ℕ) →
    let s = state_after store p calls in
    let call = lend (Write user row) lent in
    let t = (store p).step s call in
    let c = p.writes user in
    (store p).response s call ≡ done →
    OneChange s t c
    × ((k : ℕ) → amount_of k (t.rows c) ≡ (if row.key == k then Some row.amount else amount_of k (s.rows c)))

-- after a delete nothing for the key that is deleted;
abbrev pub DeleteEffect : (Rules → Store State) → Type 0
DeleteEffect store =
    (p : Rules) (calls : List Call) (user key lent : ℕ) →
    let s = state_after store p calls in
    let call = lend (Delete user key) lent in
    let t = (store p).step s call in
    let c = p.writes user in
    (store p).response s call ≡ done →
    OneChange s t c × ((k : ℕ) → amount_of k (t.rows c) ≡ (if key == k then None else amount_of k (s.rows c)))

-- after a copy, for a key of the range that the source has, what it maps to there.
abbrev pub CopyEffect : (Rules → Store State) → Type 0
CopyEffect store =
    (p : Rules) (calls : List Call) (user source : ℕ) (range : KeyRange) (lent : ℕ) →
    let s = state_after store p calls in
    let call = lend (Copy user source range) lent in
    let t = (store p).step s call in
    let c = p.writes user in
    (store p).response s call ≡ done →
    let from = s.rows source in
    OneChange s t c
    × ((k : ℕ) → amount_of k (t.rows c) ≡ (if takes range from k then amount_of k from else amount_of k (s.rows c)))

-- ONLY WRITERS. In any state nobody but its writer changes a compartment, and not by a query;
-- nobody but the asker a cache, and only by a query.
abbrev pub OnlyWriters : (Rules → Store State) → Type 0
OnlyWriters store = (p : Rules) (s : State) (call : Call) → OnlyOwn p call.request s ((store p).step s call)

-- An unknown user is refused in every state, and changes nothing.
abbrev pub AbsentUsers : (Rules → Store State) → Type 0
AbsentUsers store =
    (p : Rules) (s : State) (call : Call) → is_user p (who call.request) ≡ false →
    ((store p).response s call ≡ refused (absence call.request)) × ((store p).step s call ≡ s)

-- EITHER ORDER. Two users who write in different compartments, and neither copy nor ask: both responses
-- and the whole state are the same in either order.
abbrev pub EitherOrder : (Rules → Store State) → Type 0
EitherOrder store =
    (p : Rules) (s : State) (x y : Call) → plain x.request ≡ true → plain y.request ≡ true →
    (p.writes (who x.request) ≢ p.writes (who y.request)) →
    let after_x = (store p).step s x in
    let after_y = (store p).step s y in
    SameState ((store p).step after_x y) ((store p).step after_y x)
    × ((store p).response after_x y ≡ (store p).response s y)
    × ((store p).response after_y x ≡ (store p).response s x)

-- ORDER. After any calls every compartment is in order: its rows are sorted by key and no more than its capacity,
-- and its version is below the limit.
abbrev pub Order : ℕ → (Rules → Store State) → Type 0
Order limit store =
    (p : Rules) (calls : List Call) (c : ℕ) →
    let s = state_after store p calls in
    InOrder (p.capacity c) limit (s.rows c) (s.version c)

-- CACHES. After any calls every cache has at most eight entries, all of them well kept.
abbrev pub Caches : ℕ → (Rules → Store State) → Type 0
Caches limit store =
    (p : Rules) (calls : List Call) (user : ℕ) →
    let cache = (state_after store p calls).cache user in
    (length cache ≤ 8) × AllByRecursion (WellKept p limit user) cache

-- A STORE IS USEFUL if all of this holds of it.
pub record Useful (limit : ℕ) (store : Rules → Store State) : Type 0 where
  pub right_answers : RightAnswers store
  pub short_rows : ShortRows store
  pub not_seen : NotSeen store
  pub again : Again store
  pub write_told : WriteTold limit store
  pub delete_told : DeleteTold limit store
  pub copy_told : CopyTold limit store
  pub write_effect : WriteEffect store
  pub delete_effect : DeleteEffect store
  pub copy_effect : CopyEffect store
  pub refusals_change_nothing : RefusalsChangeNothing store
  pub only_writers : OnlyWriters store
  pub absent_users : AbsentUsers store
  pub either_order : EitherOrder store
  pub order : Order limit store
  pub caches : Caches limit store
