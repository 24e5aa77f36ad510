-- When each request is done, what it changes in memory, and that nothing else is changed.
use Rattle.std.specs.Prelude.{◌≡◌, ℕ, suc, ◌+◌, ◌<◌, ◌≤◌, Bool, true, false, if◌then◌else◌, ◌&&◌, ◌||◌, List, [], ◌∷◌, length, take, drop, Some, None, Ok, Err, Option, Result, ◌==◌, ◌≢◌, nat_le, nat_lt}
use Rattle.compartment.specs.Holding.{FitsU32s}
use Rattle.compartment.specs.Parts.{limit}
use Rattle.model.specs.Effects.{takes, absence, plain}
use Rattle.model.specs.Model.{answered, who, asks, is_user, needed_length}
use Rattle.model.specs.Order.{InOrder}
use Rattle.policy.specs.Access.{rules_of, place_in, memory_length}
use Rattle.policy.specs.Layout.{size}
use Rattle.policy.specs.Rules.{sees, flows}
use Rattle.policy.specs.declared.Policy.{Policy}
use Rattle.base.specs.declared.refusal.Refusal.{Refusal}
use Rattle.base.specs.declared.refusal.Refusal.TheVariants.{NoUser, NoFlow, NoRoom, NoRow, ShortRow, LastVersion}
use Rattle.query.specs.Answers.{Answer, not_seen}
use Rattle.query.specs.declared.Query.{Query}
use Rattle.query.specs.declared.Query.TheVariants.{Shared}
use Rattle.request.specs.declared.Request.{Request}
use Rattle.request.specs.declared.Request.TheVariants.{Write, Delete, Copy, Query as Ask}
use Rattle.rows.specs.Rows.{amount_of, has_key, rows_in, also_in}
use Rattle.rows.specs.declared.KeyRange.{KeyRange}
use Rattle.rows.specs.declared.Row.{Row}
use Rattle.store.specs.Calls.{open_result}
use Rattle.store.specs.Served.{serve_result, refusal_result, response_in}
use Rattle.store.specs.Simulation.{FitsTypes, cache_start}
use Rattle.store.specs.declared.reply.Reply.{Reply}
use Rattle.store.specs.declared.reply.Reply.TheVariants.{Done}
use Rattle.promises.specs.Contents.{rows_at, amount_at, version_at, cache_numbers, Reachable}
use Rattle.promises.specs.Promises.{IsAnswered}
use Rattle.promises.specs.Traces.{ServeCall, AllFit, observation, memory_left, memory_after}

-- ORDER. Rows are sorted by key, each key stands once, they are no more than the capacity, and a version is below 2^40.
abbrev pub Order : Type 0
Order = (p : Policy) (memory : List ℕ) (c : ℕ) → Reachable p memory →
    InOrder ((rules_of p).capacity c) limit (rows_at p memory c) (version_at p memory c)

-- there is room for a row in a compartment if its key is there already, or for one row more
abbrev pub room_for_row : Policy → List ℕ → ℕ → Row → Bool
room_for_row p memory c row =
    has_key row.key (rows_at p memory c) || nat_lt (length (rows_at p memory c)) ((rules_of p).capacity c)

-- there is room for rows if all together have room, with a key that both have counted once
abbrev pub room_for_rows : Policy → List ℕ → ℕ → List Row → Bool
room_for_rows p memory c new =
    let rows = rows_at p memory c in
    nat_le (length rows + length new) ((rules_of p).capacity c + length (also_in new rows))

-- a compartment changes, unless its version is as high as it may be
abbrev pub unless_last : Policy → List ℕ → ℕ → Result Reply Refusal
unless_last p memory c = if nat_lt (suc (version_at p memory c)) limit then Ok Done else Err (LastVersion c)

-- WHEN IT IS DONE. A write, if its user is known, there is room for the row, and the version may rise.
abbrev pub WriteTold : Type 0
WriteTold = (p : Policy) (memory : List ℕ) (user : ℕ) (row : Row) (lent : List ℕ) →
    Reachable p memory → FitsU32s row →
    let c = (rules_of p).writes user in
    let full = Err (NoRoom ((rules_of p).capacity c)) in
    let change = if room_for_row p memory c row then unless_last p memory c else full in
    (serve_result p memory lent (Write user row)).told
    ≡ (if is_user (rules_of p) user then change else Err (NoUser user))

-- a delete, if its user is known, a row has the key, and the version may rise
abbrev pub DeleteTold : Type 0
DeleteTold = (p : Policy) (memory : List ℕ) (user key : ℕ) (lent : List ℕ) → Reachable p memory →
    let c = (rules_of p).writes user in
    let change = if has_key key (rows_at p memory c) then unless_last p memory c else Err (NoRow key) in
    (serve_result p memory lent (Delete user key)).told
    ≡ (if is_user (rules_of p) user then change else Err (NoUser user))

-- a copy, if its user is known and sees the source, its rows may flow, there is room for them, and the version may rise
abbrev pub CopyTold : Type 0
CopyTold = (p : Policy) (memory : List ℕ) (user source : ℕ) (range : KeyRange) (lent : List ℕ) → Reachable p memory →
    let c = (rules_of p).writes user in
    let allowed = is_user (rules_of p) user && (sees (rules_of p) user source && flows (rules_of p) source c) in
    let new = rows_in range (rows_at p memory source) in
    let full = Err (NoRoom ((rules_of p).capacity c)) in
    let change = if room_for_rows p memory c new then unless_last p memory c else full in
    (serve_result p memory lent (Copy user source range)).told ≡ (if allowed then change else Err (NoFlow source))

-- one compartment changes once, so that keys map to these amounts there, and all else is as it was
pub record OneChange (p : Policy) (c : ℕ) (amounts : ℕ → Option ℕ) (memory left : List ℕ) : Type 0 where
  pub amounts_here : (k : ℕ) → amount_at p left c k ≡ amounts k
  pub version_here : version_at p left c ≡ suc (version_at p memory c)
  pub rows_elsewhere : (d : ℕ) → (c ≢ d) → rows_at p left d ≡ rows_at p memory d
  pub version_elsewhere : (d : ℕ) → (c ≢ d) → version_at p left d ≡ version_at p memory d
  pub caches : (u : ℕ) → u < (rules_of p).users → cache_numbers p left u ≡ cache_numbers p memory u

-- EFFECTS. What each key maps to after a request that is done: the row's amount for its own key,
abbrev pub WriteEffect : Type 0
WriteEffect = (p : Policy) (memory : List ℕ) (user : ℕ) (row : Row) (lent : List ℕ) →
    Reachable p memory → FitsU32s row →
    let result = serve_result p memory lent (Write user row) in
    let c = (rules_of p).writes user in
    let amounts = λ (k : ℕ). if row.key == k then Some row.amount else amount_at p memory c k in
    result.told ≡ Ok Done → OneChange p c amounts memory result.memory

-- nothing for a key that is deleted,
abbrev pub DeleteEffect : Type 0
DeleteEffect = (p : Policy) (memory : List ℕ) (user key : ℕ) (lent : List ℕ) → Reachable p memory →
    let result = serve_result p memory lent (Delete user key) in
    let c = (rules_of p).writes user in
    let amounts = λ (k : ℕ). if key == k then None else amount_at p memory c k in
    result.told ≡ Ok Done → OneChange p c amounts memory result.memory

-- and for a key of the range that the source has, what it maps to there
abbrev pub CopyEffect : Type 0
CopyEffect = (p : Policy) (memory : List ℕ) (user source : ℕ) (range : KeyRange) (lent : List ℕ) → Reachable p memory →
    let result = serve_result p memory lent (Copy user source range) in
    let c = (rules_of p).writes user in
    let from = rows_at p memory source in
    let amounts = λ (k : ℕ). if takes range from k then amount_of k from else amount_at p memory c k in
    result.told ≡ Ok Done → OneChange p c amounts memory result.memory

-- A CHANGE LEAVES THE ANSWER ROW as it was, whatever memory holds; that a refusal leaves memory and row is
-- `RefusalLeaves` of store's Simulation.antt.
abbrev pub ChangesLeaveRow : Type 0
ChangesLeaveRow = (p : Policy) (memory : List ℕ) (r : Request) (lent : List ℕ) → asks r ≡ false →
    (serve_result p memory lent r).row ≡ lent

-- ONLY WRITERS. From memory to what is left after a request r: nobody but who writes in a compartment changes its rows
-- or its version, and not by a query; nobody but who asks changes the numbers of a user's cache, and only by a query.
pub record OnlyOwn (p : Policy) (r : Request) (memory left : List ℕ) : Type 0 where
  pub rows : (c : ℕ) → ((rules_of p).writes (who r) ≢ c) → rows_at p left c ≡ rows_at p memory c
  pub version : (c : ℕ) → ((rules_of p).writes (who r) ≢ c) → version_at p left c ≡ version_at p memory c
  pub cache : (u : ℕ) → u < (rules_of p).users → (who r ≢ u) → cache_numbers p left u ≡ cache_numbers p memory u
  pub query_rows : asks r ≡ true → (c : ℕ) → rows_at p left c ≡ rows_at p memory c
  pub query_version : asks r ≡ true → (c : ℕ) → version_at p left c ≡ version_at p memory c
  pub change_cache : asks r ≡ false → (u : ℕ) → u < (rules_of p).users →
      cache_numbers p left u ≡ cache_numbers p memory u

abbrev pub OnlyWriters : Type 0
OnlyWriters = (p : Policy) (memory : List ℕ) (r : Request) (lent : List ℕ) → Reachable p memory → FitsTypes r →
    OnlyOwn p r memory (serve_result p memory lent r).memory

-- AGAIN. A query that was answered, asked again at once with a row that is long enough, is answered the same, and no
-- row is examined.
abbrev pub Again : Type 0
Again = (p : Policy) (memory : List ℕ) (user : ℕ) (query : Query) (lent more : List ℕ) (a : Answer) (n : ℕ) →
    Reachable p memory → needed_length (rules_of p) user query ≤ length more →
    let first = serve_result p memory lent (Ask user query) in
    response_in first.told first.row ≡ answered a n →
    IsAnswered a 0 more (serve_result p first.memory more (Ask user query))

-- An unknown user is refused, and changes nothing.
abbrev pub AbsentUsers : Type 0
AbsentUsers = (p : Policy) (memory : List ℕ) (r : Request) (lent : List ℕ) → Reachable p memory → FitsTypes r →
    is_user (rules_of p) (who r) ≡ false → serve_result p memory lent r ≡ refusal_result memory lent (absence r)

-- A query for what two compartments share is answered 'not seen', whatever is lent, if the user doesn't see both; and
-- no row is examined.
abbrev pub NotSeen : Type 0
NotSeen = (p : Policy) (memory : List ℕ) (user a b : ℕ) (range : KeyRange) (lent : List ℕ) → Reachable p memory →
    user < (rules_of p).users → (sees (rules_of p) user a && sees (rules_of p) user b) ≡ false →
    IsAnswered not_seen 0 lent (serve_result p memory lent (Ask user (Shared a b range)))

-- With a row that is too short a query is refused, and changes nothing.
abbrev pub ShortRows : Type 0
ShortRows = (p : Policy) (memory : List ℕ) (user : ℕ) (query : Query) (lent : List ℕ) → Reachable p memory →
    user < (rules_of p).users → length lent < needed_length (rules_of p) user query →
    serve_result p memory lent (Ask user query) ≡ refusal_result memory lent (ShortRow (length lent))

-- EITHER ORDER. Two users who write in different compartments, and neither copy nor ask: what both observe and the
-- whole of memory are the same in either order.
abbrev pub EitherOrder : Type 0
EitherOrder = (p : Policy) (memory : List ℕ) (x y : ServeCall) → Reachable p memory → AllFit (x ∷ y ∷ []) →
    plain x.request ≡ true → plain y.request ≡ true →
    ((rules_of p).writes (who x.request) ≢ (rules_of p).writes (who y.request)) →
    (memory_after p memory (x ∷ y ∷ []) ≡ memory_after p memory (y ∷ x ∷ []))
    × (observation p (memory_left p memory x) y ≡ observation p memory y)
    × (observation p (memory_left p memory y) x ≡ observation p memory x)

-- memory is as it was but for n numbers from a place on
pub record ButFor (at n : ℕ) (memory left : List ℕ) : Type 0 where
  pub long : length left ≡ length memory
  pub before : take at left ≡ take at memory
  pub after : drop (at + n) left ≡ drop (at + n) memory

-- ONE PLACE. A query changes no number of memory but those of its user's cache, and any other request none but those of
-- the compartment in which its user writes.
abbrev pub OnePlace : Type 0
OnePlace = (p : Policy) (memory : List ℕ) (r : Request) (lent : List ℕ) → Reachable p memory → FitsTypes r →
    let own = place_in p ((rules_of p).writes (who r)) in
    let left = (serve_result p memory lent r).memory in
    (asks r ≡ false → ButFor own.start (size own.capacity) memory left)
    × (asks r ≡ true → ButFor (cache_start p (who r)) 192 memory left)

-- THE REST STAYS. After every list of calls memory is as long as it was, and what follows the policy's part of it is as
-- it was.
abbrev pub RestStays : Type 0
RestStays = (p : Policy) (memory : List ℕ) (calls : List ServeCall) → memory_length p ≤ length memory → AllFit calls →
    let left = memory_after p (open_result p memory).memory calls in
    (length left ≡ length memory) × (drop (memory_length p) left ≡ drop (memory_length p) memory)
