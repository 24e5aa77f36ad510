-- When changes are done, what they change, by key in the compartment that is written, and that nothing else changes.
use Rattle.std.specs.Prelude.{◌≡◌, ◌≢◌, ℕ, suc, ◌+◌, Bool, true, false, if◌then◌else◌, ◌&&◌, ◌||◌, ◌==◌, nat_le, nat_lt}
use Rattle.std.specs.Prelude.{List, length, Some, None}
use Rattle.rows.specs.declared.Row.{Row}
use Rattle.rows.specs.declared.KeyRange.{KeyRange}
use Rattle.rows.specs.Rows.{amount_of, has_key, rows_in, also_in}
use Rattle.policy.specs.Rules.{Rules, sees, flows}
use Rattle.base.specs.declared.refusal.Refusal.{Refusal}
use Rattle.base.specs.declared.refusal.Refusal.TheVariants.{NoUser, NoFlow, NoRoom, NoRow}
use Rattle.request.specs.declared.Request.{Request}
use Rattle.request.specs.declared.Request.TheVariants.{Write, Delete, Copy, Query as Ask}
use Rattle.model.specs.Model.{State, Call, lend, done, refused, empty, who, asks, is_user}
use Rattle.model.specs.Model.{respond_change, response, step, run}

-- there is room for a row in a compartment if its key is there already, or for one row more
abbrev pub room_for_row : Rules → State → ℕ → Row → Bool
room_for_row p s c row = has_key row.key (s.rows c) || nat_lt (length (s.rows c)) (p.capacity c)

-- there is room for rows if all rows together have room, where a key that both have counts once
abbrev pub room_for_rows : Rules → State → ℕ → List Row → Bool
room_for_rows p s c new = nat_le (length (s.rows c) + length new) (p.capacity c + length (also_in new (s.rows c)))

-- WHEN IT IS DONE. A write by a user of the policy, if there is room for the row, and the version may rise;
abbrev pub WriteTold : Type 0
WriteTold =
    (p : Rules) (limit : ℕ) (calls : List Call) (user : ℕ) (row : Row) (lent : ℕ) →
    let s = run p limit empty calls in
    let c = p.writes user in
    let change = if room_for_row p s c row then respond_change limit s c else refused (NoRoom (p.capacity c)) in
    response p limit s (lend (Write user row) lent) ≡ (if is_user p user then change else refused (NoUser user))

-- a delete by a user of the policy, if a row has the key, and the version may rise;
abbrev pub DeleteTold : Type 0
DeleteTold =
    (p : Rules) (limit : ℕ) (calls : List Call) (user key lent : ℕ) →
    let s = run p limit empty calls in
    let c = p.writes user in
    let change = if has_key key (s.rows c) then respond_change limit s c else refused (NoRow key) in
    response p limit s (lend (Delete user key) lent) ≡ (if is_user p user then change else refused (NoUser user))

-- a copy by a user of the policy who sees the source, if its rows may flow, there is room for them, and the version
-- may rise.
abbrev pub CopyTold : Type 0
CopyTold =
    (p : Rules) (limit : ℕ) (calls : List Call) (user source : ℕ) (range : KeyRange) (lent : ℕ) →
    let s = run p limit empty calls in
    let c = p.writes user in
    let allowed = is_user p user && (sees p user source && flows p source c) in
    let room = room_for_rows p s c (rows_in range (s.rows source)) in
    let change = if room then respond_change limit s c else refused (NoRoom (p.capacity c)) in
    response p limit s (lend (Copy user source range) lent) ≡ (if allowed then change else refused (NoFlow source))

-- compartment c was changed once, and all else is as it was
pub record OneChange (s t : State) (c : ℕ) : Type 0 where
  pub version_here : t.version c ≡ suc (s.version c)
  pub rows_elsewhere : (d : ℕ) → (c ≢ d) → t.rows d ≡ s.rows d
  pub version_elsewhere : (d : ℕ) → (c ≢ d) → t.version d ≡ s.version d
  pub caches : (u : ℕ) → t.cache u ≡ s.cache u

-- EFFECTS. What each key maps to after a write that is done: the row's amount for its own key;
abbrev pub WriteEffect : Type 0
WriteEffect =
    (p : Rules) (limit : ℕ) (calls : List Call) (user : ℕ) (row : Row) (lent : ℕ) →
    let s = run p limit empty calls in
    let call = lend (Write user row) lent in
    let t = step p limit s call in
    let c = p.writes user in
    response p limit s call ≡ done →
    OneChange s t c
    × ((k : ℕ) → amount_of k (t.rows c) ≡ (if row.key == k then Some row.amount else amount_of k (s.rows c)))

-- after a delete, nothing for the key that is deleted;
abbrev pub DeleteEffect : Type 0
DeleteEffect =
    (p : Rules) (limit : ℕ) (calls : List Call) (user key lent : ℕ) →
    let s = run p limit empty calls in
    let call = lend (Delete user key) lent in
    let t = step p limit s call in
    let c = p.writes user in
    response p limit s call ≡ done →
    OneChange s t c
    × ((k : ℕ) → amount_of k (t.rows c) ≡ (if key == k then None else amount_of k (s.rows c)))

-- after a copy, for a key of the range that the source has, what it maps to there.
abbrev pub takes : KeyRange → List Row → ℕ → Bool
takes range source k = (nat_le range.from k && nat_le k range.to) && has_key k source

abbrev pub CopyEffect : Type 0
CopyEffect =
    (p : Rules) (limit : ℕ) (calls : List Call) (user source : ℕ) (range : KeyRange) (lent : ℕ) →
    let s = run p limit empty calls in
    let call = lend (Copy user source range) lent in
    let t = step p limit s call in
    let c = p.writes user in
    response p limit s call ≡ done →
    let from = s.rows source in
    OneChange s t c
    × ((k : ℕ) → amount_of k (t.rows c) ≡ (if takes range from k then amount_of k from else amount_of k (s.rows c)))

-- A REFUSAL CHANGES NOTHING.
abbrev pub RefusalsChangeNothing : Type 0
RefusalsChangeNothing =
    (p : Rules) (limit : ℕ) (s : State) (call : Call) (why : Refusal) →
    response p limit s call ≡ refused why → step p limit s call ≡ s

-- ONLY WRITERS. From any state s to the state t after a request r: nobody but who writes in a compartment changes its
-- rows or its version, and not by a query; nobody but who asks changes a user's cache, and only by a query.
pub record OnlyOwn (p : Rules) (r : Request) (s t : State) : Type 0 where
  pub rows : (c : ℕ) → (p.writes (who r) ≢ c) → t.rows c ≡ s.rows c
  pub version : (c : ℕ) → (p.writes (who r) ≢ c) → t.version c ≡ s.version c
  pub cache : (u : ℕ) → (who r ≢ u) → t.cache u ≡ s.cache u
  pub query_rows : asks r ≡ true → (c : ℕ) → t.rows c ≡ s.rows c
  pub query_version : asks r ≡ true → (c : ℕ) → t.version c ≡ s.version c
  pub change_cache : asks r ≡ false → (u : ℕ) → t.cache u ≡ s.cache u

abbrev pub OnlyWriters : Type 0
OnlyWriters = (p : Rules) (limit : ℕ) (s : State) (call : Call) → OnlyOwn p call.request s (step p limit s call)

-- how a request of an unknown user is refused
abbrev pub absence : Request → Refusal
absence (Write user row) = NoUser user
absence (Delete user key) = NoUser user
absence (Copy user compartment range) = NoFlow compartment
absence (Ask user query) = NoUser user

-- An unknown user is refused in every state, and changes nothing.
abbrev pub AbsentUsers : Type 0
AbsentUsers =
    (p : Rules) (limit : ℕ) (s : State) (call : Call) → is_user p (who call.request) ≡ false →
    (response p limit s call ≡ refused (absence call.request)) × (step p limit s call ≡ s)

-- a request that reads no compartment but the one that it writes in
abbrev pub plain : Request → Bool
plain (Write user row) = true
plain (Delete user key) = true
plain (Copy user compartment range) = false
plain (Ask user query) = false

pub record SameState (s t : State) : Type 0 where
  pub rows : (c : ℕ) → s.rows c ≡ t.rows c
  pub version : (c : ℕ) → s.version c ≡ t.version c
  pub cache : (u : ℕ) → s.cache u ≡ t.cache u

-- EITHER ORDER. Two users who write in different compartments, and neither copy nor ask: both responses and the whole
-- state are the same in either order.
abbrev pub EitherOrder : Type 0
EitherOrder =
    (p : Rules) (limit : ℕ) (s : State) (x y : Call) → plain x.request ≡ true → plain y.request ≡ true →
    (p.writes (who x.request) ≢ p.writes (who y.request)) →
    let after_x = step p limit s x in
    let after_y = step p limit s y in
    SameState (step p limit after_x y) (step p limit after_y x)
    × (response p limit after_x y ≡ response p limit s y)
    × (response p limit after_y x ≡ response p limit s x)
