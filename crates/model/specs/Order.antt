-- What holds in every state that calls lead to: rows in order, and bounds that are never passed.
use Rattle.std.specs.Prelude.{◌≡◌, ℕ, ◌<◌, ◌≤◌, if◌then◌else◌, ◌&&◌, List, length}
use Rattle.std.specs.List.{AllByRecursion}
use Rattle.rows.specs.declared.Row.{Row}
use Rattle.rows.specs.Rows.{SortedByKey}
use Rattle.policy.specs.Rules.{Rules, sees}
use Rattle.query.specs.declared.Query.{Query}
use Rattle.query.specs.declared.Query.TheVariants.{Rows, Total, Shared}
use Rattle.model.specs.Model.{Call, CachedAnswer, kept_rows, kept_total, kept_shared, kept_not_seen, Entry, empty, run}

-- a compartment's rows are sorted by key and no more than its capacity, and its version is below the limit
pub record InOrder (capacity limit : ℕ) (rows : List Row) (version : ℕ) : Type 0 where
  pub rising : SortedByKey rows
  pub few : length rows ≤ capacity
  pub below : 0 < limit → version < limit

-- ORDER. After any calls every compartment is in order.
abbrev pub Order : Type 0
Order = (p : Rules) (limit : ℕ) (calls : List Call) (c : ℕ) →
    let s = run p limit empty calls in
    InOrder (p.capacity c) limit (s.rows c) (s.version c)

-- what is kept of a query is of its kind
abbrev pub OfKind : Rules → ℕ → Query → CachedAnswer → Type 0
OfKind p user (Rows range) kept = kept ≡ kept_rows
OfKind p user (Total range) kept = (count : ℕ) × (sum : ℕ) × (kept ≡ kept_total count sum)
OfKind p user (Shared a b range) kept =
    kept ≡ (if sees p user a && sees p user b then kept_shared else kept_not_seen)

-- an entry has a version for each compartment of its user's view, each below the limit, and what fits its query
pub record WellKept (p : Rules) (limit user : ℕ) (e : Entry) : Type 0 where
  pub versions : length e.versions ≡ length (p.view user)
  pub below : 0 < limit → AllByRecursion (λ n. n < limit) e.versions
  pub kind : OfKind p user e.query e.kept

-- CACHES. After any calls every cache has at most eight entries, all of them well kept.
abbrev pub Caches : Type 0
Caches = (p : Rules) (limit : ℕ) (calls : List Call) (user : ℕ) →
    let cache = (run p limit empty calls).cache user in
    (length cache ≤ 8) × AllByRecursion (WellKept p limit user) cache
