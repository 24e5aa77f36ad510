-- What is read off memory, whatever it holds, and memory as lists of calls leave it.
use Rattle.std.specs.Prelude.{◌≡◌, ℕ, ◌≤◌, List, length, take, drop, Option}
pub use Rattle.memory_query.specs.MemoryParts.{version_at}
use Rattle.memory_query.specs.MemoryParts.{part_at}
use Rattle.policy.specs.Access.{memory_length}
use Rattle.policy.specs.declared.Policy.{Policy}
use Rattle.rows.specs.Halving.{rows_of}
use Rattle.rows.specs.Rows.{amount_of}
use Rattle.rows.specs.declared.Row.{Row}
use Rattle.store.specs.Calls.{open_result}
use Rattle.store.specs.Simulation.{cache_start}
use Rattle.promises.specs.Traces.{ServeCall, AllFit, memory_after}

-- the rows of a compartment; `version_at` is how often it was changed
abbrev pub rows_at : Policy → List ℕ → ℕ → List Row
rows_at p memory c = rows_of (part_at p memory c)

-- and what a key maps to there
abbrev pub amount_at : Policy → List ℕ → ℕ → ℕ → Option ℕ
amount_at p memory c key = amount_of key (rows_at p memory c)

-- the numbers of a user's cache
abbrev pub cache_numbers : Policy → List ℕ → ℕ → List ℕ
cache_numbers p memory user = take 192 (drop (cache_start p user) memory)

-- memory that was opened, as some list of calls leaves it
pub record Reachable (p : Policy) (memory : List ℕ) : Type 0 where
  pub start : List ℕ
  pub calls : List ServeCall
  pub long : memory_length p ≤ length start
  pub fit : AllFit calls
  pub is : memory ≡ memory_after p (open_result p start).memory calls
