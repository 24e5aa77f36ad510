-- Memory that holds a state of the model, and that the calls follow the model.
use Rattle.std.specs.Prelude.{◌≡◌, ℕ, ◌+◌, ◌*◌, ◌<◌, ◌≤◌, List, length, take, drop, Err}
use Rattle.base.specs.declared.refusal.Refusal.{Refusal}
use Rattle.cache.specs.Entries.{padded_entries, OfView}
use Rattle.compartment.specs.Holding.{FitsU32s}
use Rattle.compartment.specs.Holding as compartment
use Rattle.compartment.specs.Parts.{limit}
use Rattle.memory_query.specs.Tie.{row_with}
use Rattle.model.specs.Model.{State, empty, lend, response, step}
use Rattle.policy.specs.Access.{rules_of, capacities_of, place_in, memory_length}
use Rattle.policy.specs.Layout.{end_from}
use Rattle.policy.specs.declared.Policy.{Policy}
use Rattle.request.specs.declared.Request.{Request}
use Rattle.request.specs.declared.Request.TheVariants.{Write, Delete, Copy, Query as Ask}
use Rattle.store.specs.Memory.{part}
use Rattle.store.specs.Calls.{open_result}
use Rattle.store.specs.Served.{serve_result, refusal_result, reply_of, response_in}

-- where a user's cache begins
abbrev pub cache_start : Policy → ℕ → ℕ
cache_start p u = end_from 0 (capacities_of p) + 192 * u

-- memory holds a state: each compartment its version and rows, each cache its entries and zeros behind
pub record Holds (p : Policy) (s : State) (memory : List ℕ) : Type 0 where
  pub long : memory_length p ≤ length memory
  pub compartments : (c : ℕ) → c < p.compartments →
      compartment.PartHolds ((rules_of p).capacity c) (s.version c) (s.rows c) (part (place_in p c) memory)
  pub caches : (u : ℕ) → u < p.users → take 192 (drop (cache_start p u) memory) ≡ padded_entries 8 (s.cache u)
  pub few : (u : ℕ) → length (s.cache u) ≤ 8
  pub of_view : (u : ℕ) → OfView (length ((rules_of p).view u)) (s.cache u)

-- a row that is written has key and amount below 2^32, as the code's types have them
abbrev pub FitsTypes : Request → Type 0
FitsTypes (Write user row) = FitsU32s row
FitsTypes (Delete user key) = Unit {0}
FitsTypes (Copy user c range) = Unit {0}
FitsTypes (Ask user query) = Unit {0}

-- a call returns the value of the model's response, puts its answer into the row, from which it is read again, and
-- leaves memory that holds the model's next state
pub record Serves (p : Policy) (s : State) (memory lent : List ℕ) (request : Request) : Type 0 where
  pub told : (serve_result p memory lent request).told
      ≡ reply_of (response (rules_of p) limit s (lend request (length lent)))
  pub row : (serve_result p memory lent request).row
      ≡ row_with (response (rules_of p) limit s (lend request (length lent))) lent
  pub reading : response_in (serve_result p memory lent request).told (serve_result p memory lent request).row
      ≡ response (rules_of p) limit s (lend request (length lent))
  pub holds : Holds p (step (rules_of p) limit s (lend request (length lent)))
      (serve_result p memory lent request).memory

-- ANY REQUEST FOLLOWS THE MODEL, with a row of any length, whatever it holds.
abbrev pub ServeFollows : Type 0
ServeFollows =
    (p : Policy) (s : State) (memory lent : List ℕ) (request : Request) → Holds p s memory → FitsTypes request →
    Serves p s memory lent request

-- A REFUSAL LEAVES MEMORY AND THE ANSWER ROW AS THEY WERE, whatever they hold.
abbrev pub RefusalLeaves : Type 0
RefusalLeaves =
    (p : Policy) (memory lent : List ℕ) (request : Request) (why : Refusal) →
    (serve_result p memory lent request).told ≡ Err why →
    serve_result p memory lent request ≡ refusal_result memory lent why

-- OPENED MEMORY HOLDS THE EMPTY STATE.
abbrev pub OpenHolds : Type 0
OpenHolds =
    (p : Policy) (memory : List ℕ) → memory_length p ≤ length memory → Holds p empty (open_result p memory).memory
