-- What a query leaves as it was.
use Rattle.std.specs.Prelude.{◌≡◌, ℕ, List}
use Rattle.policy.specs.declared.Policy.{Policy}
use Rattle.query.specs.declared.Query.{Query}
use Rattle.memory_query.specs.MemoryParts.{version_at, part_at, fault_at}
use Rattle.memory_query.specs.AskResult.{ask_result}

-- a compartment is the same in two memories
pub record SameCompartment (p : Policy) (c : ℕ) (memory other : List ℕ) : Type 0 where
  pub rows : part_at p memory c ≡ part_at p other c
  pub version : version_at p memory c ≡ version_at p other c
  pub bounds : fault_at p memory c ≡ fault_at p other c

-- A QUERY CHANGES NO COMPARTMENT, whatever memory holds.
abbrev pub CompartmentsStay : Type 0
CompartmentsStay = (p : Policy) (c user : ℕ) (query : Query) (memory row : List ℕ) →
    SameCompartment p c (ask_result p memory row user query).memory memory
