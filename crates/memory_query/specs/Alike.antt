-- What a user is told depends on what they see and on their own cache, and on nothing else in memory.
use Rattle.std.specs.Prelude.{◌≡◌, ℕ, true, List, length, Some}
use Rattle.policy.specs.declared.Policy.{Policy}
use Rattle.policy.specs.Access.{rules_of, cache_at}
use Rattle.policy.specs.Rules.{sees}
use Rattle.query.specs.declared.Query.{Query}
use Rattle.memory_query.specs.CallResult.{CallResult}
use Rattle.memory_query.specs.MemoryParts.{version_at, part_at, fault_at, cache_part}
use Rattle.memory_query.specs.AskResult.{ask_result}

-- two memories are the same for a user, damaged or not
pub record SameForUser (p : Policy) (user : ℕ) (memory other : List ℕ) : Type 0 where
  pub long : length memory ≡ length other
  pub rows : (c : ℕ) → sees (rules_of p) user c ≡ true → part_at p memory c ≡ part_at p other c
  pub version : (c : ℕ) → sees (rules_of p) user c ≡ true → version_at p memory c ≡ version_at p other c
  pub bounds : (c : ℕ) → sees (rules_of p) user c ≡ true → fault_at p memory c ≡ fault_at p other c
  pub cache : (at : ℕ) → cache_at p user ≡ Some at → cache_part at memory ≡ cache_part at other

-- two results are told alike: the same is returned, and the row holds the same afterwards
pub record ToldAlike {X : Type 0} (r other : CallResult X) : Type 0 where
  pub told : r.told ≡ other.told
  pub row : r.row ≡ other.row

-- THE REST OF MEMORY DOES NOT SHOW, in what is returned or in the row, whatever it holds.
abbrev pub RestDoesNotShow : Type 0
RestDoesNotShow =
    (p : Policy) (user : ℕ) (query : Query) (memory other row : List ℕ) → SameForUser p user memory other →
    ToldAlike (ask_result p memory row user query) (ask_result p other row user query)
