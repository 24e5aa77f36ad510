-- What a policy answers: its rules, and where compartments and caches lie.
use Rattle.std.specs.Prelude.{ℕ, ◌+◌, ◌*◌, ◌≤◌, Bool, if◌then◌else◌, ◌&&◌, List, length, take, Some, None, Ok, Err, Option, Result, nat_lt, slice_index, slice_index_or}
use Rattle.policy.specs.Layout.{size, starts_from, end_from}
use Rattle.policy.specs.Policies.{rules_from, capacities_in}
use Rattle.policy.specs.Rules.{Rules, sees, flows}
use Rattle.policy.specs.Views.{nobody}
use Rattle.policy.specs.declared.contract.Contract.{Contract}
use Rattle.policy.specs.declared.place.Place.{Place}
use Rattle.policy.specs.declared.place.Written.{Written}
use Rattle.policy.specs.declared.Policy.{Policy}
use Rattle.base.specs.declared.refusal.Refusal.{Refusal}
use Rattle.base.specs.declared.refusal.Refusal.TheVariants.{OutOfBounds}

-- how many users and compartments there are
abbrev pub users_of : Policy → ℕ
users_of p = p.users

abbrev pub compartments_of : Policy → ℕ
compartments_of p = p.compartments

-- the contracts of those who are there
abbrev pub contracts_of : Policy → List Contract
contracts_of p = take (users_of p) p.contracts

-- and the places of the compartments that are
abbrev pub places_of : Policy → List Place
places_of p = take (compartments_of p) p.places

-- how many rows each of these may hold
abbrev pub capacities_of : Policy → List ℕ
capacities_of p = capacities_in (places_of p)

-- a policy as rules: plain numbers and lists
abbrev pub rules_of : Policy → Rules
rules_of p = rules_from (users_of p) (contracts_of p) (capacities_of p)

-- the contract of a user
abbrev pub contract_of : Policy → ℕ → Contract
contract_of p u = slice_index_or p.contracts u nobody

-- if they are there
abbrev pub contract_at : Policy → ℕ → Option Contract
contract_at p u = if nat_lt u (users_of p) then Some (contract_of p u) else None

-- rows may flow between compartments that are there
abbrev pub may_flow : Policy → ℕ → ℕ → Bool
may_flow p a b = nat_lt a (compartments_of p) && (nat_lt b (compartments_of p) && flows (rules_of p) a b)

-- the user is there and sees the compartment
abbrev pub may_see : Rules → ℕ → ℕ → Bool
may_see p u c = nat_lt u p.users && sees p u c

-- and its rows may flow to where the user writes
abbrev pub may_copy : Rules → ℕ → ℕ → Bool
may_copy p u c = nat_lt u p.users && (sees p u c && flows p c (p.writes u))

-- compartments lie consecutively, from 0 on
abbrev pub place_in : Policy → ℕ → Place
place_in p c = record {
  start = slice_index (starts_from 0 (capacities_of p)) c;
  capacity = slice_index (capacities_of p) c;
}

-- where a compartment that is there lies
abbrev pub place_at : Policy → ℕ → Option Place
place_at p c = if nat_lt c (compartments_of p) then Some (place_in p c) else None

-- the compartment in which a user writes
abbrev pub write_target : Policy → ℕ → Written
write_target p u = record { compartment = (rules_of p).writes u; place = place_in p ((rules_of p).writes u) }

-- if they are there
abbrev pub write_target_at : Policy → ℕ → Option Written
write_target_at p u = if nat_lt u (users_of p) then Some (write_target p u) else None

-- after the compartments each user has eight cache places of 24 numbers
abbrev pub cache_at : Policy → ℕ → Option ℕ
cache_at p u = if nat_lt u (users_of p) then Some (end_from 0 (capacities_of p) + 192 * u) else None

-- how long memory must be: it ends after the caches of all users
abbrev pub memory_length : Policy → ℕ
memory_length p = end_from 0 (capacities_of p) + 192 * users_of p

-- memory that is too short is refused
abbrev pub length_told : Policy → List ℕ → Result (Unit {0}) Refusal
length_told p memory =
    if nat_lt (length memory) (memory_length p) then Err (OutOfBounds (length memory)) else Ok tt

-- a place lies within the memory that a policy asks for
abbrev pub Inside : Policy → Place → Type 0
Inside p q = q.start + size q.capacity ≤ memory_length p
