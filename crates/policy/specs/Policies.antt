-- What a policy's fields say, and how its tables follow from them.
use Rattle.std.specs.Prelude.{ℕ, Bool, not, ◌||◌, List, [], map, length, get_or, nat_le, slice_index, slice_index_or}
use Rattle.policy.specs.Rules.{Rules, has, flows}
use Rattle.policy.specs.Views.{view_of, valid, nobody}
use Rattle.policy.specs.declared.contract.Contract.{Contract}
use Rattle.policy.specs.declared.place.Place.{Place}
use Rattle.std.specs.List.{list_all, range_with_len}

abbrev pub rules_from : ℕ → List Contract → List ℕ → Rules
rules_from users contracts capacities = record {
  users = users;
  view = λ u. view_of (slice_index_or contracts u nobody);
  writes = λ u. (get_or contracts u nobody).writes;
  capacity = λ c. slice_index capacities c;
}

-- this user sees a if they see b
abbrev pub lets : ℕ → ℕ → Contract → Bool
lets a b c = not (has (view_of c) b) || has (view_of c) a

-- row a, column b: may rows flow from a to b?
abbrev pub flow_row : List Contract → ℕ → List Bool
flow_row contracts a = map (flows (rules_from (length contracts) contracts []) a) (range_with_len 0 16)

abbrev pub flow_table : List Contract → List (List Bool)
flow_table contracts = map (flow_row contracts) (range_with_len 0 16)

-- where compartments begin, and how many rows they may hold
abbrev pub starts_in : List Place → List ℕ
starts_in places = map (λ q. q.start) places

abbrev pub capacities_in : List Place → List ℕ
capacities_in places = map (λ q. q.capacity) places

abbrev pub all_within : ℕ → List ℕ → Bool
all_within most = list_all (λ c. nat_le c most)

abbrev pub all_valid : ℕ → List Contract → Bool
all_valid compartments = list_all (valid compartments)
