-- What reading a policy gives: the rules that the numbers hold.
use Rattle.std.specs.Prelude.{◌≡◌, ℕ, ◌<◌, true, List, length, take, drop, slice_index_or}
use Rattle.policy.specs.Access.{users_of, compartments_of, contract_of, capacities_of}
use Rattle.policy.specs.Policies.{all_valid}
use Rattle.policy.specs.Views.{view_of, writes_of, nobody}
use Rattle.policy.specs.Numbers.{users_in, compartments_in, user_at, view_in, writes_in}
use Rattle.policy.specs.declared.contract.Contract.{Contract}
use Rattle.policy.specs.declared.Policy.{Policy}
-- why reading was refused, if it was
pub use Rattle.std.specs.Result.{result_err as why}

-- the contract of user u as the numbers have it
pub record Says (xs : List ℕ) (u : ℕ) (c : Contract) : Type 0 where
  pub view : view_of c ≡ view_in xs u
  pub writes : writes_of c ≡ writes_in xs u

-- the contracts of the first n users as the numbers have them
abbrev pub Say : List ℕ → ℕ → List Contract → Type 0
Say xs n contracts = (u : ℕ) → u < n → Says xs u (slice_index_or contracts u nobody)

-- contracts that the numbers hold and that may stand
pub record Stand (xs : List ℕ) (contracts : List Contract) : Type 0 where
  pub long : length contracts ≡ 32
  pub say : Say xs (users_in xs) contracts
  pub valid : all_valid (compartments_in xs) (take (users_in xs) contracts) ≡ true

-- a policy holds the rules of the numbers
pub record ReadsPolicy (xs : List ℕ) (p : Policy) : Type 0 where
  pub users : users_of p ≡ users_in xs
  pub compartments : compartments_of p ≡ compartments_in xs
  pub contracts : (u : ℕ) → u < users_of p → Says xs u (contract_of p u)
  pub capacities : capacities_of p ≡ take (compartments_in xs) (drop (user_at (users_in xs)) xs)
