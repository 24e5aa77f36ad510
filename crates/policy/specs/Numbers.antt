-- A policy in numbers: how many users and compartments there are; for each user eighteen numbers, how many
-- compartments they see, sixteen places for them, and the one in which they write; and for each compartment its
-- capacity.
use Rattle.std.specs.Prelude.{ℕ, ◌+◌, ◌-◌, ◌*◌, ◌%◌, ◌<◌, ◌≤◌, Bool, true, if◌then◌else◌, not, ◌&&◌, ◌||◌, List, length, take, drop, Some, None, Option, ◌==◌, nat_le, nat_lt, slice_index}
use Rattle.policy.specs.Rules.{Rules}
use Rattle.policy.specs.Views.{stands}
use Rattle.base.specs.declared.refusal.Refusal.{Refusal}
use Rattle.base.specs.declared.refusal.Refusal.TheVariants.{OutOfBounds, BadView}
use Rattle.std.specs.List.{find, range_with_len}
use Rattle.std.specs.Option.{option_map}
pub use Rattle.std.specs.Option.{option_or as or_else}

abbrev pub users_in : List ℕ → ℕ
users_in xs = slice_index xs 0

abbrev pub compartments_in : List ℕ → ℕ
compartments_in xs = slice_index xs 1

-- where a user's eighteen numbers begin, and after the last user's the capacities
abbrev pub user_at : ℕ → ℕ
user_at u = 2 + 18 * u

abbrev pub view_in : List ℕ → ℕ → List ℕ
view_in xs u = take (slice_index xs (user_at u)) (drop (user_at u + 1) xs)

abbrev pub writes_in : List ℕ → ℕ → ℕ
writes_in xs u = slice_index xs (user_at u + 17)

abbrev pub rules_in : List ℕ → Rules
rules_in xs = record {
  users = users_in xs;
  view = view_in xs;
  writes = writes_in xs;
  capacity = λ c. slice_index xs (user_at (users_in xs) + c);
}

abbrev pub between : ℕ → ℕ → ℕ → Bool
between low high n = nat_le low n && nat_le n high

-- a count at a place, if there is one from 1 to the highest
abbrev pub count_at : List ℕ → ℕ → ℕ → Option ℕ
count_at xs place high =
    if nat_lt place (length xs) && between 1 high (slice_index xs place) then Some (slice_index xs place) else None

-- the bounds of the counts and of the capacities, by place; no other number has any
abbrev pub within : ℕ → ℕ → ℕ → ℕ → Bool
within most users place n =
    if place == 0 then between 1 32 n
    else if place == 1 then between 1 16 n
    else if nat_le (user_at users) place then between 1 most n
    else if (place - 2) % 18 == 0 then between 1 16 n else true

-- a number is at fault if it is missing or out of bounds
abbrev pub at_fault : ℕ → List ℕ → ℕ → Bool
at_fault most xs place = nat_le (length xs) place || not (within most (users_in xs) place (slice_index xs place))

-- how many numbers there should be; where a count is out of bounds, nobody can say more than these two
abbrev pub places : List ℕ → ℕ
places xs =
    if between 1 32 (users_in xs) && between 1 16 (compartments_in xs) then user_at (users_in xs) + compartments_in xs
    else 2

-- the first of the n places from i on at which a test holds
abbrev pub first : (ℕ → Bool) → ℕ → ℕ → Option ℕ
first test i n = find test (range_with_len i n)

-- sees a compartment twice or one that isn't there, or doesn't see the one in which they write
abbrev pub bad_view : List ℕ → ℕ → Bool
bad_view xs u = not (stands (compartments_in xs) (view_in xs u) (writes_in xs u))

-- why numbers are refused: the lowest place at fault; or the lowest user with a bad view
abbrev pub place_fault : ℕ → List ℕ → Option Refusal
place_fault most xs = option_map (λ place. OutOfBounds place) (first (at_fault most xs) 0 (places xs))

abbrev pub view_fault : List ℕ → Option Refusal
view_fault xs = option_map (λ user. BadView user) (first (bad_view xs) 0 (users_in xs))

-- why a policy is refused, if it is
abbrev pub policy_fault : ℕ → List ℕ → Option Refusal
policy_fault most xs = or_else (place_fault most xs) (view_fault xs)

-- numbers without a fault: as many as the counts announce, and all counts within their bounds
pub record Fit (xs : List ℕ) : Type 0 where
  pub users : users_in xs ≤ 32
  pub compartments : compartments_in xs ≤ 16
  pub long : user_at (users_in xs) + compartments_in xs ≤ length xs
  pub counts : (u : ℕ) → u < users_in xs → slice_index xs (user_at u) ≤ 16
  pub capacities : (c : ℕ) → c < compartments_in xs → slice_index xs (user_at (users_in xs) + c) ≤ 4096
