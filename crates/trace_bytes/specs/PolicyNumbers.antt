-- How the numbers of a policy lie in bytes at the front of a trace.
use Rattle.std.specs.Prelude.{ℕ, ◌+◌, ◌*◌, if◌then◌else◌, ◌||◌, List, [], ◌++◌, take, drop, nat_lt, slice_index}
use Rattle.policy.specs.Numbers.{users_in, user_at}
use Rattle.trace_bytes.specs.declared.layout.Layout.{Layout}
use Rattle.trace_bytes.specs.Bytes.{numbers_in, bytes_each}

-- by how many users and compartments there are: the two counts and 18 numbers for each user are a byte each, the
-- capacity of each compartment takes two; of more than 32 users or 16 compartments only the counts are read
abbrev pub layout_by_counts : ℕ → ℕ → Layout
layout_by_counts users compartments =
    if nat_lt 32 users || nat_lt 16 compartments then record { single = 2; wide = 0; width = 2 }
    else record { single = 2 + 18 * users; wide = compartments; width = 2 }

-- the counts are the first two numbers, and the first two bytes
abbrev pub policy_layout : List ℕ → Layout
policy_layout xs = layout_by_counts (slice_index xs 0) (slice_index xs 1)

-- the policy at the front of a trace, as numbers
abbrev pub policy_of : List ℕ → List ℕ
policy_of bytes = numbers_in (policy_layout bytes) bytes

-- a slice with too few places for the largest policy takes none
abbrev pub policy_numbers : ℕ → List ℕ → List ℕ
policy_numbers places bytes = if nat_lt places 594 then [] else policy_of bytes

-- how many numbers come before the capacities; a count that is out of bounds announces nothing
abbrev pub single_numbers : List ℕ → ℕ
single_numbers ns = if nat_lt 32 (users_in ns) then 2 else user_at (users_in ns)

-- the numbers of a policy in bytes: all that there are, also those that the counts have no place for
abbrev pub policy_bytes : List ℕ → List ℕ
policy_bytes ns = bytes_each 1 (take (single_numbers ns) ns) ++ bytes_each 2 (drop (single_numbers ns) ns)
