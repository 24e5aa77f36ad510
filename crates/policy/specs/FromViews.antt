-- A policy as views, places to write and capacities: the numbers that they stand for.
use Rattle.std.specs.Prelude.{ℕ, ◌-◌, List, [], ◌∷◌, ◌++◌, length, take, replicate}
use Rattle.std.specs.List.{flat_map}
use Rattle.policy.specs.declared.views.View.{View}

-- a user's eighteen numbers: how many compartments they see, sixteen places for these, and the one in which they write
abbrev pub view_numbers : View → List ℕ
view_numbers v = length v.sees.now ∷ (take 16 v.sees.now ++ (replicate (16 - length v.sees.now) 0 ++ v.writes ∷ []))

-- the two counts, the users' numbers, and the capacities
abbrev pub numbers_from_views : List View → List ℕ → List ℕ
numbers_from_views views capacities = length views ∷ length capacities ∷ (flat_map view_numbers views ++ capacities)
