-- The counts and the views so far are put in, as far as there is room.
use Rattle.std.proofs.Common.{◌≡◌, ◌∷◌, take, length}
use Rattle.std.specs.List.{flat_map}
use Rattle.policy.specs.FromViews.{view_numbers}
use Rattle.policy.proofs.views.numbers_from.Given as goal

abbrev pub invariant-loop-view : goal.invariant-loop-view
invariant-loop-view l =
    l.numbers.items ≡ take 594 (length l.views ∷ length l.capacities ∷ flat_map view_numbers (take l.view-index l.views))
