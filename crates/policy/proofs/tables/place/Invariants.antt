-- What is placed so far lies one behind the other, and ends where the next begins.
use Rattle.std.proofs.Common.{◌≡◌, ◌*◌, ◌≤◌, ◌++◌, take, drop}
use Rattle.policy.specs.Layout.{starts_from, end_from}
use Rattle.policy.specs.Policies.{capacities_in, starts_in}
use Rattle.policy.proofs.tables.place.Given as goal

abbrev pub invariant-loop-i : goal.invariant-loop-i
invariant-loop-i l =
    (end_from l.end (drop l.i l.capacities) ≡ end_from 0 l.capacities)
    × (starts_in (take l.i l.places) ++ starts_from l.end (drop l.i l.capacities) ≡ starts_from 0 l.capacities)
    × (capacities_in (take l.i l.places) ≡ take l.i l.capacities)
    × (l.end ≤ l.i * 8194)
    × (drop l.i l.places ≡ drop l.i l.fn.places)
