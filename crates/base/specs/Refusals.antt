-- The number and the place of every refusal.
use Rattle.std.specs.Prelude.{ℕ, ◌+◌, List, ◌++◌, codes, decimal}
use Rattle.base.specs.declared.refusal.Refusal.{Refusal}
use Rattle.base.specs.declared.refusal.Refusal.TheVariants.{OutOfBounds, BadView, NoRequest, NoUser, NoFlow, NoRoom, NoRow, ShortRow, LastVersion}

abbrev pub number_of : Refusal → ℕ
number_of (OutOfBounds place) = 1
number_of (BadView user) = 2
number_of (NoRequest place) = 3
number_of (NoUser user) = 4
number_of (NoFlow compartment) = 4
number_of (NoRoom capacity) = 5
number_of (NoRow key) = 6
number_of (ShortRow length) = 7
number_of (LastVersion compartment) = 8

-- a compartment whose rows may not be copied comes after the 32 users
abbrev pub place_of : Refusal → ℕ
place_of (OutOfBounds place) = place
place_of (BadView user) = user
place_of (NoRequest place) = place
place_of (NoUser user) = user
place_of (NoFlow compartment) = 32 + compartment
place_of (NoRoom capacity) = capacity
place_of (NoRow key) = key
place_of (ShortRow length) = length
place_of (LastVersion compartment) = compartment

-- as it is told
abbrev pub refusal_line : Refusal → List ℕ
refusal_line r = codes "refused " ++ (decimal (number_of r) ++ (codes " at " ++ decimal (place_of r)))
