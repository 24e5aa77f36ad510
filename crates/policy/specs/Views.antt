-- What a user's contract says, and when it may stand.
use Rattle.std.specs.Prelude.{ℕ, Bool, true, not, ◌&&◌, List, [], ◌∷◌, replicate, take, nat_lt, refl}
use Rattle.std.proofs.Common.{lit≤}
use Rattle.policy.specs.Rules.{has}
use Rattle.policy.specs.declared.contract.Contract.{Contract}

-- the compartments that the user sees, in their own order
abbrev pub view_of : Contract → List ℕ
view_of c = take c.count c.view

-- and the one in which they write
abbrev pub writes_of : Contract → ℕ
writes_of c = c.writes

-- none twice, and none that isn't there
abbrev pub distinct_below : ℕ → List ℕ → Bool
distinct_below n [] = true
distinct_below n (c ∷ cs) = nat_lt c n && (not (has cs c) && distinct_below n cs)

-- and the compartment written in is among them
abbrev pub stands : ℕ → List ℕ → ℕ → Bool
stands compartments view writes = distinct_below compartments view && has view writes

abbrev pub valid : ℕ → Contract → Bool
valid compartments c = stands compartments (view_of c) (writes_of c)

-- sees nothing
abbrev pub nobody : Contract
nobody = record { count = 0; view = replicate 16 0; writes = 0; few = lit≤ tt; long = refl }
