-- A compartment's part of memory, and memory with another part in its place.
use Rattle.std.specs.Prelude.{ℕ, ◌+◌, ◌-◌, ◌*◌, List, ◌++◌, take, drop}
use Rattle.compartment.specs.ChangeResult.{ChangeResult}
use Rattle.policy.specs.declared.place.Place.{Place}

-- where a compartment ends
abbrev pub end : Place → ℕ
end q = q.start + (2 + 2 * q.capacity)

abbrev pub part : Place → List ℕ → List ℕ
part q memory = take (end q - q.start) (drop q.start memory)

abbrev pub with_part : Place → List ℕ → List ℕ → List ℕ
with_part q new memory = take q.start memory ++ (new ++ drop (end q - q.start) (drop q.start memory))

-- a change of a compartment's part, as a change of memory
abbrev pub change_at : Place → List ℕ → ChangeResult → ChangeResult
change_at q memory change = record { told = change.told; memory = with_part q change.memory memory }
