-- Where compartments and caches lie in memory.
use Rattle.std.specs.Prelude.{ℕ, ◌+◌, ◌*◌, List, [], ◌∷◌}

-- a compartment's version, its number of rows, and its capacity of rows of two numbers
abbrev pub size : ℕ → ℕ
size capacity = 2 + 2 * capacity

-- where each compartment begins, consecutively
abbrev pub starts_from : ℕ → List ℕ → List ℕ
starts_from at [] = []
starts_from at (c ∷ cs) = at ∷ starts_from (at + size c) cs

-- where the last one ends
abbrev pub end_from : ℕ → List ℕ → ℕ
end_from at [] = at
end_from at (c ∷ cs) = end_from (at + size c) cs
