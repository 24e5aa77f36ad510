-- What is told of an input that cannot be read.
use Rattle.std.specs.Prelude.{◌≡◌, ℕ, List, codes, Option, Some, None}
use Rattle.std.specs.String.{string_bytes}
use Rattle.command_line.specs.declared.stop.Stop.{Stop}
use Rattle.command_line.specs.declared.stop.Stop.TheVariants.{Read, OutOfMemory}

abbrev pub input_name : Option (List ℕ) → List ℕ
input_name (Some name) = name
input_name None = codes "standard input"

-- a program stops since this input cannot be read, or since memory ran out
abbrev pub IsReadFailure : List ℕ → Stop → Type 0
IsReadFailure name (Read file error) = string_bytes file ≡ name
IsReadFailure name OutOfMemory = Unit {0}
IsReadFailure name _ = ⊥
