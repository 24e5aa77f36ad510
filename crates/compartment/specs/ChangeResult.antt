-- What a change returns, and what it leaves.
use Rattle.std.specs.Prelude.{ℕ, List, Ok, Err, Result}
use Rattle.base.specs.declared.refusal.Refusal.{Refusal}

-- what a change returns, and what the numbers that it was lent hold afterwards
pub record ChangeResult : Type 0 where
  pub told : Result (Unit {0}) Refusal
  pub memory : List ℕ

-- a refused change leaves them as they were
abbrev pub refused_change : List ℕ → Refusal → ChangeResult
refused_change memory refusal = record { told = Err refusal; memory = memory }

-- a change goes on with what a check hands on, or ends with its refusal
abbrev pub change_unless_refused : {A : Type 0} → List ℕ → Result A Refusal → (A → ChangeResult) → ChangeResult
change_unless_refused memory (Err refusal) next = refused_change memory refusal
change_unless_refused memory (Ok a) next = next a
