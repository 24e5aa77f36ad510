-- What a call does: what it returns, and what memory and the answer row hold afterwards.
use Rattle.std.specs.Prelude.{ℕ, List, Ok, Err, Result}
use Rattle.base.specs.declared.refusal.Refusal.{Refusal}

-- what a call returns, and what memory and the answer row hold afterwards
pub record CallResult (X : Type 0) : Type 0 where
  pub told : Result X Refusal
  pub memory : List ℕ
  pub row : List ℕ

-- a refusal leaves memory and the answer row as they were
abbrev pub refusal_result : {X : Type 0} → List ℕ → List ℕ → Refusal → CallResult X
refusal_result memory row refusal = record { told = Err refusal; memory = memory; row = row }

-- a check: the call goes on with what it hands on, or ends with its refusal
abbrev pub unless_refused : {A X : Type 0} → List ℕ → List ℕ → Result A Refusal → (A → CallResult X) → CallResult X
unless_refused memory row (Ok x) next = next x
unless_refused memory row (Err refusal) next = refusal_result memory row refusal
