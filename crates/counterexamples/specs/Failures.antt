-- What it means that a statement fails of a store.
use Rattle.std.specs.Prelude.{◌≡◌}

-- A STATEMENT FAILS of a store: what is seen there is one thing, and would be another if the statement held.
pub record Fails {A : Type 0} (Statement : Type 0) (seen is due : A) : Type 0 where
  pub is_so : seen ≡ is
  pub would_be : Statement → seen ≡ due
  pub differ : is ≡ due → ⊥
  pub fails : Statement → ⊥
