-- A list in an array.
use Rattle.std.specs.Prelude.{List}

-- the items of the list, and what the array holds after them
pub record ArrayContents (X : Type 0) : Type 0 where
  pub items : List X
  pub rest : List X
