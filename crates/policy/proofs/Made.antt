-- An array that a closure made, one call after the other: each element is what its call gave.
use Rattle.std.proofs.Common.{ℕ, zero, suc, ◌+◌, ◌<◌, ◌≤◌, List, get_or, inl, inr, arith}
use Rattle.std.proofs.lemmas.Bool.{cases_eq}
use Rattle.std.specs.Array.{IsFromFnResultFrom}
use Rattle.std.specs.Fn.{Mut, Called}

module _ {F B : Type 0} (g : Mut F (ℕ × Unit {0}) B) (P : ℕ → B → Type 0) (I : F → Type 0)
    (step : (f : F) (i : ℕ) (y : B) (q : F) → Called g f (i, tt) y q → I f → P i y × I q) where
  pub made_by : (f : F) (ys : List B) (i n : ℕ) (d : B) → I f → IsFromFnResultFrom g f ys i n → (k : ℕ) → i ≤ k → k < i + n → P k (get_or ys k d)
  made_by f ys i zero d inv made k low high = absurd (omega arith)
  made_by f ys i (suc n) d inv made k low high =
      let s = step f i made.1 made.0 made.3 inv in
      elim (cases_eq k i) [
        | inl e ↦ rw (e, made.2.1 d) s.0
        | inr e ↦ made_by made.0 ys (i + 1) n d s.1 made.4 k (omega arith) (omega arith)
      ]
