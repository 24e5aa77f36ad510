-- One step of the halving, and where it ends.
use Rattle.std.proofs.Common.{◌≡◌, ℕ, zero, suc, ◌+◌, ◌-◌, ◌*◌, ◌/◌, ◌<◌, ◌≤◌, List, get_or, arith}
use Rattle.std.proofs.lemmas.Bool.Decides.{nat_tests}
use Rattle.rows.specs.Halving.{bisect}

module _ (low high : ℕ) (rows : List ℕ) (key result : ℕ) where
  -- the key in the middle is smaller: the upper half is left
  pub upper_half : (n : ℕ) → low < high → high - low ≤ n → get_or rows (2 * (low + (high - low) / 2)) 0 < key → bisect n low high rows key ≡ result
      → (m : ℕ) × (high - (low + (high - low) / 2 + 1) ≤ m) × (bisect m (low + (high - low) / 2 + 1) high rows key ≡ result)
  unfolding bisect
  upper_half zero l f g e = absurd (omega arith)
  upper_half (suc m) l f g e = (m, omega arith, grind (arith, nat_tests))

  -- else the lower one
  pub lower_half : (n : ℕ) → low < high → high - low ≤ n → key ≤ get_or rows (2 * (low + (high - low) / 2)) 0 → bisect n low high rows key ≡ result
      → (m : ℕ) × (low + (high - low) / 2 - low ≤ m) × (bisect m low (low + (high - low) / 2) rows key ≡ result)
  unfolding bisect
  lower_half zero l f g e = absurd (omega arith)
  lower_half (suc m) l f g e = (m, omega arith, grind (arith, nat_tests))

  -- nothing is left
  pub no_half : (n : ℕ) → high ≤ low → bisect n low high rows key ≡ result → low ≡ result
  unfolding bisect
  no_half zero l e = e
  no_half (suc n) l e = grind (arith, nat_tests)
