-- The low bytes of a number are the first of its eight.
use Rattle.std.proofs.Common.{◌≡◌, ℕ, zero, suc, ◌*◌, ◌/◌, ◌%◌, ◌^◌, ◌≤◌, List, ◌∷◌, take, refl, sym, ap, ◌∙◌, w64, arith}
use Rattle.std.proofs.Math.Nat.{div-div-eq-div-mul}
use Rattle.std.specs.Int.{byte_at, bytes_low_first, to_le_bytes}
use Rattle.trace_bytes.specs.Bytes.{low_bytes}

byte_is : (i n : ℕ) → byte_at i n ≡ n / 256 ^ i % 256
byte_is zero n = omega arith
byte_is (suc i) n = refl

low_first : (w k i n : ℕ) → w ≤ k → take w (bytes_low_first i k n) ≡ low_bytes w (n / 256 ^ i)
low_first zero k i n h = refl
low_first (suc w) zero i n h = absurd (omega arith)
low_first (suc w) (suc k) i n h =
    let on : 256 ^ i * 256 ≡ 256 ^ suc i = omega arith in
    let next : n / 256 ^ suc i ≡ n / 256 ^ i / 256 = ap (λ (m : ℕ). n / m) (sym on) ∙ sym (div-div-eq-div-mul n (256 ^ i) 256) in
    rw (byte_is i n) (ap (λ (bs : List ℕ). n / 256 ^ i % 256 ∷ bs) (low_first w k (suc i) n (omega arith) ∙ ap (λ (m : ℕ). low_bytes w m) next))

pub low_eight : (w n : ℕ) → w ≤ 8 → take w (to_le_bytes w64 n) ≡ low_bytes w n
low_eight w n h = low_first w 8 0 n h ∙ ap (λ (m : ℕ). low_bytes w m) (omega arith)
