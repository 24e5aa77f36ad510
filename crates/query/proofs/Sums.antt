-- Sums over the compartments of a view.
use Rattle.std.proofs.Common.{◌≡◌, ℕ, ◌+◌, ◌*◌, ◌≤◌, true, List, [], ◌∷◌, map, length, refl, arith}
use Rattle.std.specs.List.{sum_by}
use Rattle.std.proofs.lemmas.List.Sums.{sum_by-cons}
use Rattle.policy.specs.Rules.{has}
use Rattle.query.proofs.Views.{has_head, has_tail}

pub sum_same : {X Y : Type 0} (f : X → ℕ) (g : Y → ℕ) (p : ℕ → X) (q : ℕ → Y) (cs : List ℕ) →
    ((c : ℕ) → has cs c ≡ true → f (p c) ≡ g (q c)) → sum_by f (map p cs) ≡ sum_by g (map q cs)
sum_same f g p q [] h = refl
sum_same f g p q (c ∷ cs) h =
    let i = sum_same f g p q cs (λ (d : ℕ) (k : has cs d ≡ true). h d (has_tail c d cs k)) in
    let e = h c (has_head c cs) in
    let a = sum_by-cons f (p c) (map p cs) in
    let b = sum_by-cons g (q c) (map q cs) in
    omega arith

pub sum_alike : (f g : ℕ → ℕ) (cs : List ℕ) → ((c : ℕ) → has cs c ≡ true → f c ≡ g c) → sum_by f cs ≡ sum_by g cs
sum_alike f g [] h = refl
sum_alike f g (c ∷ cs) h =
    let i = sum_alike f g cs (λ (d : ℕ) (k : has cs d ≡ true). h d (has_tail c d cs k)) in
    let e = h c (has_head c cs) in
    let a = sum_by-cons f c cs in
    let b = sum_by-cons g c cs in
    omega arith

pub sum_within : {X : Type 0} (f : X → ℕ) (g : ℕ → ℕ) (p : ℕ → X) (k : ℕ) (cs : List ℕ) →
    ((c : ℕ) → has cs c ≡ true → f (p c) ≤ k * g c) → sum_by f (map p cs) ≤ k * sum_by g cs
sum_within f g p k [] h = omega arith
sum_within f g p k (c ∷ cs) h =
    let i = sum_within f g p k cs (λ (d : ℕ) (m : has cs d ≡ true). h d (has_tail c d cs m)) in
    let e = h c (has_head c cs) in
    let a = sum_by-cons f (p c) (map p cs) in
    let b = sum_by-cons g c cs in
    let m : k * (g c + sum_by g cs) ≡ k * g c + k * sum_by g cs = grind arith in
    rw (a, b, m) (omega (arith, i, e))

pub sum_few : {X : Type 0} (f : X → ℕ) (p : ℕ → X) (most : ℕ) (cs : List ℕ) →
    ((c : ℕ) → has cs c ≡ true → f (p c) ≤ most) → sum_by f (map p cs) ≤ length cs * most
sum_few f p most [] h = omega arith
sum_few f p most (c ∷ cs) h =
    let i = sum_few f p most cs (λ (d : ℕ) (k : has cs d ≡ true). h d (has_tail c d cs k)) in
    let e = h c (has_head c cs) in
    let a = sum_by-cons f (p c) (map p cs) in
    let m : length (c ∷ cs) * most ≡ most + length cs * most = grind arith in
    rw (a, m) (omega (arith, i, e))

pub sum_map : {X : Type 0} (f : X → ℕ) (p : ℕ → X) (cs : List ℕ) → sum_by f (map p cs) ≡ sum_by (λ c. f (p c)) cs
sum_map f p [] = refl
sum_map f p (c ∷ cs) =
    let i = sum_map f p cs in
    let a = sum_by-cons f (p c) (map p cs) in
    let b = sum_by-cons (λ (d : ℕ). f (p d)) c cs in
    omega arith
