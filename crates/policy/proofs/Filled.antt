-- Numbers that are put into a list of fixed room, one part after the other.
use Rattle.std.proofs.Common.{◌≡◌, ℕ, zero, suc, ◌+◌, ◌-◌, ◌<◌, min, List, [], ◌∷◌, ◌++◌, length, get_or, take, drop, replicate, refl, sym, ap, ◌∙◌, append_assoc, inl, inr, arith}
use Rattle.std.proofs.lemmas.Bool.{cases_lt}
use Rattle.std.proofs.lemmas.List.{take_all, take_more, drop-replicate, length-replicate, flat_map_more}
use Rattle.std.specs.List.{flat_map}
use Rattle.policy.specs.FromViews.{view_numbers}
use Rattle.policy.specs.declared.views.View.{View}

-- what has no room is left out, however it comes
take_on : (n : ℕ) (xs ys : List ℕ) → take n (take n xs ++ ys) ≡ take n (xs ++ ys)
take_on zero xs ys = refl
take_on (suc n) [] ys = refl
take_on (suc n) (x ∷ xs) ys = ap (λ (zs : List ℕ). x ∷ zs) (take_on n xs ys)

pub put_on : (n : ℕ) (l₀ l₁ l₂ a b : List ℕ) → l₁ ≡ take n (l₀ ++ a) → l₂ ≡ take n (l₁ ++ b) → l₂ ≡ take n (l₀ ++ (a ++ b))
put_on n l₀ l₁ l₂ a b e₁ e₂ =
    e₂ ∙ (ap (λ (l : List ℕ). take n (l ++ b)) e₁ ∙ (take_on n (l₀ ++ a) b ∙ ap (λ (zs : List ℕ). take n zs) (append_assoc l₀ a b)))

-- a view takes sixteen places, whatever its length
take_fewer : (xs : List ℕ) (n : ℕ) → n ≡ min (length xs) 16 → take n xs ≡ take 16 xs
take_fewer xs n e = elim (cases_lt 16 (length xs)) [
  | inl h ↦ let all : n ≡ 16 = omega arith in ap (λ k. take k xs) all
  | inr h ↦ take_all n xs (omega arith) ∙ sym (take_all 16 xs h)
]

rest_of : (long n : ℕ) → n ≡ min long 16 → take {A = ℕ} (16 - n) (drop n (replicate 16 0)) ≡ replicate (16 - long) 0
rest_of long n e =
    let left : 16 - n ≡ 16 - long = omega arith in
    ap (λ (zs : List ℕ). take (16 - n) zs) (drop-replicate {X = ℕ} n 16 0)
    ∙ (take_all (16 - n) (replicate (16 - n) 0) (omega (arith, length-replicate {A = ℕ} (16 - n) 0)) ∙ ap (λ (k : ℕ). replicate {A = ℕ} k 0) left)

regroup : (a s r w : List ℕ) → ((a ++ s) ++ r) ++ w ≡ a ++ (s ++ (r ++ w))
regroup a s r w = simp append_assoc

module _ (view : View) (count : ℕ) (few : count ≡ min (length view.sees.now) 16) where
  pub view_filled : (n : ℕ) (l₀ l₁ l₂ l₃ l₄ : List ℕ) → l₁ ≡ take n (l₀ ++ length view.sees.now ∷ []) → l₂ ≡ take n (l₁ ++ take count view.sees.now)
      → l₃ ≡ take n (l₂ ++ take (16 - count) (drop count (replicate 16 0))) → l₄ ≡ take n (l₃ ++ view.writes ∷ []) → l₄ ≡ take n (l₀ ++ view_numbers view)
  view_filled n l₀ l₁ l₂ l₃ l₄ e₁ e₂ e₃ e₄ =
      let long = length view.sees.now in
      let one = long ∷ [] in
      let seen = take count view.sees.now in
      let rest = take {A = ℕ} (16 - count) (drop count (replicate 16 0)) in
      let last = view.writes ∷ [] in
      let four = put_on n l₀ l₃ l₄ ((one ++ seen) ++ rest) last (put_on n l₀ l₂ l₃ (one ++ seen) rest (put_on n l₀ l₁ l₂ one seen e₁ e₂) e₃) e₄ in
      let parts : ((one ++ seen) ++ rest) ++ last ≡ view_numbers view =
      regroup one seen rest last
      ∙ (ap (λ (s : List ℕ). long ∷ (s ++ (rest ++ last))) (take_fewer view.sees.now count few)
      ∙ ap (λ (r : List ℕ). long ∷ (take 16 view.sees.now ++ (r ++ last))) (rest_of long count few)) in
      four ∙ ap (λ (zs : List ℕ). take n (l₀ ++ zs)) parts

-- one view more
pub more_views : (views : List View) (i : ℕ) (d : View) (n : ℕ) (head l₁ l₂ : List ℕ) → i < length views
    → l₁ ≡ take n (head ++ flat_map view_numbers (take i views)) → l₂ ≡ take n (l₁ ++ view_numbers (get_or views i d))
    → l₂ ≡ take n (head ++ flat_map view_numbers (take (i + 1) views))
more_views views i d n head l₁ l₂ h e₁ e₂ =
    put_on n head l₁ l₂ _ _ e₁ e₂
    ∙ ap (λ (zs : List ℕ). take n (head ++ zs))
    (flat_map_more view_numbers [] (take i views) (get_or views i d) ∙ ap (λ (vs : List View). flat_map view_numbers vs) (sym (take_more views i d h)))
