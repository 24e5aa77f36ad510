-- Contracts that were read say what the numbers say: they are judged alike, and fit the tables.
use Rattle.std.proofs.Common.{◌≡◌, ℕ, ◌+◌, ◌<◌, ◌≤◌, true, not, leb, List, length, get_or, take, drop, None, Option, position, sym, refl, ap, ◌∙◌, arith}
use Rattle.std.proofs.lemmas.Iterator.Adapters.{position_from-zero}
use Rattle.std.proofs.lemmas.List.{get_or-take, get_or-drop, length-take, length-drop, length-take-le}
use Rattle.std.proofs.lemmas.Bool.{not-false, le-leb}
use Rattle.policy.specs.Numbers.{first, bad_view, users_in, compartments_in, user_at, Fit}
use Rattle.policy.specs.Policies.{all_valid, all_within}
use Rattle.policy.specs.Read.{Says, Say}
use Rattle.policy.specs.Views.{valid, nobody}
use Rattle.policy.specs.declared.contract.Contract.{Contract}
use Rattle.policy.proofs.Judging.{first_none, position_first}
use Rattle.policy.proofs.Steps.{all_from}

valid_says : (xs : List ℕ) (u : ℕ) (c : Contract) → Says xs u c → not (valid (compartments_in xs) c) ≡ bad_view xs u
valid_says xs u c says = rw (says.view, says.writes) refl

module _ (xs : List ℕ) (cs : List Contract) (long : users_in xs ≤ length cs) (say : Say xs (users_in xs) cs) where
  judged_alike : (k : ℕ) → k < users_in xs → not (valid (compartments_in xs) (get_or (take (users_in xs) cs) k nobody)) ≡ bad_view xs k
  judged_alike k h = rw (get_or-take (users_in xs) cs k nobody h) (valid_says xs k (get_or cs k nobody) (say k h))

  pub views_alike : position (λ c. not (valid (compartments_in xs) c)) (take (users_in xs) cs) ≡ first (bad_view xs) 0 (users_in xs)
  views_alike =
      let n = length-take-le (users_in xs) cs long in
      position_from-zero _ (take (users_in xs) cs)
      ∙ position_first _ nobody (bad_view xs) 0 (take (users_in xs) cs) (λ k h. let on : 0 + k ≡ k = omega arith in rw on (sym (judged_alike k (omega (arith, n)))))
      ∙ ap (first (bad_view xs) 0) n

  -- the same of what was found with the two counts at hand
  pub views_by : (o : Option ℕ) (u n : ℕ) → u ≡ users_in xs → n ≡ compartments_in xs → o ≡ position (λ c. not (valid n c)) (take u cs) → o ≡ first (bad_view xs) 0 (users_in xs)
  views_by o u n users compartments found = rw (users, compartments) at found ∙ views_alike

  pub all_stand : first (bad_view xs) 0 (users_in xs) ≡ None → all_valid (compartments_in xs) (take (users_in xs) cs) ≡ true
  all_stand none =
      all_from (valid (compartments_in xs)) nobody (take (users_in xs) cs)
      (λ i h. let k : i < users_in xs = omega (arith, length-take-le (users_in xs) cs long) in
      not-false _ (judged_alike i k ∙ first_none (bad_view xs) 0 (users_in xs) none i (omega arith) (omega arith)))

-- the capacities that were read are bounded
pub capacities_within : (xs : List ℕ) → Fit xs →
    all_within 4096 (take (compartments_in xs) (drop (user_at (users_in xs)) xs)) ≡ true
capacities_within xs fit =
    let ys = take (compartments_in xs) (drop (user_at (users_in xs)) xs) in
    all_from (λ c. leb c 4096) 0 ys
    (λ i h. let k : i < compartments_in xs = omega (arith, simp (length-take, length-drop) at h) in
    rw (get_or-take (compartments_in xs) (drop (user_at (users_in xs)) xs) i 0 k, get_or-drop (user_at (users_in xs)) xs i 0) (le-leb _ _ (fit.capacities i k)))

-- they are as many as there are compartments
pub capacities_taken : (xs : List ℕ) → Fit xs → length (take (compartments_in xs) (drop (user_at (users_in xs)) xs)) ≡ compartments_in xs
capacities_taken xs fit = let long = fit.long in simp (length-take, length-drop) (omega arith)
