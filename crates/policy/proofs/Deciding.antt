-- No policy has more than 594 numbers: the first ones decide what is judged and read.
use Rattle.std.proofs.Common.{◌≡◌, ℕ, zero, suc, ◌+◌, ◌-◌, ◌<◌, ◌≤◌, min, Bool, ◌&&◌, leb, List, length, get_or, take, drop, Some, None, Ok, Err, Option, Result, refl, sym, ◌∙◌, inl, inr, arith}
use Rattle.std.proofs.lemmas.Bool.{cond_both, cases_lt, lt-leb, le-leb}
use Rattle.std.proofs.lemmas.Bool.Decides.{nat_tests}
use Rattle.std.proofs.lemmas.List.{get_or-take, length-take, take-take, drop-take}
use Rattle.std.proofs.lemmas.Option.{none-some}
use Rattle.std.specs.Result.{IfOk}
use Rattle.base.specs.declared.refusal.Refusal.{Refusal}
use Rattle.base.specs.declared.refusal.Refusal.TheVariants.{OutOfBounds}
use Rattle.policy.specs.Numbers.{first, places, at_fault, between, policy_fault, bad_view, users_in, compartments_in, user_at, view_in, writes_in, Fit}
use Rattle.policy.specs.Read.{ReadsPolicy, why}
use Rattle.policy.specs.declared.Policy.{Policy}
use Rattle.policy.proofs.Judging.{fit_from_none}

pub first_same : (f g : ℕ → Bool) (i n : ℕ) → ((k : ℕ) → i ≤ k → k < i + n → f k ≡ g k) → first f i n ≡ first g i n
first_same f g i zero same = refl
first_same f g i (suc n) same =
    let here = same i (omega arith) (omega arith) in
    let rest = first_same f g (i + 1) n (λ k low high. same k (omega arith) (omega arith)) in
    rw (here, rest) refl

-- a part that lies within the first ones
part_same : (n at few : ℕ) (xs : List ℕ) → at + few ≤ n → take few (drop at (take n xs)) ≡ take few (drop at xs)
part_same n at few xs h =
    let all : n ≡ at + (n - at) = omega arith in
    rw all (rw (drop-take at (n - at) xs) (take-take few (n - at) (drop at xs) (omega arith)))

end_same : (long n k : ℕ) → k < n → leb (min n long) k ≡ leb long k
end_same long n k h = elim (cases_lt k long) [
  | inl s ↦ lt-leb (min n long) k (omega arith) ∙ sym (lt-leb long k s)
  | inr s ↦ le-leb (min n long) k (omega arith) ∙ sym (le-leb long k s)
]

places_few : (xs : List ℕ) → places xs ≤ 594
places_few xs =
    cond_both (between 1 32 (users_in xs) && between 1 16 (compartments_in xs)) (user_at (users_in xs) + compartments_in xs) 2 (λ n. n ≤ 594)
    (λ e. grind (arith, nat_tests)) (λ e. omega arith)

-- the first n are as many
module _ (n : ℕ) (enough : n ≡ 594) (xs : List ℕ) where
  same_at : (k : ℕ) → k < 594 → get_or (take n xs) k 0 ≡ get_or xs k 0
  same_at k h = get_or-take n xs k 0 (omega arith)

  same_users : users_in (take n xs) ≡ users_in xs
  same_users = same_at 0 (omega arith)

  same_compartments : compartments_in (take n xs) ≡ compartments_in xs
  same_compartments = same_at 1 (omega arith)

  same_places : places (take n xs) ≡ places xs
  same_places = rw (same_users, same_compartments) refl

  same_fault : (most k : ℕ) → k < 594 → at_fault most (take n xs) k ≡ at_fault most xs k
  same_fault most k h = rw (length-take n xs, end_same (length xs) n k (omega arith), same_at k h, same_users) refl

  same_first : (most : ℕ) → first (at_fault most (take n xs)) 0 (places (take n xs)) ≡ first (at_fault most xs) 0 (places xs)
  same_first most =
      let few = places_few xs in
      rw same_places (first_same (at_fault most (take n xs)) (at_fault most xs) 0 (places xs) (λ k low high. same_fault most k (omega arith)))

  -- numbers without a fault lie within them
  module _ (fit : Fit xs) where
    same_view : (u : ℕ) → u < users_in xs → view_in (take n xs) u ≡ view_in xs u
    same_view u h =
        let few = fit.users in
        let count = fit.counts u h in
        rw (same_at (user_at u) (omega arith)) (part_same n (user_at u + 1) (get_or xs (user_at u) 0) xs (omega arith))

    same_writes : (u : ℕ) → u < users_in xs → writes_in (take n xs) u ≡ writes_in xs u
    same_writes u h = let few = fit.users in same_at (user_at u + 17) (omega arith)

    same_bad : (u : ℕ) → u < users_in xs → bad_view (take n xs) u ≡ bad_view xs u
    same_bad u h = rw (same_compartments, same_view u h, same_writes u h) refl

    same_views : first (bad_view (take n xs)) 0 (users_in (take n xs)) ≡ first (bad_view xs) 0 (users_in xs)
    same_views = rw same_users (first_same (bad_view (take n xs)) (bad_view xs) 0 (users_in xs) (λ u low high. same_bad u (omega arith)))

    same_capacities : take (compartments_in (take n xs)) (drop (user_at (users_in (take n xs))) (take n xs))
        ≡ take (compartments_in xs) (drop (user_at (users_in xs)) xs)
    same_capacities =
        let few = fit.users in
        let some = fit.compartments in
        rw (same_compartments, same_users) (part_same n (user_at (users_in xs)) (compartments_in xs) xs (omega arith))

    same_reads : (p : Policy) → ReadsPolicy (take n xs) p → ReadsPolicy xs p
    same_reads p r = record {
      users = r.users ∙ same_users;
      compartments = r.compartments ∙ same_compartments;
      contracts = λ u h.
          let says = r.contracts u h in
          let there : u < users_in xs = omega (arith, r.users, same_users) in
          record { view = says.view ∙ same_view u there; writes = says.writes ∙ same_writes u there };
      capacities = r.capacities ∙ same_capacities;
    }

  module _ (most : ℕ) (low : most ≤ 4096) where
    judged_by : (o : Option ℕ) → o ≡ first (at_fault most xs) 0 (places xs) → policy_fault most (take n xs) ≡ policy_fault most xs
    judged_by None e =
        let fit = fit_from_none most xs low (sym e) in
        rw (same_first most, same_views fit) refl
    judged_by (Some place) e = rw (same_first most, sym e) refl

    pub same_judged : policy_fault most (take n xs) ≡ policy_fault most xs
    same_judged = judged_by (first (at_fault most xs) 0 (places xs)) refl

    fit_from_judged : (o : Option ℕ) → o ≡ first (at_fault most xs) 0 (places xs) → None ≡ policy_fault most xs → Fit xs
    fit_from_judged None e none = fit_from_none most xs low (sym e)
    fit_from_judged (Some place) e none = let some : None ≡ Some (OutOfBounds place) = rw (sym e) at none in absurd (none-some _ some)

    pub same_result : (r : Result Policy Refusal) → why r ≡ policy_fault most (take n xs) → IfOk r (ReadsPolicy (take n xs)) → IfOk r (ReadsPolicy xs)
    same_result (Ok p) e reads = same_reads (fit_from_judged (first (at_fault most xs) 0 (places xs)) refl (e ∙ same_judged)) p reads
    same_result (Err refusal) e reads = reads
