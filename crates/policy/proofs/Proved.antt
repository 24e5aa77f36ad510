-- Proofs of the laws of policies.
use Rattle.std.proofs.Common.{◌≡◌, ℕ, zero, suc, ◌+◌, ◌<◌, ◌≤◌, ◌⊎◌, Bool, true, false, not, ◌&&◌, ◌||◌, eqb, ltb, List, [], ◌∷◌, length, get_or, take, drop, Some, None, Decides, Option, sym, refl, ◌∙◌, inl, inr, le_of_suc-le-suc, not-suc-le-zero, arith}
use Rattle.std.proofs.lemmas.List.{get_or-take, get_or-drop, length-take-le, length-map}
use Rattle.std.proofs.lemmas.Bool.{and_parts, cases_Bool, ltb-true, or_parts, or_cases, eqb-true, eqb-false, not-true, both_ways}
use Rattle.std.proofs.lemmas.Bool.Decides.{Decides-below_and}
use Rattle.std.proofs.lemmas.Option.{none-some}
use Rattle.std.specs.Option.{option_map}
use Rattle.policy.specs.Access.{users_of, compartments_of, contracts_of, rules_of, capacities_of, contract_at, place_in, Inside}
use Rattle.policy.specs.Layout.{size, starts_from, end_from}
use Rattle.policy.specs.Laws.{PoliciesRefusedLowest, PoliciesValid, ReadsRules, FlowsBothWays, FlowsDown, CompartmentsApart}
use Rattle.policy.specs.Numbers.{first, at_fault, places, bad_view, users_in, compartments_in, user_at, or_else}
use Rattle.policy.specs.Rules.{has, sees, all_see}
use Rattle.policy.specs.Views.{view_of, writes_of, distinct_below, valid, nobody}
use Rattle.policy.specs.declared.Policy.{Policy}
use Rattle.base.specs.declared.refusal.Refusal.{Refusal}
use Rattle.base.specs.declared.refusal.Refusal.TheVariants.{OutOfBounds, BadView}
use Rattle.policy.specs.declared.contract.Contract.{Contract}
use Rattle.policy.proofs.Judging.{first_none, first_some}
use Rattle.policy.proofs.Steps.{all_at, within_at}

-- which of the two judgements refused
by_place : (o v : Option ℕ) (p : ℕ) → or_else (option_map (λ q. OutOfBounds q) o) (option_map (λ u. BadView u) v) ≡ Some (OutOfBounds p) → o ≡ Some p
by_place None None p e = cc
by_place None (Some u) p e = cc
by_place (Some q) v p e = cc

by_user : (o v : Option ℕ) (u : ℕ) → or_else (option_map (λ q. OutOfBounds q) o) (option_map (λ w. BadView w) v) ≡ Some (BadView u) → (o ≡ None) × (v ≡ Some u)
by_user None None u e = (refl, cc)
by_user None (Some w) u e = (refl, cc)
by_user (Some q) v u e = (cc, cc)

by_none : (o v : Option ℕ) → or_else (option_map (λ q. OutOfBounds q) o) (option_map (λ w. BadView w) v) ≡ None → (o ≡ None) × (v ≡ None)
by_none None None e = (refl, refl)
by_none None (Some w) e = (refl, cc)
by_none (Some q) v e = (cc, cc)

by_either : (o v : Option ℕ) (r : Refusal) → or_else (option_map (λ q. OutOfBounds q) o) (option_map (λ w. BadView w) v) ≡ Some r →
    ((p : ℕ) × (r ≡ OutOfBounds p)) ⊎ ((u : ℕ) × (r ≡ BadView u))
by_either None None r e = cc
by_either None (Some u) r e = inr (u, cc)
by_either (Some p) v r e = inl (p, cc)

pub judged_lowest : PoliciesRefusedLowest
judged_lowest most xs =
    let f = first (at_fault most xs) 0 (places xs) in
    let v = first (bad_view xs) 0 (users_in xs) in (
      (λ p e. let s = first_some (at_fault most xs) 0 (places xs) p (by_place f v p e) in (omega (arith, s.1), s.2, λ k h. s.3 k (omega arith) h)),
      (λ u e.
          let b = by_user f v u e in
          let s = first_some (bad_view xs) 0 (users_in xs) u b.1 in
          ((λ k h. first_none (at_fault most xs) 0 (places xs) b.0 k (omega arith) (omega arith)), omega (arith, s.1), s.2, λ k h. s.3 k (omega arith) h)),
      (λ e.
          let b = by_none f v e in
          ((λ k h. first_none (at_fault most xs) 0 (places xs) b.0 k (omega arith) (omega arith)), λ u h. first_none (bad_view xs) 0 (users_in xs) b.1 u (omega arith) (omega arith))),
      by_either f v,
    )

distinct_there : (n : ℕ) (xs : List ℕ) → distinct_below n xs ≡ true → (i : ℕ) → i < length xs → get_or xs i 0 < n
distinct_there n [] e i h = absurd (not-suc-le-zero h)
distinct_there n (x ∷ xs) e zero h = ltb-true x n (and_parts (ltb x n) _ e).0
distinct_there n (x ∷ xs) e (suc i) h =
    distinct_there n xs (and_parts (not (has xs x)) (distinct_below n xs) (and_parts (ltb x n) _ e).1).1 i (le_of_suc-le-suc h)

-- what a list lacks stands nowhere in it
pub lacks : (xs : List ℕ) (c : ℕ) → has xs c ≡ false → (i : ℕ) → i < length xs → get_or xs i 0 ≡ c → ⊥
lacks [] c e i h = absurd (not-suc-le-zero h)
lacks (x ∷ xs) c e zero h = eqb-false x c (or_parts (eqb x c) (has xs c) e).0
lacks (x ∷ xs) c e (suc i) h = lacks xs c (or_parts (eqb x c) (has xs c) e).1 i (le_of_suc-le-suc h)

distinct_once : (n : ℕ) (xs : List ℕ) → distinct_below n xs ≡ true → (i j : ℕ) → i < j → j < length xs → get_or xs i 0 ≡ get_or xs j 0 → ⊥
distinct_once n [] e i j l h = absurd (not-suc-le-zero h)
distinct_once n (x ∷ xs) e i zero l h = absurd (not-suc-le-zero l)
distinct_once n (x ∷ xs) e zero (suc j) l h =
    λ s. lacks xs x (not-true (has xs x) (and_parts (not (has xs x)) (distinct_below n xs) (and_parts (ltb x n) _ e).1).0) j (le_of_suc-le-suc h) (sym s)
distinct_once n (x ∷ xs) e (suc i) (suc j) l h =
    distinct_once n xs (and_parts (not (has xs x)) (distinct_below n xs) (and_parts (ltb x n) _ e).1).1 i j (le_of_suc-le-suc l) (le_of_suc-le-suc h)

-- each compartment has a capacity
pub capacities_long : (p : Policy) → length (capacities_of p) ≡ p.compartments
capacities_long p = rw length-map (length-take-le p.compartments p.places (omega arith))

pub policies_valid : PoliciesValid
policies_valid p =
    let cs = take p.users p.contracts in
    let n = p.compartments in
    let stands = λ (u : ℕ) (h : u < p.users). and_parts (distinct_below n (view_of (get_or cs u nobody))) _ (all_at (valid n) nobody cs u (omega (arith, length-take-le p.users p.contracts (omega arith))) p.valid) in
    record {
      sound = λ u h. (stands u h).1;
      there = λ u i h. distinct_there n (view_of (get_or cs u nobody)) (stands u h).0 i;
      once = λ u i j h. distinct_once n (view_of (get_or cs u nobody)) (stands u h).0 i j;
      bounded = λ c h. within_at 4096 (capacities_of p) c (omega (arith, capacities_long p)) p.bounded;
    }

has_below : (n c : ℕ) (xs : List ℕ) → distinct_below n xs ≡ true → has xs c ≡ true → c < n
has_below n c [] e h = absurd (both_ways false refl h)
has_below n c (x ∷ xs) e h =
    let below = and_parts (ltb x n) (not (has xs x) && distinct_below n xs) e in
    elim (or_cases (eqb x c) (has xs c) h) [
      | inl s ↦ omega (arith, eqb-true x c s, ltb-true x n below.0)
      | inr s ↦ has_below n c xs (and_parts (not (has xs x)) (distinct_below n xs) below.1).1 s
    ]

-- a compartment that somebody sees is there, and so is the one in which they write
pub seen_there : (p : Policy) (u c : ℕ) → u < p.users → sees (rules_of p) u c ≡ true → c < p.compartments
seen_there p u c h s =
    let cs = take p.users p.contracts in
    let stands = all_at (valid p.compartments) nobody cs u (omega (arith, length-take-le p.users p.contracts (omega arith))) p.valid in
    has_below p.compartments c (view_of (get_or cs u nobody)) (and_parts (distinct_below p.compartments (view_of (get_or cs u nobody))) _ stands).0 s

pub written_there : (p : Policy) (u : ℕ) → u < p.users → (rules_of p).writes u < p.compartments
written_there p u h = seen_there p u ((rules_of p).writes u) h ((policies_valid p).sound u h)

-- a contract that was found is the user's
pub contract_found : (p : Policy) (u : ℕ) (k : Contract) → Some k ≡ contract_at p u → (u < p.users) × (k ≡ get_or (take p.users p.contracts) u nobody)
contract_found p u k e =
    elim (cases_Bool (ltb u p.users)) [
      | inl t ↦
          let h = ltb-true u p.users t in
          let found : Some k ≡ Some (get_or p.contracts u nobody) = rw t at e in
          let same : k ≡ get_or p.contracts u nobody = cc in (h, same ∙ sym (get_or-take p.users p.contracts u nobody h))
      | inr f ↦ let none : Some k ≡ None = rw f at e in absurd (none-some k (sym none))
    ]

pub reads_rules : ReadsRules
reads_rules xs p r =
    let cs = p.contracts in
    record {
      users = r.users;
      view = λ u h. rw (get_or-take p.users cs u nobody h) (r.contracts u h).view;
      writes = λ u h. rw (get_or-take p.users cs u nobody h) (r.contracts u h).writes;
      capacity = λ c h. rw (r.capacities, get_or-take (compartments_in xs) (drop (user_at (users_in xs)) xs) c 0 h) (get_or-drop (user_at (users_in xs)) xs c 0);
    }

implies : (x y : Bool) → Decides (not x || y) (x ≡ true → y ≡ true)
implies true true = (λ _ _. refl, λ _. refl)
implies true false = (λ e. absurd cc, λ f. f refl)
implies false y = (λ _ e. cc, λ _. refl)

pub flows_both_ways : FlowsBothWays
flows_both_ways p a b =
    Decides-below_and (λ u. not (sees p u b) || sees p u a) (λ u. sees p u b ≡ true → sees p u a ≡ true) (all_see p a b)
    (λ u. implies (sees p u b) (sees p u a)) refl (λ _. refl) p.users

pub flows_down : FlowsDown
flows_down p a b c = (
  (flows_both_ways p a a).1 (λ u h e. e),
  λ ab bc. (flows_both_ways p a c).1 (λ u h e. (flows_both_ways p a b).0 ab u h ((flows_both_ways p b c).0 bc u h e)),
)

grows : (at : ℕ) (cs : List ℕ) → at ≤ end_from at cs
grows at [] = omega arith
grows at (c ∷ cs) = omega (arith, grows (at + size c) cs)

within_end : (at : ℕ) (cs : List ℕ) (d : ℕ) → d < length cs →
    (at ≤ get_or (starts_from at cs) d 0) × (get_or (starts_from at cs) d 0 + size (get_or cs d 0) ≤ end_from at cs)
within_end at [] d h = absurd (not-suc-le-zero h)
within_end at (c ∷ cs) zero h = (omega arith, grows (at + size c) cs)
within_end at (c ∷ cs) (suc d) h = let r = within_end (at + size c) cs d (le_of_suc-le-suc h) in (omega (arith, r.0), r.1)

apart : (at : ℕ) (cs : List ℕ) (c d : ℕ) → c < d → d < length cs → get_or (starts_from at cs) c 0 + size (get_or cs c 0) ≤ get_or (starts_from at cs) d 0
apart at [] c d l h = absurd (not-suc-le-zero h)
apart at (x ∷ cs) c zero l h = absurd (not-suc-le-zero l)
apart at (x ∷ cs) zero (suc d) l h = (within_end (at + size x) cs d (le_of_suc-le-suc h)).0
apart at (x ∷ cs) (suc c) (suc d) l h = apart (at + size x) cs c d (le_of_suc-le-suc l) (le_of_suc-le-suc h)

pub compartments_apart : CompartmentsApart
compartments_apart p d h =
    let cs = capacities_of p in
    let k : d < length cs = omega (arith, capacities_long p) in
    ((within_end 0 cs d k).1, λ c l. apart 0 cs c d l k)

-- a compartment lies within the memory that the policy asks for
pub place_inside : (p : Policy) (c : ℕ) → c < p.compartments → Inside p (place_in p c)
place_inside p c h = omega (arith, (compartments_apart p c h).0)

-- where a contract's user writes there is a compartment
pub written_found : (p : Policy) (u : ℕ) (k : Contract) → Some k ≡ contract_at p u
    → (u < users_of p) × (k ≡ get_or (contracts_of p) u nobody) × (writes_of k < compartments_of p)
written_found p u k e = let found = contract_found p u k e in (found.0, found.1, rw found.1 (written_there p u found.0))
