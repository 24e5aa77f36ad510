-- What a policy promises, in the words of its subject.
use Rattle.std.specs.Prelude.{◌≡◌, ℕ, ◌+◌, ◌<◌, ◌≤◌, ◌⊎◌, true, false, List, length, Some, None, ◌≢◌, slice_index}
use Rattle.policy.specs.Access.{compartments_of, rules_of, capacities_of}
use Rattle.policy.specs.Layout.{size, starts_from, end_from}
use Rattle.policy.specs.Numbers.{at_fault, places, bad_view, users_in, compartments_in, policy_fault, rules_in}
use Rattle.policy.specs.Read.{ReadsPolicy}
use Rattle.policy.specs.Rules.{Rules, sees, flows, Sound}
use Rattle.policy.specs.declared.Policy.{Policy}
use Rattle.base.specs.declared.refusal.Refusal.{Refusal}
use Rattle.base.specs.declared.refusal.Refusal.TheVariants.{OutOfBounds, BadView}

-- no number is at fault
abbrev pub Faultless : ℕ → List ℕ → Type 0
Faultless most xs = (k : ℕ) → k < places xs → at_fault most xs k ≡ false

-- a refusal names the lowest place at fault; else, where no number is at fault, the lowest user with a bad view;
-- what is not refused has neither; and there is no other refusal
abbrev pub PoliciesRefusedLowest : Type 0
PoliciesRefusedLowest = (most : ℕ) (xs : List ℕ) →
    ((p : ℕ) → policy_fault most xs ≡ Some (OutOfBounds p) →
    (p < places xs) × (at_fault most xs p ≡ true) × ((k : ℕ) → k < p → at_fault most xs k ≡ false))
    × ((u : ℕ) → policy_fault most xs ≡ Some (BadView u) →
    Faultless most xs × (u < users_in xs) × (bad_view xs u ≡ true) × ((k : ℕ) → k < u → bad_view xs k ≡ false))
    × (policy_fault most xs ≡ None → Faultless most xs × ((u : ℕ) → u < users_in xs → bad_view xs u ≡ false))
    × ((r : Refusal) → policy_fault most xs ≡ Some r → ((p : ℕ) × (r ≡ OutOfBounds p)) ⊎ ((u : ℕ) × (r ≡ BadView u)))

-- everybody sees compartments that are there, none twice, and the one in which they write; capacities are bounded
pub record ValidRules (p : Rules) (compartments most : ℕ) : Type 0 where
  pub sound : Sound p
  pub there : (u i : ℕ) → u < p.users → i < length (p.view u) → slice_index (p.view u) i < compartments
  pub once : (u i j : ℕ) → u < p.users → i < j → j < length (p.view u) →
      slice_index (p.view u) i ≢ slice_index (p.view u) j
  pub bounded : (c : ℕ) → c < compartments → p.capacity c ≤ most

-- every policy is valid, however it came about
abbrev pub PoliciesValid : Type 0
PoliciesValid = (p : Policy) → ValidRules (rules_of p) (compartments_of p) 4096

-- rules that are the same for users and compartments that are there
pub record SameRules (p q : Rules) (compartments : ℕ) : Type 0 where
  pub users : p.users ≡ q.users
  pub view : (u : ℕ) → u < p.users → p.view u ≡ q.view u
  pub writes : (u : ℕ) → u < p.users → p.writes u ≡ q.writes u
  pub capacity : (c : ℕ) → c < compartments → p.capacity c ≡ q.capacity c

-- a policy that was read has the rules of its numbers
abbrev pub ReadsRules : Type 0
ReadsRules = (xs : List ℕ) (p : Policy) → ReadsPolicy xs p → SameRules (rules_of p) (rules_in xs) (compartments_in xs)

-- rows may flow from a to b exactly if everybody who sees b sees a
abbrev pub FlowsBothWays : Type 0
FlowsBothWays = (p : Rules) (a b : ℕ) →
    (flows p a b ≡ true → (u : ℕ) → u < p.users → sees p u b ≡ true → sees p u a ≡ true)
    × (((u : ℕ) → u < p.users → sees p u b ≡ true → sees p u a ≡ true) → flows p a b ≡ true)

-- every compartment flows to itself, and what flows on from b to c may flow from a to c
abbrev pub FlowsDown : Type 0
FlowsDown =
    (p : Rules) (a b c : ℕ) → (flows p a a ≡ true) × (flows p a b ≡ true → flows p b c ≡ true → flows p a c ≡ true)

-- compartments lie apart, and before the caches
abbrev pub CompartmentsApart : Type 0
CompartmentsApart = (p : Policy) (d : ℕ) → d < compartments_of p →
    let starts = starts_from 0 (capacities_of p) in
    (slice_index starts d + size (slice_index (capacities_of p) d) ≤ end_from 0 (capacities_of p))
    × ((c : ℕ) → c < d → slice_index starts c + size (slice_index (capacities_of p) c) ≤ slice_index starts d)
