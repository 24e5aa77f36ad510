-- A query changes no compartment: the caches follow them in memory.
use Rattle.std.proofs.Common.{◌≡◌, ℕ, ◌+◌, ◌*◌, ◌^◌, ◌<◌, ◌≤◌, min, Bool, cond, ltb, leb, List, ◌++◌, length, get_or, take, drop, Some, None, Ok, Err, Option, Result, sym, refl, ap, ◌∙◌, subst, inl, inr, arith}
use Rattle.std.proofs.lemmas.List.{take-append-drop, take-append-le, drop-append-le, get_or_append_left, length-take-le, length-drop}
use Rattle.std.proofs.lemmas.Bool.{cases_lt, lt-ltb, le-ltb}
use Rattle.policy.specs.declared.place.Place.{Place}
use Rattle.policy.specs.declared.Policy.{Policy}
use Rattle.base.specs.declared.refusal.Refusal.{Refusal}
use Rattle.base.specs.declared.refusal.Refusal.TheVariants.{NoUser}
use Rattle.policy.specs.Access.{capacities_of, contract_at, cache_at, memory_length}
use Rattle.policy.specs.Layout.{end_from, starts_from}
use Rattle.policy.specs.Views.{view_of}
use Rattle.policy.proofs.Proved.{compartments_apart}
use Rattle.query.specs.declared.Outcome.{Outcome}
use Rattle.cache.specs.declared.CachedAnswer.{CachedAnswer}
use Rattle.cache.specs.declared.CachedAnswer.TheVariants.{Rows, Total, Shared, NotSeen}
use Rattle.cache.specs.CachePlaces.{look_up}
use Rattle.memory_query.specs.CallResult.{CallResult, unless_refused}
use Rattle.memory_query.specs.MemoryParts.{version_in, part_in, fault_in, lowest_fault, cache_part, with_cache}
use Rattle.memory_query.specs.AskResult.{Inquiry, row_length_by, check_told, work_result, memory_with, cache_result, inquiry_result}
use Rattle.std.specs.Option.{ok_or}
use Rattle.memory_query.specs.Stay.{SameCompartment, CompartmentsStay}
use Rattle.std.proofs.lemmas.Option.{none-some, same_Some}

-- the front of a list is the same whatever follows
front : (xs ys : List ℕ) (n j : ℕ) → j + n ≤ length xs → take n (drop j (xs ++ ys)) ≡ take n (drop j xs)
front xs ys n j h =
    ap (λ (zs : List ℕ). take n zs) (drop-append-le j xs ys (omega arith)) ∙ take-append-le n (drop j xs) ys (let l = length-drop j xs in omega arith)

module _ (xs ys zs : List ℕ) where
  same_front : (n j : ℕ) → j + n ≤ length xs → take n (drop j (xs ++ ys)) ≡ take n (drop j (xs ++ zs))
  same_front n j h = front xs ys n j h ∙ sym (front xs zs n j h)

  same_number : (i : ℕ) → i < length xs → get_or (xs ++ ys) i 0 ≡ get_or (xs ++ zs) i 0
  same_number i h = get_or_append_left xs ys 0 i h ∙ sym (get_or_append_left xs zs 0 i h)

  same_place : (place : Place) → place.start + 2 + 2 * place.capacity ≤ length xs →
      (part_in (xs ++ ys) (Some place) ≡ part_in (xs ++ zs) (Some place))
      × (version_in (xs ++ ys) (Some place) ≡ version_in (xs ++ zs) (Some place))
      × (fault_in (xs ++ ys) (Some place) ≡ fault_in (xs ++ zs) (Some place))
  same_place place h =
      let s = place.start in
      let v = same_number s (omega arith) in
      let n = same_number (s + 1) (omega arith) in
      let m = min (get_or (xs ++ zs) (s + 1) 0) place.capacity in (
        ap (λ (k : ℕ). take (2 * min k place.capacity) (drop (s + 2) (xs ++ ys))) n ∙ same_front (2 * m) (s + 2) (omega arith),
        v,
        ap (λ (k : ℕ). cond (leb (2 ^ 40) k) (Some s) (cond (ltb place.capacity (get_or (xs ++ ys) (s + 1) 0)) (Some (s + 1)) None)) v
            ∙ ap (λ (k : ℕ). cond (leb (2 ^ 40) (get_or (xs ++ zs) s 0)) (Some s) (cond (ltb place.capacity k) (Some (s + 1)) None)) n,
      )

same_refl : (p : Policy) (c : ℕ) (memory : List ℕ) → SameCompartment p c memory memory
same_refl p c memory = record { rows = refl; version = refl; bounds = refl }

-- what precedes the caches
before : (p : Policy) (c : ℕ) (xs ys zs : List ℕ) → end_from 0 (capacities_of p) ≤ length xs → SameCompartment p c (xs ++ ys) (xs ++ zs)
before p c xs ys zs h = elim (cases_lt c p.compartments) [
  | inl l ↦
      let a = (compartments_apart p c l).0 in
      let s = same_place xs ys zs (record { start = get_or (starts_from 0 (capacities_of p)) c 0; capacity = get_or (capacities_of p) c 0 }) (omega arith) in
      let t = lt-ltb c p.compartments l in
      record { rows = rw t s.0; version = rw t s.1; bounds = rw t s.2 }
  | inr l ↦ let t = le-ltb c p.compartments l in record { rows = rw t refl; version = rw t refl; bounds = rw t refl }
]

cache_behind : (p : Policy) (user at : ℕ) → cache_at p user ≡ Some at → (end_from 0 (capacities_of p) ≤ at) × (at ≤ memory_length p)
cache_behind p user at e = elim (cases_lt user p.users) [
  | inl h ↦
      let place = end_from 0 (capacities_of p) + 192 * user in
      let i = same_Some place at (sym (ap (λ (b : Bool). cond b (Some place) None) (lt-ltb user p.users h)) ∙ e) in
      (omega arith, omega arith)
  | inr h ↦ absurd (none-some at (sym (ap (λ (b : Bool). cond b (Some (end_from 0 (capacities_of p) + 192 * user)) None) (le-ltb user p.users h)) ∙ e))
]

module _ (p : Policy) (c : ℕ) (memory row : List ℕ) (l : memory_length p ≤ length memory) where
  abbrev Stays : CallResult Outcome → Type 0
  Stays call = SameCompartment p c call.memory memory

  other_cache : (user at : ℕ) (cache : List ℕ) → cache_at p user ≡ Some at → SameCompartment p c (with_cache at cache memory) memory
  other_cache user at cache e =
      let b = cache_behind p user at e in
      let n = length-take-le at memory (omega arith) in
      subst (λ (m : List ℕ). SameCompartment p c (with_cache at cache memory) m) (take-append-drop at memory)
      (before p c (take at memory) (cache ++ drop 192 (drop at memory)) (drop at memory) (omega arith))

  stays_kept : (user : ℕ) (i : Inquiry) (x : Result Outcome Refusal) → cache_at p user ≡ Some i.at → SameCompartment p c (memory_with i memory x) memory
  stays_kept user i (Ok outcome) e = other_cache user i.at _ e
  stays_kept user i (Err r) e = same_refl p c memory

  stays_found : (user : ℕ) (i : Inquiry) (found : Option CachedAnswer) → cache_at p user ≡ Some i.at →
      Stays (cache_result i row (work_result p memory row i) found)
  stays_found user i (Some Rows) e = same_refl p c memory
  stays_found user i (Some (Total rows amount)) e = same_refl p c memory
  stays_found user i (Some Shared) e = same_refl p c memory
  stays_found user i (Some NotSeen) e = same_refl p c memory
  stays_found user i None e = stays_kept user i (work_result p memory row i).told e

  stays_inquiry : (user : ℕ) (i : Inquiry) → cache_at p user ≡ Some i.at → Stays (inquiry_result p memory row i)
  stays_inquiry user i = stays_found user i (look_up i.query i.versions (cache_part i.at memory))

  stays_unless : {A : Type 0} (check : Result A Refusal) (next : A → CallResult Outcome) → ((x : A) → check ≡ Ok x → Stays (next x)) →
      Stays (unless_refused memory row check next)
  stays_unless (Ok x) next h = h x refl
  stays_unless (Err r) next h = same_refl p c memory

-- what a check hands on was there
there : (o : Option ℕ) (at : ℕ) (r : Refusal) → ok_or o r ≡ Ok at → o ≡ Some at
there (Some a) at r e = cc
there None at r e = absurd cc

pub compartments_stay : CompartmentsStay
compartments_stay p c user query memory row = elim (cases_lt (length memory) (memory_length p)) [
  | inl h ↦ rw (lt-ltb (length memory) (memory_length p) h) (same_refl p c memory)
  | inr h ↦
      rw (le-ltb (length memory) (memory_length p) h) (
      stays_unless p c memory row h (ok_or (contract_at p user) (NoUser user)) _ (λ contract e.
      stays_unless p c memory row h (ok_or (cache_at p user) (NoUser user)) _ (λ at e.
      stays_unless p c memory row h (check_told (length row) (row_length_by p contract query) (lowest_fault p memory (view_of contract))) _ (λ x f.
      stays_inquiry p c memory row h user _ (there (cache_at p user) at (NoUser user) e)))))
]
