-- What is read off memory is what the model's state has.
use Rattle.std.proofs.Common.{◌≡◌, ℕ, ◌<◌, ◌≤◌, min, List, [], map, length, sym, refl, ap, ◌∙◌, subst, inl, inr, arith}
use Rattle.memory_query.specs.MemoryParts.{part_at}
use Rattle.cache.specs.Entries.{padded_entries}
use Rattle.compartment.specs.Parts.{limit}
use Rattle.model.specs.Model.{State, Call, empty, run}
use Rattle.policy.specs.Access.{rules_of, place_in}
use Rattle.policy.specs.declared.Policy.{Policy}
use Rattle.rows.specs.Halving.{flat, rows_of}
use Rattle.rows.proofs.Places.{rows_of_flat}
use Rattle.std.proofs.lemmas.Bool.{cases_lt, lt-ltb, le-ltb}
use Rattle.store.specs.Simulation.{Holds}
use Rattle.store.proofs.Standing.{stands_in, count_in, version_in}
use Rattle.promises.specs.Contents.{rows_at, version_at, cache_numbers, Reachable}
use Rattle.promises.specs.Traces.{call_of}
use Rattle.promises.proofs.Proved.{follows_the_model}

module _ (p : Policy) (s : State) (memory : List ℕ) (h : Holds p s memory) (c : ℕ) (there : c < p.compartments) where
  pub rows_held : rows_at p memory c ≡ s.rows c
  rows_held =
      let k = h.compartments c there in
      let n : min (length (s.rows c)) ((rules_of p).capacity c) ≡ length (s.rows c) = omega (arith, k.fits) in
      let e : part_at p memory c ≡ flat (s.rows c) =
      rw (lt-ltb c p.compartments there, count_in (place_in p c) memory (s.version c) (s.rows c) k, n) (stands_in (place_in p c) memory (s.version c) (s.rows c) k) in
      ap rows_of e ∙ rows_of_flat (s.rows c)

  pub version_held : version_at p memory c ≡ s.version c
  version_held = rw (lt-ltb c p.compartments there) (version_in (place_in p c) memory (s.version c) (s.rows c) (h.compartments c there))

-- an unknown compartment has no rows, and never changes
module _ (p : Policy) (memory : List ℕ) (c : ℕ) (past : p.compartments ≤ c) where
  pub no_rows : rows_at p memory c ≡ []
  no_rows = rw (le-ltb c p.compartments past) refl

  pub no_version : version_at p memory c ≡ 0
  no_version = rw (le-ltb c p.compartments past) refl

-- what stays in the model stays in memory
module _ (p : Policy) (s t : State) (memory after : List ℕ) (h : Holds p s memory) (k : Holds p t after) where
  pub rows_stay : (c : ℕ) → t.rows c ≡ s.rows c → rows_at p after c ≡ rows_at p memory c
  rows_stay c e = elim (cases_lt c p.compartments) [
    | inl l ↦ rows_held p t after k c l ∙ (e ∙ sym (rows_held p s memory h c l))
    | inr l ↦ no_rows p after c l ∙ sym (no_rows p memory c l)
  ]

  pub version_stays : (c : ℕ) → t.version c ≡ s.version c → version_at p after c ≡ version_at p memory c
  version_stays c e = elim (cases_lt c p.compartments) [
    | inl l ↦ version_held p t after k c l ∙ (e ∙ sym (version_held p s memory h c l))
    | inr l ↦ no_version p after c l ∙ sym (no_version p memory c l)
  ]

  pub cache_stays : (u : ℕ) → u < p.users → t.cache u ≡ s.cache u → cache_numbers p after u ≡ cache_numbers p memory u
  cache_stays u l e = k.caches u l ∙ (ap (padded_entries 8) e ∙ sym (h.caches u l))

-- memory as calls leave it holds the model's state
module _ (p : Policy) (memory : List ℕ) (r : Reachable p memory) where
  abbrev pub calls : List Call
  calls = map call_of r.calls

  abbrev pub state : State
  state = run (rules_of p) limit empty calls

  pub reached : Holds p state memory
  reached = subst (λ (m : List ℕ). Holds p state m) (sym r.is) (follows_the_model p r.start r.calls r.long r.fit)
