-- A query follows the model.
use Rattle.std.proofs.Common.{◌≡◌, ℕ, zero, suc, ◌+◌, ◌-◌, ◌<◌, ◌≤◌, min, true, false, ltb, ◌⊎◌, List, [], ◌∷◌, length, take, Some, None, Option, sym, refl, ◌∙◌, inl, inr, arith}
use Rattle.memory_query.specs.AskResult.{ask_result}
use Rattle.memory_query.specs.MemoryParts.{part_at, version_at, fault_at, with_cache}
use Rattle.memory_query.specs.Tie as tie
use Rattle.memory_query.proofs.Tied.{queries_as_model}
use Rattle.cache.specs.Entries.{Entry, padded_entries, OfView}
use Rattle.cache.specs.declared.CachedAnswer.{CachedAnswer}
use Rattle.cache.proofs.Stored.{length_held}
use Rattle.compartment.specs.Holding as compartment
use Rattle.compartment.specs.Parts.{limit}
use Rattle.model.specs.Model.{State, lend, is_accepted, response, step, remember, entry, look_up}
use Rattle.model.proofs.Changes.{only_writers}
use Rattle.policy.specs.Access.{rules_of, place_in, cache_at}
use Rattle.policy.specs.Rules.{sees}
use Rattle.policy.specs.Views.{nobody}
use Rattle.policy.specs.declared.Policy.{Policy}
use Rattle.policy.proofs.Proved.{compartments_apart, seen_there, policies_valid}
use Rattle.query.specs.declared.Query.{Query}
use Rattle.request.specs.declared.Request.TheVariants.{Query as Ask}
use Rattle.rows.specs.declared.Row.{Row}
use Rattle.rows.specs.Halving.{flat}
use Rattle.std.proofs.lemmas.List.{get_or_past, length-take, length-take-le, length-map}
use Rattle.std.proofs.lemmas.Bool.{cases_Bool, cases_eq, cases_lt, lt-ltb, le-ltb, lt-leb, ltb-true, eq-eqb, cond-true, cond-false, both_ways}
use Rattle.std.specs.List.{AllByRecursion}
use Rattle.store.specs.Memory.{end, part}
use Rattle.store.specs.Simulation.{Holds, cache_start}
use Rattle.store.proofs.Parts.{kept_length, part_here, part_apart}
use Rattle.store.proofs.Standing.{stands_in, count_in, version_in}

-- who sees something is there
pub seer_there : (p : Policy) (user c : ℕ) → sees (rules_of p) user c ≡ true → user < p.users
seer_there p user c e =
    elim (cases_lt user p.users) [
      | inl h ↦ h
      | inr h ↦
          let none = get_or_past (take p.users p.contracts) user nobody (rw (length-take-le p.users p.contracts (omega arith)) h) in
          absurd (both_ways false refl (rw none at e))
    ]

small : (rs : List Row) → AllByRecursion compartment.FitsU32s rs → AllByRecursion (λ x. x.amount < 4294967296) rs
small [] a = tt
small (x ∷ xs) a = (a.0.1, small xs a.1)

module _ (p : Policy) (s : State) (memory : List ℕ) (h : Holds p s memory) (user : ℕ) where
  module _ (c : ℕ) (e : sees (rules_of p) user c ≡ true) where
    there : c < p.compartments
    there = seen_there p user c (seer_there p user c e) e

    held_c : compartment.PartHolds ((rules_of p).capacity c) (s.version c) (s.rows c) (part (place_in p c) memory)
    held_c = h.compartments c there

    rows_c : part_at p memory c ≡ flat (s.rows c)
    rows_c =
        let n : min (length (s.rows c)) ((rules_of p).capacity c) ≡ length (s.rows c) = omega (arith, held_c.fits) in
        rw (lt-ltb c p.compartments there, count_in (place_in p c) memory (s.version c) (s.rows c) held_c, n) (stands_in (place_in p c) memory (s.version c) (s.rows c) held_c)

    version_c : version_at p memory c ≡ s.version c
    version_c = rw (lt-ltb c p.compartments there) (version_in (place_in p c) memory (s.version c) (s.rows c) held_c)

    bounds_c : fault_at p memory c ≡ None
    bounds_c =
        rw (
          lt-ltb c p.compartments there,
          version_in (place_in p c) memory (s.version c) (s.rows c) held_c,
          count_in (place_in p c) memory (s.version c) (s.rows c) held_c,
          lt-leb limit (s.version c) held_c.bounded,
          le-ltb ((rules_of p).capacity c) (length (s.rows c)) held_c.fits,
        ) refl

  cache_is : (at : ℕ) → cache_at p user ≡ Some at → (user < p.users) × (at ≡ cache_start p user)
  cache_is at e =
      elim (cases_Bool (ltb user p.users)) [
        | inl t ↦ (ltb-true user p.users t, let f = rw t at e in cc)
        | inr t ↦ let f = rw t at e in absurd cc
      ]

  pub seen : tie.HoldsView p s user memory
  seen = record {
    long = h.long;
    rows = rows_c;
    version = version_c;
    bounds = bounds_c;
    orderly = λ c e. record {
      rises = (held_c c e).sorted;
      small = small (s.rows c) (held_c c e).small;
      within = (held_c c e).fits;
      few = (policies_valid p).bounded c (there c e);
    };
    cache = λ at e. let k = cache_is at e in rw k.1 (h.caches user k.0);
    few = h.few user;
    of_view = h.of_view user;
  }

-- a cache after a query: as it was, or with one entry in front and the newest eight left
module _ (p : Policy) (s : State) (user lent : ℕ) (query : Query) (P : List Entry → Type 0)
    (old : P (s.cache user)) (new : P (take 8 (entry (rules_of p) s user query ∷ s.cache user))) where
  by_find : (o : Option CachedAnswer) → P ((remember (rules_of p) s user query o).cache user)
  by_find (Some kept) = old
  by_find None = rw (eq-eqb user user refl) new

  pub next_cache : P ((step (rules_of p) limit s (lend (Ask user query) lent)).cache user)
  next_cache =
      elim (cases_Bool (is_accepted (response (rules_of p) limit s (lend (Ask user query) lent)))) [
        | inl e ↦ rw e (by_find (look_up (rules_of p) s user query))
        | inr e ↦ rw e old
      ]

fewer : (n k : ℕ) (es : List Entry) → OfView n es → OfView n (take k es)
fewer n zero es o = tt
fewer n (suc k) [] o = tt
fewer n (suc k) (e ∷ es) o = (o.0, fewer n k es o.1)

-- the caches of a state after a query
module _ (p : Policy) (s : State) (memory : List ℕ) (h : Holds p s memory) (user lent : ℕ) (query : Query) where
  stays : (u : ℕ) → (user ≡ u → ⊥) → (step (rules_of p) limit s (lend (Ask user query) lent)).cache u ≡ s.cache u
  stays = (only_writers (rules_of p) limit s (lend (Ask user query) lent)).cache

  few_then : (u : ℕ) → length ((step (rules_of p) limit s (lend (Ask user query) lent)).cache u) ≤ 8
  few_then u =
      elim (cases_eq user u) [
        | inl e ↦
            rw (sym e) (next_cache p s user lent query (λ es. length es ≤ 8) (h.few user) (rw length-take (omega arith)))
        | inr ne ↦ rw (stays u ne) (h.few u)
      ]

  of_view_then : (u : ℕ) → OfView (length ((rules_of p).view u)) ((step (rules_of p) limit s (lend (Ask user query) lent)).cache u)
  of_view_then u =
      elim (cases_eq user u) [
        | inl e ↦
            rw (sym e) (next_cache p s user lent query (λ es. OfView (length ((rules_of p).view user)) es) (h.of_view user)
            (fewer (length ((rules_of p).view user)) 8 (entry (rules_of p) s user query ∷ s.cache user) (length-map ((rules_of p).view user) s.version, h.of_view user)))
        | inr ne ↦ rw (stays u ne) (h.of_view u)
      ]

  blocks : (u : ℕ) → (user ≡ u → ⊥) → (cache_start p u + 192 ≤ cache_start p user) ⊎ (cache_start p user + 192 ≤ cache_start p u)
  blocks u ne = elim (cases_lt u user) [ inl l ↦ inl (omega arith) | inr l ↦ inr (omega arith) ]

  -- memory with the user's cache replaced
  pub asked_holds : user < p.users →
      Holds p (step (rules_of p) limit s (lend (Ask user query) lent))
      (with_cache (cache_start p user) (padded_entries 8 ((step (rules_of p) limit s (lend (Ask user query) lent)).cache user)) memory)
  asked_holds there =
      let t = step (rules_of p) limit s (lend (Ask user query) lent) in
      let own = only_writers (rules_of p) limit s (lend (Ask user query) lent) in
      let at = cache_start p user in
      let new = padded_entries 8 (t.cache user) in
      let wide : length new ≡ 192 = length_held 8 (t.cache user) (few_then user) in
      let inside : at + 192 ≤ length memory = omega (arith, h.long) in
      record {
        long = rw (kept_length memory new at 192 inside wide) h.long;
        compartments = λ c l.
            rw (
              own.query_rows refl c,
              own.query_version refl c,
              part_apart memory new at 192 inside wide (place_in p c).start (end (place_in p c) - (place_in p c).start)
                  (inl (omega (arith, (compartments_apart p c l).0))),
            ) (h.compartments c l);
        caches = λ u l. elim (cases_eq user u) [
          | inl e ↦ rw (sym e) (part_here memory new at 192 inside wide)
          | inr ne ↦ rw (stays u ne) (part_apart memory new at 192 inside wide (cache_start p u) 192 (blocks u ne) ∙ h.caches u l)
        ];
        few = few_then;
        of_view = of_view_then;
      }

-- a query does as the model, and leaves memory that holds the model's next state
pub ask_holds : (p : Policy) (s : State) (memory lent : List ℕ) (user : ℕ) (query : Query) → Holds p s memory →
    Holds p (step (rules_of p) limit s (lend (Ask user query) (length lent))) (ask_result p memory lent user query).memory
ask_holds p s memory lent user query h =
    let q = queries_as_model p limit s user query memory lent (seen p s memory h user) in
    elim (cases_Bool (ltb user p.users)) [
      | inl e ↦
          let at : cache_at p user ≡ Some (cache_start p user) = cond-true (ltb user p.users) _ _ e in
          rw (q.kept (cache_start p user) at) (asked_holds p s memory h user (length lent) query (ltb-true user p.users e))
      | inr e ↦
          let none : cache_at p user ≡ None = cond-false (ltb user p.users) _ _ e in
          rw (q.absent none, e) h
    ]
