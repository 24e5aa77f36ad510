-- What a request changes lies in one part of memory: the compartment in which its user writes, or the user's cache.
use Rattle.std.proofs.Common.{◌≡◌, ℕ, ◌-◌, ◌<◌, true, false, ◌&&◌, eqb, ltb, List, ◌++◌, length, take, drop, is_ok, Some, Ok, sym, refl, ap, ◌∙◌, inl, inr, arith}
use Rattle.cache.specs.Entries.{padded_entries}
use Rattle.cache.proofs.Stored.{length_held}
use Rattle.compartment.specs.ChangeResult.{ChangeResult}
use Rattle.compartment.specs.Changes.{put_change, delete_change, no_change}
use Rattle.compartment.specs.Holding as compartment
use Rattle.compartment.specs.Holding.{FitsU32s}
use Rattle.compartment.specs.Parts.{limit, write_part, delete_part, copy_part, raise_part}
use Rattle.compartment.proofs.Held.{refusal_leaves, write_holds, delete_holds, copy_holds, copy_refused, raise_holds}
use Rattle.memory_query.specs.AskResult.{ask_result}
use Rattle.memory_query.proofs.Tied.{queries_as_model}
use Rattle.model.specs.Effects.{plain}
use Rattle.model.specs.Model.{State, lend, who, asks, is_user, may_copy, step}
use Rattle.policy.specs.Access.{rules_of, place_in, write_target, cache_at}
use Rattle.policy.specs.Rules.{sees, flows}
use Rattle.policy.specs.declared.Policy.{Policy}
use Rattle.policy.specs.declared.place.Place.{Place}
use Rattle.policy.proofs.Proved.{seen_there, written_there}
use Rattle.query.specs.declared.Query.{Query}
use Rattle.request.specs.declared.Request.{Request}
use Rattle.request.specs.declared.Request.TheVariants.{Write, Delete, Copy, Query as Ask}
use Rattle.rows.specs.declared.KeyRange.{KeyRange}
use Rattle.rows.specs.declared.Row.{Row}
use Rattle.std.proofs.lemmas.Bool.{cases_Bool, and_parts, ltb-true, lt-ltb, cond-true}
use Rattle.store.specs.Memory.{end, part, with_part}
use Rattle.store.specs.Calls.{write_result, delete_result, copy_result}
use Rattle.store.specs.Served.{serve_result}
use Rattle.store.specs.Simulation.{Holds, FitsTypes, cache_start}
use Rattle.store.proofs.Asks.{seen, ask_holds}
use Rattle.store.proofs.Changing.{ok_is, with_same}
use Rattle.store.proofs.Following.{long_enough, both}

-- n numbers from a place on are replaced
pub record Replaced (at n : ℕ) (memory left : List ℕ) : Type 0 where
  pub new : List ℕ
  pub wide : length new ≡ n
  pub is : left ≡ take at memory ++ (new ++ drop n (drop at memory))

-- who may copy sees a source that is there
pub source_there : (p : Policy) (u c : ℕ) → may_copy (rules_of p) u c ≡ true → (is_user (rules_of p) u ≡ true) × (c < p.compartments)
source_there p u c e =
    let a = and_parts (is_user (rules_of p) u) (sees (rules_of p) u c && flows (rules_of p) c ((rules_of p).writes u)) e in
    let s = and_parts (sees (rules_of p) u c) (flows (rules_of p) c ((rules_of p).writes u)) a.1 in
    (a.0, seen_there p u c (ltb-true u p.users a.0) s.0)

-- what is done or refused is as wide as it was
as_wide : (n : ℕ) (change : ChangeResult) (old : List ℕ) → length old ≡ n → (change.told ≡ Ok tt → length change.memory ≡ n)
    → (is_ok change.told ≡ false → change.memory ≡ old) → length change.memory ≡ n
as_wide n change old wide makes keeps =
    elim (cases_Bool (is_ok change.told)) [ inl e ↦ makes (ok_is change.told e) | inr e ↦ ap length (keeps e) ∙ wide ]

-- what a write or a delete makes of a part
abbrev pub effect : Policy → Request → List ℕ → List ℕ
effect p (Write u row) = λ xs. (write_part (write_target p u) row xs).memory
effect p (Delete u key) = λ xs. (delete_part (write_target p u) key xs).memory
effect p (Copy u c range) = λ xs. xs
effect p (Ask u query) = λ xs. xs

module _ (p : Policy) (s : State) (memory : List ℕ) (h : Holds p s memory) where
  -- each request of a user who is there
  module _ (u : ℕ) (u_there : is_user (rules_of p) u ≡ true) where
    below : u < p.users
    below = ltb-true u p.users u_there

    pub own_there : (rules_of p).writes u < p.compartments
    own_there = written_there p u below

    abbrev own : Place
    own = place_in p ((rules_of p).writes u)

    held_own : compartment.PartHolds ((rules_of p).capacity ((rules_of p).writes u)) (s.version ((rules_of p).writes u)) (s.rows ((rules_of p).writes u)) (part own memory)
    held_own = h.compartments ((rules_of p).writes u) own_there

    part_wide : length (part own memory) ≡ end own - own.start
    part_wide = omega (arith, held_own.long)

    write_wide : (row : Row) → FitsU32s row → length (write_part (write_target p u) row (part own memory)).memory ≡ end own - own.start
    write_wide row b =
        as_wide (end own - own.start) (write_part (write_target p u) row (part own memory)) (part own memory) part_wide
        (λ ok. let k = write_holds _ _ (write_target p u) row _ (part own memory) held_own b ok in omega (arith, k.long))
        (refusal_leaves (write_target p u) (put_change row) (part own memory))

    delete_wide : (key : ℕ) → length (delete_part (write_target p u) key (part own memory)).memory ≡ end own - own.start
    delete_wide key =
        as_wide (end own - own.start) (delete_part (write_target p u) key (part own memory)) (part own memory) part_wide
        (λ ok. let k = delete_holds _ _ (write_target p u) key _ (part own memory) held_own ok in omega (arith, k.long))
        (refusal_leaves (write_target p u) (delete_change key) (part own memory))

    abbrev pub InOwn : List ℕ → Type 0
    InOwn left = Replaced own.start (end own - own.start) memory left

    write_replaced : (row : Row) → FitsU32s row → InOwn (write_result p memory u row).memory
    write_replaced row b = record {
      new = (write_part (write_target p u) row (part own memory)).memory;
      wide = write_wide row b;
      is = rw (long_enough p s memory h, u_there) refl;
    }

    delete_replaced : (key : ℕ) → InOwn (delete_result p memory u key).memory
    delete_replaced key = record {
      new = (delete_part (write_target p u) key (part own memory)).memory;
      wide = delete_wide key;
      is = rw (long_enough p s memory h, u_there) refl;
    }

    copy_replaced : (c : ℕ) (range : KeyRange) → may_copy (rules_of p) u c ≡ true → InOwn (copy_result p memory u c range).memory
    copy_replaced c range e =
        let d = (rules_of p).writes u in
        let c_there = (source_there p u c e).1 in
        let at = lt-ltb c p.compartments c_there in
        let source = part (place_in p c) memory in
        elim (cases_Bool (eqb d c)) [
          | inl i ↦ rw (long_enough p s memory h, e, u_there, at, i) (record {
            new = (raise_part (write_target p u) (part own memory)).memory;
            wide = as_wide (end own - own.start) (raise_part (write_target p u) (part own memory)) (part own memory) part_wide
                (λ ok. let l = raise_holds _ _ (write_target p u) _ (part own memory) held_own ok in omega (arith, l.long))
                (refusal_leaves (write_target p u) no_change (part own memory));
            is = refl;
          })
          | inr i ↦ rw (long_enough p s memory h, e, u_there, at, i) (record {
            new = (copy_part (record { from = place_in p c; written = write_target p u; range = range }) source (part own memory)).memory;
            wide = as_wide (end own - own.start) (copy_part (record { from = place_in p c; written = write_target p u; range = range }) source (part own memory)) (part own memory) part_wide
                (λ ok. let l = copy_holds (record { from = place_in p c; written = write_target p u; range = range }) _ _ _ _ source (part own memory) (both p s memory h u below c c_there range) ok in omega (arith, l.long))
                (copy_refused (record { from = place_in p c; written = write_target p u; range = range }) source (part own memory));
            is = refl;
          })
        ]

    copy_not_allowed : (c : ℕ) (range : KeyRange) → may_copy (rules_of p) u c ≡ false → InOwn (copy_result p memory u c range).memory
    copy_not_allowed c range e =
        record { new = part own memory; wide = part_wide; is = rw (long_enough p s memory h, e) (sym (with_same own memory)) }

    ask_replaced : (query : Query) (lent : List ℕ) → Replaced (cache_start p u) 192 memory (ask_result p memory lent u query).memory
    ask_replaced query lent =
        let t = step (rules_of p) limit s (lend (Ask u query) (length lent)) in
        let at : cache_at p u ≡ Some (cache_start p u) = cond-true (ltb u p.users) _ _ u_there in
        record {
          new = padded_entries 8 (t.cache u);
          wide = length_held 8 (t.cache u) ((ask_holds p s memory lent u query h).few u);
          is = (queries_as_model p limit s u query memory lent (seen p s memory h u)).kept (cache_start p u) at;
        }

  pub change_replaced : (r : Request) (lent : List ℕ) → FitsTypes r → (t : is_user (rules_of p) (who r) ≡ true) → asks r ≡ false →
      InOwn (who r) t (serve_result p memory lent r).memory
  change_replaced (Write u row) lent b t a = write_replaced u t row b
  change_replaced (Delete u key) lent b t a = delete_replaced u t key
  change_replaced (Copy u c range) lent b t a = elim (cases_Bool (may_copy (rules_of p) u c)) [
    | inl e ↦ copy_replaced u t c range e
    | inr e ↦ copy_not_allowed u t c range e
  ]
  change_replaced (Ask u query) lent b t a = absurd cc

  pub query_replaced : (r : Request) (lent : List ℕ) → is_user (rules_of p) (who r) ≡ true → asks r ≡ true →
      Replaced (cache_start p (who r)) 192 memory (serve_result p memory lent r).memory
  query_replaced (Write u row) lent t a = absurd cc
  query_replaced (Delete u key) lent t a = absurd cc
  query_replaced (Copy u c range) lent t a = absurd cc
  query_replaced (Ask u query) lent t a = ask_replaced u t query lent

module _ (p : Policy) (s : State) (memory : List ℕ) (h : Holds p s memory) (r : Request) (lent : List ℕ) (simple : plain r ≡ true)
    (b : FitsTypes r) (t : is_user (rules_of p) (who r) ≡ true) where
  abbrev pub place : Place
  place = place_in p ((rules_of p).writes (who r))

  pub plain_leaves : (serve_result p memory lent r).memory ≡ with_part place (effect p r (part place memory)) memory
  plain_leaves = by r simple t
    where
      by : (r : Request) → plain r ≡ true → is_user (rules_of p) (who r) ≡ true →
          (serve_result p memory lent r).memory ≡ with_part (place_in p ((rules_of p).writes (who r))) (effect p r (part (place_in p ((rules_of p).writes (who r))) memory)) memory
      by (Write u row) e t = rw (long_enough p s memory h, t) refl
      by (Delete u key) e t = rw (long_enough p s memory h, t) refl
      by (Copy u c range) e t = absurd cc
      by (Ask u query) e t = absurd cc

  pub effect_wide : length (effect p r (part place memory)) ≡ end place - place.start
  effect_wide = by r simple b t
    where
      by : (r : Request) → plain r ≡ true → FitsTypes r → is_user (rules_of p) (who r) ≡ true →
          length (effect p r (part (place_in p ((rules_of p).writes (who r))) memory)) ≡ end (place_in p ((rules_of p).writes (who r))) - (place_in p ((rules_of p).writes (who r))).start
      by (Write u row) e b t = write_wide p s memory h u t row b
      by (Delete u key) e b t = delete_wide p s memory h u t key
      by (Copy u c range) e b t = absurd cc
      by (Ask u query) e b t = absurd cc
