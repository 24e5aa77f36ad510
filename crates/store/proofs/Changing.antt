-- A changed part that holds other rows gives a changed memory that holds the state with these rows.
use Rattle.std.proofs.Common.{◌≡◌, ℕ, suc, ◌+◌, ◌-◌, ◌<◌, ◌≤◌, Bool, true, false, cond, ◌⊎◌, List, length, drop, is_ok, Ok, Err, Result, sym, refl, ap, ◌∙◌, inl, inr, arith}
use Rattle.compartment.specs.ChangeResult.{ChangeResult}
use Rattle.compartment.specs.Holding as compartment
use Rattle.compartment.specs.Parts.{limit}
use Rattle.model.specs.Model.{State, Call, Response, done, refused, answered, is_accepted, set_rows, response, step}
use Rattle.policy.specs.Access.{rules_of, place_in}
use Rattle.policy.specs.declared.Policy.{Policy}
use Rattle.policy.specs.declared.place.Place.{Place}
use Rattle.base.specs.declared.refusal.Refusal.{Refusal}
use Rattle.policy.proofs.Proved.{compartments_apart}
use Rattle.rows.specs.declared.Row.{Row}
use Rattle.std.proofs.lemmas.List.{take-append-drop}
use Rattle.std.proofs.lemmas.Bool.{cases_Bool, cases_eq, cases_lt, eq-eqb, ne_eqb}
use Rattle.store.specs.Memory.{end, part, with_part, change_at}
use Rattle.store.specs.Simulation.{Holds, cache_start}
use Rattle.store.proofs.Parts.{kept_length, part_here, part_apart}

-- a response to a change, as the calls return it
abbrev pub as_result : Response → Result (Unit {0}) Refusal
as_result done = Ok tt
as_result (refused e) = Err e
as_result (answered a n) = Ok tt

-- a change that may be refused in two ways, as the calls return it
pub as_change : (fits lasts : Bool) (why last : Refusal) →
    as_result (cond fits (cond lasts done (refused last)) (refused why)) ≡ cond fits (cond lasts (Ok tt) (Err last)) (Err why)
as_change true true why last = refl
as_change true false why last = refl
as_change false lasts why last = refl

-- a change tells what the model tells, and leaves memory that holds the model's next state
pub record Follows (p : Policy) (s : State) (call : Call) (change : ChangeResult) : Type 0 where
  pub tells : change.told ≡ as_result (response (rules_of p) limit s call)
  pub holds : Holds p (step (rules_of p) limit s call) change.memory

accepted_is : (r : Response) → is_accepted r ≡ is_ok (as_result r)
accepted_is done = refl
accepted_is (refused e) = refl
accepted_is (answered a n) = refl

pub ok_is : (t : Result (Unit {0}) Refusal) → is_ok t ≡ true → t ≡ Ok tt
ok_is (Ok tt) e = refl
ok_is (Err x) e = cc

pub with_same : (q : Place) (memory : List ℕ) → with_part q (part q memory) memory ≡ memory
with_same q memory = rw (take-append-drop (end q - q.start) (drop q.start memory), take-append-drop q.start memory) refl

module _ (p : Policy) (s : State) (memory : List ℕ) (h : Holds p s memory) (c : ℕ) (there : c < p.compartments) where
  pub apart : (d : ℕ) → d < p.compartments → (d ≡ c → ⊥) →
      ((place_in p d).start + (end (place_in p d) - (place_in p d).start) ≤ (place_in p c).start)
      ⊎ ((place_in p c).start + (end (place_in p c) - (place_in p c).start) ≤ (place_in p d).start)
  apart d l ne =
      elim (cases_lt d c) [
        | inl lt ↦ inl (omega (arith, (compartments_apart p c there).1 d lt))
        | inr le ↦ inr (omega (arith, (compartments_apart p d l).1 c (omega arith)))
      ]

  pub fits : (place_in p c).start + (end (place_in p c) - (place_in p c).start) ≤ length memory
  fits = omega (arith, (compartments_apart p c there).0, h.long)

  module _ (new : List Row) (after : List ℕ) (holds : compartment.PartHolds ((rules_of p).capacity c) (suc (s.version c)) new after) where
    long : length after ≡ end (place_in p c) - (place_in p c).start
    long = omega (arith, holds.long)

    changed_holds : Holds p (set_rows s c new) (with_part (place_in p c) after memory)
    changed_holds = record {
      long = rw (kept_length memory after (place_in p c).start (end (place_in p c) - (place_in p c).start) fits long) h.long;
      compartments = λ d l. elim (cases_eq d c) [
        | inl e ↦ rw (e, eq-eqb c c refl, part_here memory after (place_in p c).start (end (place_in p c) - (place_in p c).start) fits long) holds
        | inr ne ↦ rw (ne_eqb c d (λ z. ne (sym z)), part_apart memory after (place_in p c).start (end (place_in p c) - (place_in p c).start) fits long (place_in p d).start (end (place_in p d) - (place_in p d).start) (apart d l ne)) (h.compartments d l)
      ];
      caches = λ u l. part_apart memory after (place_in p c).start (end (place_in p c) - (place_in p c).start) fits long (cache_start p u) 192
          (inr (omega (arith, (compartments_apart p c there).0))) ∙ h.caches u l;
      few = h.few;
      of_view = h.of_view;
    }

  pub change_holds : (change : ChangeResult) (r : Response) (new : List Row) → change.told ≡ as_result r
      → (change.told ≡ Ok tt → compartment.PartHolds ((rules_of p).capacity c) (suc (s.version c)) new change.memory)
      → (is_ok change.told ≡ false → change.memory ≡ part (place_in p c) memory)
      → Holds p (cond (is_accepted r) (set_rows s c new) s) (change_at (place_in p c) memory change).memory
  change_holds change r new tells makes keeps =
      elim (cases_Bool (is_ok change.told)) [
        | inl e ↦
            let yes : is_accepted r ≡ true = accepted_is r ∙ (ap is_ok (sym tells) ∙ e) in
            rw yes (changed_holds new change.memory (makes (ok_is change.told e)))
        | inr e ↦
            let no : is_accepted r ≡ false = accepted_is r ∙ (ap is_ok (sym tells) ∙ e) in rw (no, keeps e, with_same (place_in p c) memory) h
      ]
